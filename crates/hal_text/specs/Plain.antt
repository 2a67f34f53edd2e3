-- The plain report of a hal log, for tools. (docs/FORMATS.md, hal log)
use Rattle.std.specs.Prelude.{◌≡◌, IsTrue, ℕ, Bool, List, [], ◌∷◌, ◌++◌, length, nat_lt, slice_index, Option, Some, None, codes, decimal}
use Rattle.std.specs.List.{flat_map, list_all}
use Rattle.hal_model.specs.Names.{rule_name, side_of}
use Rattle.hal_model.specs.Rules.{report_by}
use Rattle.hal_model.specs.declared.event.HalEvent.{HalEvent}
use Rattle.hal_model.specs.declared.rule.Breach.{Breach}
use Rattle.hal_model.specs.declared.rule.Rule.{Rule}
use Rattle.hal_model.specs.declared.rule.Side.{Side}
use Rattle.hal_model.specs.declared.rule.Side.TheVariants.{Framework, Device}
use Rattle.text_parts.specs.Lines.{line_text}

-- whom a rule binds
abbrev pub side_text : Side → List ℕ
side_text Framework = codes "framework"
side_text Device = codes "device"

-- a number, or `-` where there is none
abbrev pub number_text : Option ℕ → List ℕ
number_text (Some n) = decimal n
number_text None = codes "-"

-- `LINE RULE framework|device FRAME STREAM`: the line is the event's in the text, of which the list has each event's
abbrev pub breach_words : List ℕ → Breach → List (List ℕ)
breach_words lines b =
    decimal (slice_index lines b.line) ∷ rule_name b.rule ∷ side_text (side_of b.rule) ∷ number_text b.frame
    ∷ number_text b.stream ∷ []

unfoldable pub breach_text : List ℕ → Breach → List ℕ
breach_text lines b = line_text (breach_words lines b)

-- numbers, each behind a space (32)
abbrev pub behind_spaces : List ℕ → List ℕ
behind_spaces numbers = flat_map (λ n. 32 ∷ decimal n) numbers

-- `open N M ..`, where requests are outstanding at the end; a line ends with LF (10)
unfoldable pub open_text : List ℕ → List ℕ
open_text [] = []
open_text outstanding = codes "open" ++ (behind_spaces outstanding ++ 10 ∷ [])

-- `first framework|device`, where there is a breach: whose the first is
unfoldable pub first_text : List Breach → List ℕ
first_text [] = []
first_text (b ∷ bs) = line_text (codes "first" ∷ side_text (side_of b.rule) ∷ [])

-- the report of a log: a line for each breach, what is outstanding at the end, and whose the first breach is
unfoldable pub plain_text : List ℕ → List Breach → List ℕ → List ℕ
plain_text lines breaches outstanding =
    flat_map (breach_text lines) breaches ++ (open_text outstanding ++ first_text breaches)

-- the event of a breach has its line in the list
abbrev pub has_line : List ℕ → Breach → Bool
has_line lines b = nat_lt b.line (length lines)

-- where each event has a line in the list, so does the event of each breach in a report of the log
abbrev pub ReportHasLines : List Rule → ℕ → List HalEvent → List ℕ → Type 0
ReportHasLines rules k log lines =
    length lines ≡ length log → IsTrue (list_all (has_line lines) (report_by rules k log))
