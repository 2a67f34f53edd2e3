-- What stands under the picture of a hal log (our own choice): its breaches, each event and rule once.
use Rattle.std.specs.Prelude.{ℕ, ◌-◌, ◌==◌, List, [], ◌∷◌, ◌++◌, Option, Some, None, codes, decimal, length, map, nat_lt, take, if◌then◌else◌}
use Rattle.hal_model.specs.Names.{rule_name, side_of}
use Rattle.hal_model.specs.declared.rule.Breach.{Breach}
use Rattle.hal_text.specs.Person.{is_same_heading}
use Rattle.hal_text.specs.Sentences.{sentence_of}
use Rattle.hal_text.specs.Plain.{side_text}
use Rattle.hal_timeline.specs.Groups.{number_at}

-- so many are told of
abbrev pub told_limit : ℕ
told_limit = 40

-- the first breach of each event and rule
abbrev pub headings : Option Breach → List Breach → List Breach
headings last [] = []
headings last (b ∷ bs) = if is_same_heading last b then headings (Some b) bs else b ∷ headings (Some b) bs

unfoldable pub rule_text : ℕ → List ℕ → List ℕ → List ℕ → List ℕ
rule_text line name side sentence =
    codes "line " ++ (decimal line ++ (codes ": " ++ (name ++ (codes " (" ++ (side ++ (codes "): " ++ sentence))))))

-- `line N: RULE (SIDE): SENTENCE`
abbrev pub heading_text : List ℕ → Breach → List ℕ
heading_text lines b =
    rule_text (number_at lines b.line) (rule_name b.rule) (side_text (side_of b.rule)) (sentence_of b.rule)

unfoldable pub count_text : ℕ → List ℕ
count_text count = if count == 0 then codes "no breach" else codes "breaches: " ++ decimal count

unfoldable pub more_text : ℕ → List ℕ
more_text more = codes "and " ++ (decimal more ++ codes " more lines, which camera hal has")

abbrev pub more_notes : ℕ → List (List ℕ)
more_notes count = if nat_lt told_limit count then more_text (count - told_limit) ∷ [] else []

unfoldable pub left_text : ℕ → List ℕ
left_text left =
    decimal left ++ codes " buffers have no bar: 64 streams have lanes, of up to 16 rows, and 64 bars stand at a time"

abbrev pub left_notes : ℕ → List (List ℕ)
left_notes left = if left == 0 then [] else left_text left ∷ []

-- those of the breaches with the headings
abbrev pub breach_notes : List ℕ → List Breach → List (List ℕ)
breach_notes lines heads = map (heading_text lines) (take told_limit heads) ++ more_notes (length heads)

-- how many breaches there are, each event and rule that is told of, and how many buffers are left out
abbrev pub notes_of : List ℕ → List Breach → ℕ → List (List ℕ)
notes_of lines breaches left =
    count_text (length breaches) ∷ (breach_notes lines (headings None breaches) ++ left_notes left)
