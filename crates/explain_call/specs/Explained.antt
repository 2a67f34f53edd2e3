-- What `explain` writes of a verdict. (our own choice; docs/FORMATS.md, What explain writes)
use Rattle.std.specs.Prelude.{ℕ, ◌+◌, Bool, true, false, not, List, [], ◌∷◌, ◌++◌, Option, Some, None, length, nat_lt, reverse, codes, decimal, if◌then◌else◌}
use Rattle.cam_types.specs.declared.script.Fault.{Fault}
use Rattle.cam_types.specs.declared.script.Fault.TheVariants as fault
use Rattle.cam_types.specs.declared.script.Script.{Script}
use Rattle.trace_model.specs.declared.verdict.RuleName.{RuleName}
use Rattle.trace_model.specs.declared.verdict.Verdict.TheVariants.{Legal}
use Rattle.trace_model.specs.declared.entry.Entry.{Entry}
use Rattle.trace_model.specs.declared.entry.Entry.TheVariants.{Begin, Call}
use Rattle.trace_model.specs.Entry.{is_refusal}
use Rattle.trace_model.specs.Frames.{has_target, is_sent}
use Rattle.trace_model.specs.Numbers.{call_count}
use Rattle.trace_text.specs.Spelling.{line_of}
use Rattle.call_parts.specs.Lines.{verdict_text}
use Rattle.rule_conditions.specs.declared.condition.Condition.{Condition}
use Rattle.rule_conditions.specs.Mentions.{mentions}
use Rattle.rule_conditions.specs.Sentences.{heading_of, section_of, sentence_of}
use Rattle.wrong_words.specs.Places.{place_of}
use Rattle.wrong_words.specs.declared.kind.LineKind.TheVariants as kind
use Rattle.wrong_words.specs.Lines.{headed, last_lines_where, shown_line}
use Rattle.wrong_words.specs.Shown.{numbered_line}
use Rattle.wrong_words.specs.Picks.{picks_part}
use Rattle.allowed_entries.specs.Entries.{allowed_entries}
use Rattle.explain_call.specs.Allowed.{allowed_part}

-- In all of these `part` is the script's text, and line k that of the trace's first entry, in the input.

-- a line of the script, where there is one
abbrev pub script_line : Option (ℕ × List ℕ) → List ℕ
script_line None = []
script_line (Some found) = numbered_line found.0 found.1

-- ---- illegal

-- `illegal: line N (entry P)`
unfoldable pub illegal_head : ℕ → ℕ → List ℕ
illegal_head k position =
    codes "illegal: line " ++ (decimal (k + position) ++ (codes " (entry " ++ (decimal position ++ codes ")\n")))

-- the sentence of the condition
unfoldable pub sentence_text : Condition → List ℕ
sentence_text condition = sentence_of condition ++ codes ".\n"

-- where the conditions of the rule stand in docs/CONTRACT.md
unfoldable pub heading_text : RuleName → List ℕ
heading_text rule = codes "(docs/CONTRACT.md, " ++ (heading_of rule ++ codes "; ")

-- which section of camera3.h asks for the condition
unfoldable pub section_text : Condition → List ℕ
section_text condition = section_of condition ++ codes ")\n"

-- the three of them
unfoldable pub reason_text : RuleName → Condition → List ℕ
reason_text rule condition = sentence_text condition ++ (heading_text rule ++ section_text condition)

unfoldable pub next_heading : List ℕ
next_heading = codes "The next command:\n"

-- the line of the command that is next, or that there is none, and whether one is to be called
abbrev pub next_command_text : Option (ℕ × List ℕ) → Bool → List ℕ
next_command_text (Some found) is_left = next_heading ++ numbered_line found.0 found.1
next_command_text None true = codes "The next command is the close that is added.\n"
next_command_text None false = codes "Every command was answered.\n"

-- the command that is next behind so many calls
unfoldable pub next_command : Script → List ℕ → ℕ → List ℕ
next_command script part calls =
    next_command_text (place_of kind.Command part calls) (nat_lt calls (length script.commands))

-- of an entry that begins or answers a command: the one that is next behind those before it
abbrev pub command_part : Script → List ℕ → List Entry → Entry → List ℕ
command_part script part before (Begin _) = next_command script part (call_count (reverse before))
command_part script part before (Call _ _ _) = next_command script part (call_count (reverse before))
command_part script part before _ = []

-- the condition that fails, and the last entries before of which it speaks. (There is one wherever an entry isn't
-- allowed.)
unfoldable pub failed_text : Script → List ℕ → RuleName → ℕ → List Entry → Entry → Option Condition → List ℕ
failed_text script part rule k before faulty None = []
failed_text script part rule k before faulty (Some condition) =
    reason_text rule condition
    ++ (command_part script part before faulty
    ++ headed (codes "It speaks of:\n") (last_lines_where (mentions condition (reverse before) faulty) k before))

-- what is allowed after the entries, in place of the faulty one
abbrev pub allowed_here : Script → List Entry → List ℕ
allowed_here script before = allowed_part (allowed_entries script (reverse before))

-- the head, the line of the entry, the condition that it doesn't meet, where there is one, and what is allowed in its
-- place
unfoldable pub illegal_text : Script → List ℕ → RuleName → ℕ → ℕ → List Entry → Entry → Option Condition → List ℕ
illegal_text script part rule k position before faulty failed =
    illegal_head k position
    ++ (codes "    "
    ++ (line_of faulty ++ (failed_text script part rule k before faulty failed ++ allowed_here script before)))

-- ---- legal

-- the fault is of a frame that was never sent, or of a stream that wasn't a target of it
abbrev pub is_unmet : List Entry → Fault → Bool
is_unmet past (fault.Request n) = not (is_sent n.0 past)
is_unmet past (fault.Result n) = not (is_sent n.0 past)
is_unmet past (fault.Buffer n s) = not (has_target n.0 s.0 past)
is_unmet past (fault.Device n) = not (is_sent n.0 past)

-- the line of the fault that has this place in the script
abbrev pub unmet_line : List ℕ → List Entry → ℕ → Fault → List ℕ
unmet_line part past place fault = if is_unmet past fault then script_line (place_of kind.Fault part place) else []

-- those of faults, of which the first has the place
abbrev pub unmet_lines : List ℕ → List Entry → ℕ → List Fault → List ℕ
unmet_lines part past place [] = []
unmet_lines part past place (fault ∷ faults) =
    unmet_line part past place fault ++ unmet_lines part past (place + 1) faults

-- the faults that no frame met, behind their heading
unfoldable pub unmet_part : Script → List ℕ → List Entry → List ℕ
unmet_part script part past = headed (codes "Faults that no frame met:\n") (unmet_lines part past 0 script.faults)

-- a command that was refused: its line in the script, and that of its call
unfoldable pub refused_command : List ℕ → ℕ → ℕ → Entry → List ℕ
refused_command part k place call =
    script_line (place_of kind.Command part place) ++ (codes "    " ++ shown_line k call)

abbrev pub refused_line : List ℕ → ℕ → Entry → List ℕ
refused_line part k (Call place word reply) =
    if is_refusal reply then refused_command part k place (Call place word reply) else []
refused_line part k _ = []

abbrev pub refused_lines : List ℕ → ℕ → List Entry → List ℕ
refused_lines part k [] = []
refused_lines part k (e ∷ entries) = refused_line part k e ++ refused_lines part (k + 1) entries

-- the commands that were refused
unfoldable pub refused_part : List ℕ → ℕ → List Entry → List ℕ
refused_part part k trace = headed (codes "Commands that were refused:\n") (refused_lines part k trace)

-- `legal`, and what of the script did nothing; the script's played run has so many moves
unfoldable pub legal_text : Script → List ℕ → ℕ → ℕ → List Entry → List ℕ
legal_text script part moves k trace =
    verdict_text Legal
    ++ (unmet_part script part (reverse trace) ++ (refused_part part k trace ++ picks_part script part moves))
