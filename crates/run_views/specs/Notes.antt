-- What stands under a picture: the verdict on the trace. (docs/FORMATS.md, The judge's input and lines)
use Rattle.std.specs.Prelude.{ℕ, List, [], ◌++◌, Option, Some, None, codes, decimal, reverse}
use Rattle.cam_types.specs.declared.script.Script.{Script}
use Rattle.rule_conditions.specs.Conditions.{first_failed}
use Rattle.rule_conditions.specs.declared.condition.Condition.{Condition}
use Rattle.rule_conditions.specs.Sentences.{sentence_of}
use Rattle.trace_model.specs.declared.entry.Entry.{Entry}
use Rattle.trace_model.specs.declared.verdict.MissingPart.{MissingPart}
use Rattle.trace_model.specs.declared.verdict.MissingPart.TheVariants.{Calls, Open, Queued, Pool, Signal}
use Rattle.trace_model.specs.declared.verdict.RuleName.{RuleName}
use Rattle.trace_model.specs.declared.verdict.RuleName.TheVariants.{D9, D10, D11, D12, D13, D14, D15}
use Rattle.trace_model.specs.declared.verdict.Verdict.{Verdict}
use Rattle.trace_model.specs.declared.verdict.Verdict.TheVariants.{Legal, IllegalAt, Incomplete}

-- the rule that an entry breaks
abbrev pub rule_note : RuleName → List ℕ
rule_note D9 = codes " D9: "
rule_note D10 = codes " D10: "
rule_note D11 = codes " D11: "
rule_note D12 = codes " D12: "
rule_note D13 = codes " D13: "
rule_note D14 = codes " D14: "
rule_note D15 = codes " D15: "

abbrev pub condition_note : Option Condition → List ℕ
condition_note (Some condition) = sentence_of condition
condition_note None = []

-- the sentence of the first condition that an entry doesn't meet behind those before it, as `explain` says it
-- (docs/CONTRACT.md, What each entry needs)
abbrev pub fault_note : Script → List Entry → Option Entry → List ℕ
fault_note script before (Some fault) = condition_note (first_failed script (reverse before) fault)
fault_note script before None = []

abbrev pub part_note : MissingPart → List ℕ
part_note Calls = codes "incomplete calls: a command wasn't called"
part_note Open = codes "incomplete open: the device isn't done with a frame"
part_note Queued = codes "incomplete queued: an item is queued"
part_note Pool = codes "incomplete pool: a buffer isn't in the pool"
part_note Signal = codes "incomplete signal: a released fence isn't signalled"

-- the words of `check`, and what they mean: of a verdict on a trace, with the entries that are allowed and the one that
-- isn't
abbrev pub note_text : Script → List Entry → Option Entry → Verdict → List ℕ
note_text script before fault Legal = codes "legal"
note_text script before fault (IllegalAt position rule) =
    codes "illegal " ++ (decimal position ++ (rule_note rule ++ fault_note script before fault))
note_text script before fault (Incomplete part) = part_note part
