use Rattle.std.specs.Prelude.{ℕ, List, [], ◌∷◌, ◌++◌, codes, decimal}
use Rattle.trace_model.specs.declared.verdict.MissingPart.{MissingPart}
use Rattle.trace_model.specs.declared.verdict.MissingPart.TheVariants.{Calls, Open, Queued, Pool, Signal}
use Rattle.trace_model.specs.declared.verdict.RuleName.{RuleName}
use Rattle.trace_model.specs.declared.verdict.RuleName.TheVariants.{D9, D10, D11, D12, D13, D14, D15}
use Rattle.trace_model.specs.declared.verdict.Verdict.{Verdict}
use Rattle.trace_model.specs.declared.verdict.Verdict.TheVariants.{Legal, IllegalAt, Incomplete}

-- The judge's lines. (docs/FORMATS.md)

abbrev pub rule_text : RuleName → List ℕ
rule_text D9 = codes "D9"
rule_text D10 = codes "D10"
rule_text D11 = codes "D11"
rule_text D12 = codes "D12"
rule_text D13 = codes "D13"
rule_text D14 = codes "D14"
rule_text D15 = codes "D15"

abbrev pub part_text : MissingPart → List ℕ
part_text Calls = codes "calls"
part_text Open = codes "open"
part_text Queued = codes "queued"
part_text Pool = codes "pool"
part_text Signal = codes "signal"

-- `legal`, `illegal POSITION RULE` or `incomplete PART`
abbrev pub verdict_text : Verdict → List ℕ
verdict_text Legal = codes "legal\n"
verdict_text (IllegalAt position rule) = codes "illegal " ++ (decimal position ++ 32 ∷ (rule_text rule ++ 10 ∷ []))
verdict_text (Incomplete part) = codes "incomplete " ++ (part_text part ++ 10 ∷ [])

-- the status that goes with it
abbrev pub verdict_status : Verdict → ℕ
verdict_status Legal = 0
verdict_status _ = 1

-- `LINE CAUSE` and the line's end
abbrev pub line_and_cause : ℕ → ℕ → List ℕ
line_and_cause line cause = decimal line ++ 32 ∷ (decimal cause ++ 10 ∷ [])

-- `refused script LINE CAUSE`
abbrev pub refused_script_text : ℕ → ℕ → List ℕ
refused_script_text line cause = codes "refused script " ++ line_and_cause line cause

-- `refused trace LINE CAUSE`
abbrev pub refused_trace_text : ℕ → ℕ → List ℕ
refused_trace_text line cause = codes "refused trace " ++ line_and_cause line cause
