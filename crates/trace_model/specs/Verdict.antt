use Rattle.std.specs.Prelude.{◌≡◌, ℕ, not, List, Option, Some, None, reverse, take, slice_get, if◌then◌else◌}
use Rattle.cam_types.specs.declared.script.Script.{Script}
use Rattle.trace_model.specs.declared.entry.Entry.{Entry}
use Rattle.trace_model.specs.declared.entry.Entry.TheVariants.{Begin, Call, Send, Dropped, Shutter, Partial, Filled, Failed, ErrorRequest, ErrorResult, ErrorBuffer, ErrorDevice, Release, Signal, Early, Late}
use Rattle.trace_model.specs.Allowed.{IsAllowed}
use Rattle.trace_model.specs.Complete.{IsComplete, is_all_called, is_all_signalled, is_queue_empty}
use Rattle.trace_model.specs.Legal.{IsLegal}
use Rattle.trace_model.specs.Open.{is_quiet}
use Rattle.trace_model.specs.Place.{all_in_pool}
use Rattle.trace_model.specs.declared.verdict.MissingPart.{MissingPart}
use Rattle.trace_model.specs.declared.verdict.MissingPart.TheVariants.{Calls, Open, Queued, Pool, Signal as SignalPart}
use Rattle.trace_model.specs.declared.verdict.RuleName.{RuleName}
use Rattle.trace_model.specs.declared.verdict.RuleName.TheVariants.{D9, D10, D11, D12, D13, D14, D15}
use Rattle.trace_model.specs.declared.verdict.Verdict.{Verdict}
use Rattle.trace_model.specs.declared.verdict.Verdict.TheVariants.{Legal, IllegalAt, Incomplete}

-- What the judge says of a trace, the first entry first, in the words of the definitions of a legal and a complete run.
-- The names of the rules are our own choice.

abbrev pub rule_of : Entry → RuleName
rule_of (Send _ _ _ _ _) = D9
rule_of (Dropped _ _ _) = D10
rule_of (Shutter _ _) = D11
rule_of (Partial _ _ _) = D12
rule_of (Filled _ _ _ _ _) = D13
rule_of (Early _ _ _ _) = D13
rule_of (Late _ _) = D13
rule_of (Failed _ _ _ _) = D14
rule_of (ErrorRequest _) = D14
rule_of (ErrorResult _) = D14
rule_of (ErrorBuffer _ _) = D14
rule_of ErrorDevice = D14
rule_of (Begin _) = D15
rule_of (Call _ _ _) = D15
rule_of (Release _ _) = D15
rule_of (Signal _) = D15

-- the entry at the position isn't allowed after those before it, and each of those is: so no earlier one isn't
pub record IsIllegalAt (script : Script) (trace : List Entry) (position : ℕ) (rule : RuleName) : Type 0 where
  pub entry : Entry
  pub at : slice_get trace position ≡ Some entry
  pub before : IsLegal script (reverse (take position trace))
  pub refused : IsAllowed script (reverse (take position trace)) entry → ⊥
  pub named : rule ≡ rule_of entry

-- the first of the five parts of complete that doesn't hold, in their order
abbrev pub first_missing : Script → List Entry → Option MissingPart
first_missing script past =
    if not (is_all_called script past) then Some Calls
    else (if not (is_quiet past) then Some Open
    else (if not (is_queue_empty script past) then Some Queued
    else (if not (all_in_pool past) then Some Pool
    else (if not (is_all_signalled past) then Some SignalPart
    else None))))

pub record IsIncomplete (script : Script) (trace : List Entry) (part : MissingPart) : Type 0 where
  pub legal : IsLegal script (reverse trace)
  pub missing : first_missing script (reverse trace) ≡ Some part

-- the verdict on a trace: a legal one is complete
abbrev pub IsVerdict : Script → List Entry → Verdict → Type 0
IsVerdict script trace Legal = IsComplete script (reverse trace)
IsVerdict script trace (IllegalAt position rule) = IsIllegalAt script trace position rule
IsVerdict script trace (Incomplete part) = IsIncomplete script trace part
