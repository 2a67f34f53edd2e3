-- The condition that fails is told.
use Rattle.std.proofs.Common.{◌≡◌, ℕ, List, Option, Some, Result, Ok, Err, sym, ap, ◌∙◌, take, reverse}
use Rattle.std.specs.Prelude.{IfOk, slice_get}
use Rattle.std.specs.declared.alloc.AllocError.{AllocError}
use Rattle.std.specs.Global.{Vec}
use Rattle.cam_types.specs.declared.script.Script.{Script}
use Rattle.trace_model.specs.declared.verdict.RuleName.{RuleName}
use Rattle.trace_model.specs.declared.entry.Entry.{Entry}
use Rattle.rule_conditions.specs.declared.condition.Condition.{Condition}
use Rattle.rule_conditions.specs.Conditions.{first_failed}
use Rattle.explain_call.specs.Explained.{illegal_text}
use Rattle.explain_call.specs.Explaining.{illegal_at, illegal_behind}

pub told : (script : Script) (part : List ℕ) (rule : RuleName) (k p : ℕ) (before : List Entry) (faulty : Entry) (failed : Condition) (first : Option Condition) (r : Result (Vec ℕ) AllocError) → first ≡ Some failed → IfOk r (λ text. text.items ≡ illegal_text script part rule k p before faulty (Some failed)) → IfOk r (λ text. text.items ≡ illegal_text script part rule k p before faulty first)
told script part rule k p before faulty failed first (Ok text) is h = h ∙ ap (λ (o : Option Condition). illegal_text script part rule k p before faulty o) (sym is)
told script part rule k p before faulty failed first (Err e) is h = tt

-- of the entry at the position
pub told_at : (script : Script) (part : List ℕ) (rule : RuleName) (k p : ℕ) (xs before : List Entry) (e : Entry) (r : Result (Vec ℕ) AllocError) → slice_get xs p ≡ Some e → before ≡ take p xs → IfOk r (λ text. text.items ≡ illegal_text script part rule k p before e (first_failed script (reverse before) e)) → IfOk r (λ text. text.items ≡ illegal_at script part rule k p xs)
told_at script part rule k p xs before e (Ok text) at is h =
    let h' : text.items ≡ illegal_behind script part rule k p before (Some e) = h in
    h' ∙ (ap (λ (b : List Entry). illegal_behind script part rule k p b (Some e)) is ∙ ap (λ (o : Option Entry). illegal_behind script part rule k p (take p xs) o) (sym at))
told_at script part rule k p xs before e (Err fault) at is h = tt
