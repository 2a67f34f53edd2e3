-- What is asked of an entry's fields is asked of the entry.
use Rattle.std.proofs.Common.{◌≡◌, ◌↔◌, ◌∙◌, Bool, Option, Some, IsTrue, sym, subst, ap}
use Rattle.cam_types.specs.declared.script.Script.{Script}
use Rattle.trace_model.specs.declared.entry.Entry.{Entry}
use Rattle.state_facts.specs.Runs.{MayAdd}
use Rattle.state_facts.specs.States.{State}

-- the entry that is due is the one that is read from the state
pub read_as : (b : Bool) (due read : Option Entry) {entry shown : Entry} → entry ≡ shown → due ≡ read → (IsTrue b ↔ (due ≡ Some entry)) → (IsTrue b ↔ (read ≡ Some shown))
read_as b due read is same rule =
    (λ h. sym same ∙ (rule.0 h ∙ ap Some is), λ h. rule.1 (same ∙ (h ∙ ap Some (sym is))))

pub judged : (script : Script) (s : State) (b : Bool) {entry shown : Entry} → entry ≡ shown → (IsTrue b ↔ MayAdd script s shown) → (IsTrue b ↔ MayAdd script s entry)
judged script s b is rule = subst (λ e. IsTrue b ↔ MayAdd script s e) (sym is) rule
