-- What is judged of an entry's fields is judged of the entry.
use Rattle.std.proofs.Common.{◌≡◌, ◌↔◌, Bool, List, IsTrue, sym, subst}
use Rattle.cam_types.specs.declared.script.Script.{Script}
use Rattle.trace_model.specs.declared.entry.Entry.{Entry}
use Rattle.trace_model.specs.Allowed.{IsAllowed}

pub judged : (script : Script) (past : List Entry) (due : Bool) {entry shown : Entry} → entry ≡ shown → (IsTrue due ↔ IsAllowed script past shown) → (IsTrue due ↔ IsAllowed script past entry)
judged script past due is rule = subst (λ e. IsTrue due ↔ IsAllowed script past e) (sym is) rule
