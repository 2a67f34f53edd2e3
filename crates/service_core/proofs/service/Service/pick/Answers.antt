use Rattle.std.proofs.Common.{Some, refl, sym, ap, ◌∙◌}
use Rattle.std.proofs.lemmas.Bool.{ltb-false, ltb-true}
use Rattle.std.proofs.lemmas.Option.{slice_get-get_or, slice_get_past}
use Rattle.service_core.proofs.service.Service.pick.Goals as goal

pub returns-in-Some : goal.returns-in-Some
returns-in-Some c =
    let is = c.in-Some.ensures.lookup in
    let found = slice_get-get_or c.as_slice.result.now c.len.result c.in-Some.pick.now (ltb-true _ _ (sym is.0)) ∙ ap Some (sym is.1) in
    rw (← c.self.view_is, ← c.script.ensures, ← c.as_slice.ensures, ← c.len.ensures, found) refl

pub returns-in-None : goal.returns-in-None
returns-in-None c =
    let past = slice_get_past c.as_slice.result.now c.len.result (ltb-false _ _ (sym c.in-None.ensures.lookup.0)) in
    rw (← c.self.view_is, ← c.script.ensures, ← c.as_slice.ensures, ← c.len.ensures, past) refl
