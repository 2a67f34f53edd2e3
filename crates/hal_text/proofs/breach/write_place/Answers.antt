use Rattle.std.proofs.lemmas.Grind.{elements}
use Rattle.std.proofs.Common.{◌≡◌, ◌∙◌, ℕ, [], Option, Some, None, ap, refl, sym, arith}
use Rattle.std.specs.Prelude.{slice_get, string_bytes}
use Rattle.std.proofs.lemmas.Bool.{ltb-false, ltb-true}
use Rattle.std.proofs.lemmas.Option.{slice_get-get_or, slice_get_past}
use Rattle.std.proofs.lemmas.List.{append-nil}
use Rattle.basic_lemmas.proofs.Lists.{all-at}
use Rattle.hal_model.specs.Fits.{is_well_made}
use Rattle.hal_text.specs.Person.{line_of}
use Rattle.hal_text.proofs.breach.write_place.Goals as goal

pub write_line-requires : goal.write_line-requires
write_line-requires c =
    let is = c.in-Some-get.ensures.lookup in
    let found : slice_get c.args.log.now.events c.args.place ≡ Some c.in-Some-get.event.now = rw (← c.as_slice-in-Some.ensures) (slice_get-get_or c.as_slice-in-Some.result.now c.args.place c.in-Some-get.event.now (ltb-true _ _ (sym is.0)) ∙ ap Some (sym is.1)) in
    all-at is_well_made c.args.log.now.events c.args.place c.in-Some-get.event.now c.requires found

pub returns-in-Some-get : goal.returns-in-Some-get
returns-in-Some-get c = grind (arith, elements)

no-event : (line : Option ℕ) → line_of line None ≡ []
unfolding line_of
no-event None = refl
no-event (Some line) = refl

pub returns-in-None : goal.returns-in-None
unfolding line_of
returns-in-None c =
    let past : slice_get c.args.log.now.lines c.args.place ≡ None = rw (← c.as_slice.ensures) (slice_get_past c.as_slice.result.now c.args.place (ltb-false _ _ (sym c.in-None.ensures.lookup.0))) in
    rw past (sym (append-nil (string_bytes c.args.out.now)))

pub returns-in-None-get : goal.returns-in-None-get
returns-in-None-get c =
    let past : slice_get c.args.log.now.events c.args.place ≡ None = rw (← c.as_slice-in-Some.ensures) (slice_get_past c.as_slice-in-Some.result.now c.args.place (ltb-false _ _ (sym c.in-None-get.ensures.lookup.0))) in
    rw (past, no-event (slice_get c.args.log.now.lines c.args.place)) (sym (append-nil (string_bytes c.args.out.now)))
