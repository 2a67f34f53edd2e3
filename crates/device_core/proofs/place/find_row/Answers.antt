use Rattle.std.proofs.Common.{◌≡◌, ◌==◌, None, Some, refl, sym, ap, subst, ◌∙◌}
use Rattle.std.specs.List.{find}
use Rattle.std.specs.Option.{option_map}
use Rattle.std.proofs.lemmas.Bool.{false≢true, ne_eqb}
use Rattle.std.proofs.lemmas.List.{drop_all}
use Rattle.device_rows.specs.TableRows.{is_of, row_of, view_of}
use Rattle.device_core.proofs.General.{find-next, find-past-end}
use Rattle.device_core.proofs.Views.{find-views}
use Rattle.device_core.proofs.place.find_row.Goals.{in-Some+else-row-frame, in_default}
use Rattle.device_core.proofs.place.find_row.Goals as goal

pub loop-place-preserved : goal.loop-place-preserved
loop-place-preserved c =
    elim c.match-at.branch [
      | in-Some+else-row-frame w ↦ c.loop-place.invariant ∙ find-next (is_of c.args.frame.0) view_of (λ row. row.frame.0 == c.args.frame.0) c.args.table.now.rows c.loop-place.place _ w.in-Some.row (λ row. refl) refl (sym c.at.ensures.value ∙ w.in-Some.is) (ne_eqb _ _ w.if-row-frame.false)
      | in_default w ↦ c.loop-place.invariant ∙ find-past-end (is_of c.args.frame.0) view_of c.args.table.now.rows c.loop-place.place _ refl (sym c.at.ensures.value ∙ w.in_default.is)
    ]

pub unreachable-requires : goal.unreachable-requires
unreachable-requires c =
    let none : row_of c.args.frame.0 c.args.table.now.rows ≡ None = c.loop-place.invariant ∙ ap (find (is_of c.args.frame.0)) (drop_all c.loop-place.place c.args.table.now.rows (rw (← c.len-place-end.ensures.value) c.loop-place-test.false)) in
    let gone = find-views c.args.frame.0 c.args.table.now.rows ∙ ap (option_map view_of) none in
    false≢true (rw gone at c.requires)

pub returns-then-row-frame-clause-found : goal.returns-then-row-frame-clause-found
returns-then-row-frame-clause-found c =
    find-views c.args.frame.0 c.args.table.now.rows ∙ subst (λ k. option_map view_of (row_of k c.args.table.now.rows) ≡ Some c.in-Some.row) c.if-row-frame.true c.in-Some.ensures.found
