use Rattle.std.proofs.Common.{◌≡◌, ℕ, ◌<◌, ◌≤◌, List, length, Some, None, get_or, slice_get, refl}
use Rattle.std.specs.Option.{option_map}
use Rattle.std.proofs.lemmas.Option.{slice_get_past, slice_get_read}
use Rattle.device_rows.specs.declared.table_row.Row.{Row}
use Rattle.device_rows.specs.TableRows.{view_of}
use Rattle.device_rows.proofs.Places.{found-at}
use Rattle.device_rows.proofs.table.Table.at.Goals as goal

here : {B : Type 0} (rows lent : List (Row B)) (i : ℕ) (row : Row B) → lent ≡ rows → i < length lent → row ≡ get_or lent i row → Some row.view ≡ option_map view_of (slice_get rows i)
here rows lent i row same within at = let got = rw same at (slice_get_read lent (length lent) i row refl within at) in rw got refl

past : {B : Type 0} (rows lent : List (Row B)) (i : ℕ) → lent ≡ rows → length lent ≤ i → None ≡ option_map view_of (slice_get rows i)
past rows lent i same far = let none = rw same at (slice_get_past lent i far) in rw none refl

pub returns-in_err-row-clause-value : goal.returns-in_err-row-clause-value
returns-in_err-row-clause-value g c =
    rw (← c.self.view_is, c.from_residual.ensures) (past c.self.inside.rows.items c.deref.result.now c.args.place c.deref.ensures.value c.in_err-row.ensures.lookup.3)

pub returns-in_err-row-clause-found : goal.returns-in_err-row-clause-found
returns-in_err-row-clause-found g c = rw c.from_residual.ensures tt

pub returns-clause-value : goal.returns-clause-value
returns-clause-value g c =
    let at = c.in_ok-row.ensures.lookup in
    rw (← c.self.view_is) (here c.self.inside.rows.items c.deref.result.now c.args.place c.in_ok-row.row.now c.deref.ensures.value at.3.0 at.1)

pub returns-clause-found : goal.returns-clause-found
returns-clause-found g c =
    let at = c.in_ok-row.ensures.lookup in
    rw (← c.self.view_is) (found-at c.self.inside.rows.items c.deref.result.now c.args.place c.in_ok-row.row.now c.self.invariant.ordered c.deref.ensures.value at.3.0 at.1)
