use Rattle.std.proofs.Common.{◌≡◌, ◌+◌, ℕ, List, [], ◌∷◌, ◌++◌, length, map, refl, sym, ap, ◌∙◌, arith}
use Rattle.std.proofs.lemmas.List.{length-map, length_push, map_push}
use Rattle.cam_types.specs.declared.row.RowView.{RowView}
use Rattle.device_rows.specs.TableRows.{view_of}
use Rattle.device_rows.specs.declared.table_row.Row.{Row}
use Rattle.device_core.specs.Kept.{slot_of}
use Rattle.device_core.specs.declared.buffers.Held.{Held}
use Rattle.device_core.specs.declared.readouts.Slot.{Slot}
use Rattle.device_core.specs.declared.readouts.Slot.TheVariants.{Spare}
use Rattle.device_core.proofs.Admission.{below-before, kept-admitted, one-each, rise-apart}
use Rattle.device_core.specs.Stored.{specs_of, Stored, views, with_rows}
use Rattle.device_core.proofs.store.Store.admit.Goals as goal

-- a list without its last value
one-less : {X : Type 0} (old new : List X) (x : X) → old ≡ new ++ x ∷ [] → length new + 1 ≡ length old
one-less old new x is = sym (ap length is ∙ length_push new x)

-- how many rows are seen, and how many slots there are
record AreAsMany (rows : List (Row Held)) (slots : List Slot) : Type 0 where
  seen : length (views rows) ≡ length rows
  held : length slots ≡ length rows

as-many : (rows : List (Row Held)) (slots : List Slot) → slots ≡ map slot_of (views rows) → AreAsMany rows slots
as-many rows slots shown =
    let seen = length-map rows view_of in
    record { seen = seen; held = ap length shown ∙ (length-map (views rows) slot_of ∙ seen) }

pub push_reserved-requires : goal.push_reserved-requires
push_reserved-requires c =
    let many = as-many c.self.inside.table.rows c.self.inside.slots.items c.self.invariant.shown in
    let less = one-less c.self.inside.spares.items c.pop.new.self.items c.in-Some.readout c.in-Some.ensures.items in
    omega (arith, many.held, less, c.self.invariant.enough, c.self.invariant.room.0)

pub unreachable-requires : goal.unreachable-requires
unreachable-requires c =
    let less = one-less c.self.inside.spares.items c.pop.new.self.items c.in-Some.readout c.in-Some.ensures.items in
    omega (arith, c.in-Err.ensures.full.0 refl, less, c.self.invariant.enough)

pub returns-in_default-clause-full : goal.returns-in_default-clause-full
returns-in_default-clause-full c =
    let many = as-many c.self.inside.table.rows c.self.inside.slots.items c.self.invariant.shown in
    rw (← c.self.view_is) (λ _. omega (arith, many.seen, c.in_default.ensures.cases.0, c.self.invariant.enough), λ _. refl)

pub returns-clause-full : goal.returns-clause-full
returns-clause-full c =
    let many = as-many c.self.inside.table.rows c.self.inside.slots.items c.self.invariant.shown in
    let less = one-less c.self.inside.spares.items c.pop.new.self.items c.in-Some.readout c.in-Some.ensures.items in
    rw (← c.self.view_is) (λ h. absurd (cc h), λ full. absurd (omega (arith, full, many.seen, less, c.self.invariant.enough)))

pub returns-clause-ok : goal.returns-clause-ok
returns-clause-ok c =
    let i = c.self.inside in
    let stored : Stored = record { plan = i.plan; capacity = i.table.capacity; rows = views i.table.rows } in
    let row : Row Held = record { view = c.args.row; parked = c.hold-held.result } in
    rw (← c.self.view_is, c.in-Ok.ensures.ok) (ap (λ (rows : List RowView). with_rows rows stored) (map_push view_of i.table.rows row))

pub admit-requires-clause-later : goal.admit-requires-clause-later
admit-requires-clause-later c =
    below-before c.args.row.frame.0 c.self.inside.table.rows (rw (← c.self.view_is) at c.requires.later)

pub admit-requires-clause-apart : goal.admit-requires-clause-apart
admit-requires-clause-apart c =
    rise-apart c.args.row.targets.a c.args.row.targets.b c.args.row.targets.c c.args.row.targets.d 0 _ c.requires.streams

pub admit-requires-clause-one_each : goal.admit-requires-clause-one_each
admit-requires-clause-one_each c =
    rw c.hold-held.ensures (one-each (specs_of c.self.inside.plan) c.args.row.targets c.args.parked (rw (← c.self.view_is) at c.requires.parked))

pub invariant_of-self-2 : goal.invariant_of-self-2
invariant_of-self-2 c =
    let added = c.in-Ok.ensures.ok in
    let streams = rw (← c.self.view_is) at c.requires.streams in
    let less = one-less c.self.inside.spares.items c.pop.new.self.items c.in-Some.readout c.in-Some.ensures.items in
    rw added (kept-admitted c.self.inside.plan c.self.inside.table.rows _ c.self.inside.table.capacity _ c.self.inside.slots.items c.push_reserved.new.self.items (length c.self.inside.spares.items) (length c.pop.new.self.items) _ _ _ _ c.args.row c.hold-held.result c.self.invariant c.hold-held.ensures refl (c.push_reserved.ensures.items ∙ ap (λ (z : ℕ). c.self.inside.slots.items ++ Spare z ∷ []) c.new.ensures) refl less c.push_reserved.ensures.capacity c.pop.ensures.capacity c.requires.fresh c.requires.range streams c.requires.some (rw (← c.self.view_is) at c.requires.later))
