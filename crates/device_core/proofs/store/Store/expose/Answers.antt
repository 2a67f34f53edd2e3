use Rattle.std.proofs.Common.{◌≡◌, ℕ, true, Some, length, refl, sym, ◌∙◌, ap}
use Rattle.std.specs.Vec.{vec_capacity}
use Rattle.cam_types.specs.declared.row.RowView.{RowView}
use Rattle.device_rows.specs.Jobs.{sensor_job}
use Rattle.device_rows.specs.Rows.{row_at}
use Rattle.cam_types.specs.declared.job.JobView.{JobView}
use Rattle.device_core.specs.Steps.{is_dark}
use Rattle.device_core.specs.Kept.{is_kept, IsKept, slot_of}
use Rattle.device_core.specs.declared.readouts.Slot.TheVariants.{Spare}
use Rattle.device_core.specs.declared.store.Store.TheInside.{Inside}
use Rattle.device_core.specs.Stored.{specs_of, views}
use Rattle.device_core.proofs.Agree.{range-none}
use Rattle.device_core.proofs.Moves.{dark-at, dark-row, exposed-moved}
use Rattle.device_core.proofs.Outs.{slot-spare, some-same, spare-away, spare-home}
use Rattle.device_core.proofs.Steps.{slot-at, slot-within, stands}
use Rattle.device_core.proofs.store.Store.expose.Goals as goal

-- the row that waits for the sensor
record IsExposing (i : Inside) (n : ℕ) : Type 0 where
  row : RowView
  found : row_at n (views i.table.rows) ≡ Some row
  dark : is_dark (Some row) ≡ true
  kept : is_kept (length (specs_of i.plan)) row ≡ true
  spare : slot_of row ≡ Spare 0

exposing : (i : Inside) → IsKept i.plan i.table.rows i.table.capacity i.slots.items (length i.spares.items) (vec_capacity i.slots) (vec_capacity i.spares) → (n : ℕ) → is_dark (row_at n (views i.table.rows)) ≡ true → IsExposing i n
exposing i kept n dark' =
    let (row, found, dark) = dark-at (row_at n (views i.table.rows)) dark' in
    let at = stands i.plan i.table.rows i.table.capacity i.slots.items (length i.spares.items) (vec_capacity i.slots) (vec_capacity i.spares) n row kept found in
    record {
      row = row;
      found = found;
      dark = dark;
      kept = at.kept;
      spare = slot-spare row (dark-row (length (specs_of i.plan)) row at.kept dark).sensor;
    }

pub find_row-place-requires : goal.find_row-place-requires
find_row-place-requires c = rw (exposing c.self.inside c.self.invariant c.args.frame.0 (rw (← c.self.view_is) at c.requires)).found refl

pub swap_slot-requires : goal.swap_slot-requires
swap_slot-requires c =
    slot-within c.self.inside.table.rows c.find_row-place.result.0 c.find_row-place.result.1 c.self.inside.slots.items c.self.invariant.shown c.find_row-place.ensures.placed

pub new-requires : goal.new-requires
new-requires c =
    let h = exposing c.self.inside c.self.invariant c.args.frame.0 (rw (← c.self.view_is) at c.requires) in
    let same = some-same h.row c.find_row-place.result.1 _ h.found c.find_row-place.ensures.found in
    rw (← same) (range-none (length (specs_of c.self.inside.plan)) h.row h.kept)

pub invariant_of-self : goal.invariant_of-self
invariant_of-self c =
    let h = exposing c.self.inside c.self.invariant c.args.frame.0 (rw (← c.self.view_is) at c.requires) in
    let same = some-same h.row c.find_row-place.result.1 _ h.found c.find_row-place.ensures.found in
    let step = exposed-moved c.self.inside.plan c.self.inside.table c.mark.new.self c.mark-2.new.self c.self.inside.slots.items c.swap_slot.new.slots.items (length c.self.inside.spares.items) (vec_capacity c.self.inside.slots) (vec_capacity c.swap_slot.new.slots) (vec_capacity c.self.inside.spares) c.args.frame.0 c.find_row-place.result.0 c.args.time h.row c.self.invariant h.found h.dark (c.find_row-place.ensures.placed ∙ ap (λ (z : RowView). Some z) (sym same)) (ap (λ (z : RowView). z.frame.0) same ∙ c.find_row-place.ensures.own) c.swap_slot.ensures.new c.mark.ensures.marked c.mark-2.ensures.marked c.swap_slot.ensures.capacity in
    step.kept

pub returns-clause-rows : goal.returns-clause-rows
returns-clause-rows c =
    let h = exposing c.self.inside c.self.invariant c.args.frame.0 (rw (← c.self.view_is) at c.requires) in
    let same = some-same h.row c.find_row-place.result.1 _ h.found c.find_row-place.ensures.found in
    let step = exposed-moved c.self.inside.plan c.self.inside.table c.mark.new.self c.mark-2.new.self c.self.inside.slots.items c.swap_slot.new.slots.items (length c.self.inside.spares.items) (vec_capacity c.self.inside.slots) (vec_capacity c.swap_slot.new.slots) (vec_capacity c.self.inside.spares) c.args.frame.0 c.find_row-place.result.0 c.args.time h.row c.self.invariant h.found h.dark (c.find_row-place.ensures.placed ∙ ap (λ (z : RowView). Some z) (sym same)) (ap (λ (z : RowView). z.frame.0) same ∙ c.find_row-place.ensures.own) c.swap_slot.ensures.new c.mark.ensures.marked c.mark-2.ensures.marked c.swap_slot.ensures.capacity in
    rw (← c.self.view_is) step.is

pub returns-clause-job : goal.returns-clause-job
returns-clause-job c =
    let job : sensor_job c.find_row-place.result.1 ≡ c.new.result = sym c.new.ensures in
    rw (← c.self.view_is, c.find_row-place.ensures.found) (ap (λ (z : JobView). Some z) job)

pub unreachable-requires : goal.unreachable-requires
unreachable-requires c =
    let h = exposing c.self.inside c.self.invariant c.args.frame.0 (rw (← c.self.view_is) at c.requires) in
    let same = some-same h.row c.find_row-place.result.1 _ h.found c.find_row-place.ensures.found in
    let spare = slot-at c.self.inside.table.rows c.find_row-place.result.0 c.find_row-place.result.1 c.self.inside.slots.items c.swap_slot.result c.self.invariant.shown c.find_row-place.ensures.placed c.swap_slot.ensures.old ∙ (ap (λ (z : RowView). slot_of z) (sym same) ∙ h.spare) in
    spare-home c.swap_slot.result _ c.in-Home.is spare

pub unreachable-requires-in-Away : goal.unreachable-requires-in-Away
unreachable-requires-in-Away c =
    let h = exposing c.self.inside c.self.invariant c.args.frame.0 (rw (← c.self.view_is) at c.requires) in
    let same = some-same h.row c.find_row-place.result.1 _ h.found c.find_row-place.ensures.found in
    let spare = slot-at c.self.inside.table.rows c.find_row-place.result.0 c.find_row-place.result.1 c.self.inside.slots.items c.swap_slot.result c.self.invariant.shown c.find_row-place.ensures.placed c.swap_slot.ensures.old ∙ (ap (λ (z : RowView). slot_of z) (sym same) ∙ h.spare) in
    spare-away c.swap_slot.result c.in-Away.is spare
