use Rattle.std.proofs.Common.{◌≡◌, ℕ, true, Some, length, refl, sym, ◌∙◌, ap}
use Rattle.std.specs.Option.{option_and_then}
use Rattle.std.specs.Vec.{vec_capacity}
use Rattle.std.proofs.lemmas.Bool.{and_parts}
use Rattle.cam_types.specs.declared.job.JobView.{JobView}
use Rattle.cam_types.specs.declared.row.RowView.{RowView}
use Rattle.cam_types.specs.declared.row.SensorPlace.TheVariants.{Home}
use Rattle.cam_types.specs.declared.row.TargetState.{TargetState}
use Rattle.cam_types.specs.declared.row.TargetState.TheVariants.{Waiting}
use Rattle.cam_types.specs.declared.row.TargetView.{TargetView}
use Rattle.cam_types.specs.declared.stream.StreamSpec.{StreamSpec}
use Rattle.cam_types.specs.Picture.{is_offered}
use Rattle.device_rows.specs.Jobs.{sensor_job}
use Rattle.device_rows.specs.Kept.{is_made}
use Rattle.device_rows.specs.Ready.{is_home, is_passed, is_same_state, target_passes}
use Rattle.device_rows.specs.Rows.{row_at, target_at}
use Rattle.device_rows.specs.TableRows.{parked_for, row_of}
use Rattle.device_core.specs.Held.{Waiting as Place}
use Rattle.device_core.specs.Kept.{held_by, IsKept, slot_of, waiting_for}
use Rattle.device_core.specs.Steps.{is_fillable, is_open_to}
use Rattle.device_core.specs.Stored.{specs_of, views}
use Rattle.device_core.specs.declared.store.Store.TheInside.{Inside}
use Rattle.buffer_pool.specs.Fences.{FencesMade, is_signalled, made}
use Rattle.device_core.proofs.Agree.{range-none}
use Rattle.device_core.proofs.Moves.{begun-moved, is-home-place}
use Rattle.device_core.proofs.Ops.{met-too}
use Rattle.device_core.proofs.Outs.{fence-made, fence-passed, home-away, home-same, home-spare, job-for, job-same, not-none, not-waiting, place-of, slot-home, some-same, Taking, taking, waiting-state}
use Rattle.device_core.proofs.Steps.{slot-at, slot-within}
use Rattle.device_core.proofs.store.Store.begin_fill.Goals as goal

-- the target that waits, and the readout of its frame
record IsBeginning (i : Inside) (n s : ℕ) : Type 0 where
  row : RowView
  target : TargetView
  spec : StreamSpec
  taken : Taking i.plan i.table is_fillable n s row target spec
  waits : target.state ≡ Waiting
  home : row.sensor ≡ Home
  held : option_and_then (parked_for s) (row_of n i.table.rows) ≡ Some (waiting_for target spec)
  opened : (fences : FencesMade) → target_passes (is_open_to fences) s (row_at n (views i.table.rows)) ≡ true → (is_made (made fences) target.fence ≡ true) × (is_passed (λ f. is_signalled f fences) target.fence ≡ true)

beginning : (i : Inside) → IsKept i.plan i.table.rows i.table.capacity i.slots.items (length i.spares.items) (vec_capacity i.slots) (vec_capacity i.spares) → (n s : ℕ) → target_passes is_fillable s (row_at n (views i.table.rows)) ≡ true → IsBeginning i n s
beginning i kept n s fillable =
    let (row, g, spec, k) = taking i.plan i.table i.slots.items (length i.spares.items) (vec_capacity i.slots) (vec_capacity i.spares) n s is_fillable kept fillable in
    let both = and_parts (is_same_state g.state Waiting) (is_home row.sensor) k.passed in
    let waits = waiting-state g.state both.0 in
    record {
      row = row;
      target = g;
      spec = spec;
      taken = k;
      waits = waits;
      home = is-home-place row.sensor both.1;
      held = k.parked ∙ ap (λ (z : TargetState). held_by z row g (Some spec)) waits;
      opened = λ fences passed. and_parts (is_made (made fences) g.fence) (is_passed (λ f. is_signalled f fences) g.fence) (met-too (is_open_to fences) s (row_at n (views i.table.rows)) row g k.at k.target.found passed);
    }

pub find_target-place-requires : goal.find_target-place-requires
find_target-place-requires c =
    let h = beginning c.self.inside c.self.invariant c.args.frame.0 c.args.stream.0 (rw (← c.self.view_is) at c.requires.fillable) in
    rw (h.taken.at, h.taken.target.found) refl

pub swap_slot-requires : goal.swap_slot-requires
swap_slot-requires c =
    slot-within c.self.inside.table.rows c.find_target-place.result.0 c.find_target-place.result.1 c.self.inside.slots.items c.self.invariant.shown c.find_target-place.ensures.placed

pub unreachable-requires : goal.unreachable-requires
unreachable-requires c =
    let h = beginning c.self.inside c.self.invariant c.args.frame.0 c.args.stream.0 (rw (← c.self.view_is) at c.requires.fillable) in
    let same = some-same h.row c.find_target-place.result.1 _ h.taken.at c.find_target-place.ensures.found in
    let there = slot-at c.self.inside.table.rows c.find_target-place.result.0 c.find_target-place.result.1 c.self.inside.slots.items c.swap_slot.result c.self.invariant.shown c.find_target-place.ensures.placed c.swap_slot.ensures.old ∙ (ap (λ (z : RowView). slot_of z) (sym same) ∙ slot-home h.row h.home) in
    home-spare c.swap_slot.result _ (sensor_job h.row) c.in-Spare.is there

pub unreachable-requires-in-Away : goal.unreachable-requires-in-Away
unreachable-requires-in-Away c =
    let h = beginning c.self.inside c.self.invariant c.args.frame.0 c.args.stream.0 (rw (← c.self.view_is) at c.requires.fillable) in
    let same = some-same h.row c.find_target-place.result.1 _ h.taken.at c.find_target-place.ensures.found in
    let there = slot-at c.self.inside.table.rows c.find_target-place.result.0 c.find_target-place.result.1 c.self.inside.slots.items c.swap_slot.result c.self.invariant.shown c.find_target-place.ensures.placed c.swap_slot.ensures.old ∙ (ap (λ (z : RowView). slot_of z) (sym same) ∙ slot-home h.row h.home) in
    home-away c.swap_slot.result (sensor_job h.row) c.in-Away.is there

pub unreachable-requires-in-Some-Filled : goal.unreachable-requires-in-Some-Filled
unreachable-requires-in-Some-Filled c =
    let h = beginning c.self.inside c.self.invariant c.args.frame.0 c.args.stream.0 (rw (← c.self.view_is) at c.requires.fillable) in
    not-waiting h.target h.spec c.take_target.result c.in-Some-Filled.field-0 _ c.in-Some-Filled.is c.in-Some-Filled.field-0-is (c.take_target.ensures.taken ∙ h.held)

pub unreachable-requires-in-None : goal.unreachable-requires-in-None
unreachable-requires-in-None c =
    let h = beginning c.self.inside c.self.invariant c.args.frame.0 c.args.stream.0 (rw (← c.self.view_is) at c.requires.fillable) in
    not-none (waiting_for h.target h.spec) c.take_target.result c.in-None.is (c.take_target.ensures.taken ∙ h.held)

pub make_job-requires : goal.make_job-requires
make_job-requires c =
    let h = beginning c.self.inside c.self.invariant c.args.frame.0 c.args.stream.0 (rw (← c.self.view_is) at c.requires.fillable) in
    let same = some-same h.row c.find_target-place.result.1 _ h.taken.at c.find_target-place.ensures.found in
    let place = place-of h.target h.spec c.take_target.result c.in-Some-Waiting.field-0 c.in-Some-Waiting.waiting c.in-Some-Waiting.is c.in-Some-Waiting.field-0-is (c.take_target.ensures.taken ∙ h.held) in
    let there = slot-at c.self.inside.table.rows c.find_target-place.result.0 c.find_target-place.result.1 c.self.inside.slots.items c.swap_slot.result c.self.invariant.shown c.find_target-place.ensures.placed c.swap_slot.ensures.old ∙ (ap (λ (z : RowView). slot_of z) (sym same) ∙ slot-home h.row h.home) in
    let gt = some-same h.target c.find_target-place.result.2 _ h.taken.target.found (ap (λ (z : RowView). target_at c.args.stream.0 z) same ∙ c.find_target-place.ensures.has) in
    let opened = h.opened c.args.fences.now (rw (← c.self.view_is) at c.requires.passed) in
    record {
      range = rw (← same) (range-none (length (specs_of c.self.inside.plan)) h.row h.taken.stands.kept);
      offered = ap (λ (z : Place). is_offered z.spec) place ∙ h.taken.target.offered;
      home = home-same c.swap_slot.result c.in-Home.home (sensor_job h.row) c.in-Home.is there ∙ ap (λ (z : RowView). sensor_job z) same;
      buffer = ap (λ (z : Place). z.buffer) place ∙ ap (λ (z : TargetView). z.buffer) gt;
      made = fence-made (made c.args.fences.now) c.in-Some-Waiting.waiting h.target h.spec place opened.0;
      passed = fence-passed c.args.fences.now c.in-Some-Waiting.waiting h.target h.spec place opened.1;
    }

pub invariant_of-self : goal.invariant_of-self
invariant_of-self c =
    let h = beginning c.self.inside c.self.invariant c.args.frame.0 c.args.stream.0 (rw (← c.self.view_is) at c.requires.fillable) in
    let same = some-same h.row c.find_target-place.result.1 _ h.taken.at c.find_target-place.ensures.found in
    let step = begun-moved c.self.inside.plan c.self.inside.table c.take_target.new.self c.mark.new.self c.mark-2.new.self c.self.inside.slots.items c.swap_slot.new.slots.items (length c.self.inside.spares.items) (vec_capacity c.self.inside.slots) (vec_capacity c.swap_slot.new.slots) (vec_capacity c.self.inside.spares) c.args.frame.0 c.find_target-place.result.0 c.args.stream h.row h.target h.spec c.self.invariant h.taken.stands h.taken.target h.waits h.home (c.find_target-place.ensures.placed ∙ ap (λ (z : RowView). Some z) (sym same)) (ap (λ (z : RowView). z.frame.0) same ∙ c.find_target-place.ensures.own) c.swap_slot.ensures.new c.take_target.ensures.left c.mark.ensures.marked c.mark-2.ensures.marked c.swap_slot.ensures.capacity in
    step.kept

pub returns-clause-rows : goal.returns-clause-rows
returns-clause-rows c =
    let h = beginning c.self.inside c.self.invariant c.args.frame.0 c.args.stream.0 (rw (← c.self.view_is) at c.requires.fillable) in
    let same = some-same h.row c.find_target-place.result.1 _ h.taken.at c.find_target-place.ensures.found in
    let step = begun-moved c.self.inside.plan c.self.inside.table c.take_target.new.self c.mark.new.self c.mark-2.new.self c.self.inside.slots.items c.swap_slot.new.slots.items (length c.self.inside.spares.items) (vec_capacity c.self.inside.slots) (vec_capacity c.swap_slot.new.slots) (vec_capacity c.self.inside.spares) c.args.frame.0 c.find_target-place.result.0 c.args.stream h.row h.target h.spec c.self.invariant h.taken.stands h.taken.target h.waits h.home (c.find_target-place.ensures.placed ∙ ap (λ (z : RowView). Some z) (sym same)) (ap (λ (z : RowView). z.frame.0) same ∙ c.find_target-place.ensures.own) c.swap_slot.ensures.new c.take_target.ensures.left c.mark.ensures.marked c.mark-2.ensures.marked c.swap_slot.ensures.capacity in
    rw (← c.self.view_is) step.is

pub returns-clause-job : goal.returns-clause-job
returns-clause-job c =
    let h = beginning c.self.inside c.self.invariant c.args.frame.0 c.args.stream.0 (rw (← c.self.view_is) at c.requires.fillable) in
    let same = some-same h.row c.find_target-place.result.1 _ h.taken.at c.find_target-place.ensures.found in
    let gt = some-same h.target c.find_target-place.result.2 _ h.taken.target.found (ap (λ (z : RowView). target_at c.args.stream.0 z) same ∙ c.find_target-place.ensures.has) in
    let place = place-of h.target h.spec c.take_target.result c.in-Some-Waiting.field-0 c.in-Some-Waiting.waiting c.in-Some-Waiting.is c.in-Some-Waiting.field-0-is (c.take_target.ensures.taken ∙ h.held) in
    let spec' = ap (λ (z : Place). z.spec) (sym place) in
    rw (← c.self.view_is) (job-for (specs_of c.self.inside.plan) c.args.frame.0 c.args.stream.0 (views c.self.inside.table.rows) h.row h.target h.spec h.taken.at h.taken.target ∙ ap (λ (z : JobView). Some z) (job-same h.row c.find_target-place.result.1 h.target c.find_target-place.result.2 h.spec c.in-Some-Waiting.waiting.spec same gt spec' ∙ sym c.make_job.ensures.job))
