use Rattle.std.proofs.Common.{◌≡◌, ℕ, List, true, if◌then◌else◌, Some, None, length, refl, subst, sym, ◌∙◌, ap, slice_get, slice_set}
use Rattle.std.specs.Option.{option_map}
use Rattle.std.specs.Vec.{vec_capacity}
use Rattle.cam_types.specs.declared.job.FillTarget.{FillTarget}
use Rattle.cam_types.specs.declared.job.JobView.{JobView}
use Rattle.cam_types.specs.declared.number.FrameNo.{FrameNo}
use Rattle.cam_types.specs.declared.number.StreamIx.{StreamIx}
use Rattle.cam_types.specs.declared.row.RowView.{RowView}
use Rattle.cam_types.specs.declared.row.SensorPlace.TheVariants.{Home as SensorHome}
use Rattle.cam_types.specs.declared.row.TargetState.{TargetState}
use Rattle.cam_types.specs.declared.row.TargetView.{TargetView}
use Rattle.cam_types.specs.declared.stream.StreamSpec.{StreamSpec}
use Rattle.device_rows.specs.Jobs.{fill_job, is_fill_out, IsFillJobOut}
use Rattle.device_rows.specs.Rows.{fill_ended, filled_from, row_at, target_at}
use Rattle.device_rows.specs.declared.mark.Mark.TheVariants.{Sensor, Target}
use Rattle.device_rows.specs.TableRows.{has_place, passes, row_of, Rows, view_of, with_mark, with_parked, with_row, with_rows}
use Rattle.device_core.specs.Held.{as_exposed}
use Rattle.device_core.specs.Kept.{filled_for, IsKept}
use Rattle.device_core.specs.Stored.{specs_of, Stored, views}
use Rattle.device_core.specs.declared.buffers.Held.{Held}
use Rattle.device_core.specs.declared.buffers.Held.TheVariants.{Filled}
use Rattle.device_core.specs.declared.readouts.Slot.{Slot}
use Rattle.device_core.specs.declared.readouts.Slot.TheVariants.{Home}
use Rattle.device_core.specs.declared.store.Store.TheInside.{Inside}
use Rattle.device_core.proofs.Moves.{ended-moved, Moved, out-held}
use Rattle.device_core.proofs.Ops.{is-target, IsTarget, place-free}
use Rattle.device_core.proofs.Outs.{is-out, some-none, some-same}
use Rattle.device_core.proofs.Steps.{slot-within, Stands, stands}
use Rattle.device_core.proofs.store.Store.end_fill.Goals as goal

-- the row and the target that the job is of
record IsEnding (i : Inside) (job : JobView) (s : StreamIx) (n : ℕ) : Type 0 where
  row : RowView
  target : TargetView
  spec : StreamSpec
  found : row_at n (views i.table.rows) ≡ Some row
  has : target_at s.0 row ≡ Some target
  out : is_fill_out target.state ≡ true
  stands : Stands i.plan i.table.rows n row
  at : IsTarget (specs_of i.plan) row s.0 target spec
  same : job ≡ fill_job row target spec

ending : (i : Inside) → IsKept i.plan i.table.rows i.table.capacity i.slots.items (length i.spares.items) (vec_capacity i.slots) (vec_capacity i.spares) → (job : JobView) (target : FillTarget) → job.fill ≡ Some target → (frame : FrameNo) → frame ≡ job.frame → IsFillJobOut (specs_of i.plan) (views i.table.rows) job → IsEnding i job target.stream frame.0
ending i kept job target fill frame own is =
    let (row, g, spec, o) = is-out (specs_of i.plan) (views i.table.rows) job target fill is in
    let found : row_at frame.0 (views i.table.rows) ≡ Some row = rw own o.at in
    let at = stands i.plan i.table.rows i.table.capacity i.slots.items (length i.spares.items) (vec_capacity i.slots) (vec_capacity i.spares) frame.0 row kept found in
    let (spec', tg) = is-target i.plan i.table.rows frame.0 target.stream.0 row g at kept.offered o.found in
    let spec-same = some-same spec spec' _ o.spec_is (rw tg.stream at tg.spec_is) in
    record {
      row = row;
      target = g;
      spec = spec';
      found = found;
      has = o.found;
      out = o.out;
      stands = at;
      at = tg;
      same = sym o.same ∙ ap (λ (z : StreamSpec). fill_job row g z) spec-same;
    }

-- what the end of the job leaves
ended : (i : Inside) → IsKept i.plan i.table.rows i.table.capacity i.slots.items (length i.spares.items) (vec_capacity i.slots) (vec_capacity i.spares) → (job : JobView) (s : StreamIx) (n : ℕ) (h : IsEnding i job s n) (u v w : Rows Held) (slots : List Slot) (room place : ℕ) (row : RowView) (g : TargetView) (home filled : JobView) (st : TargetState) → h.row ≡ row → h.target ≡ g → option_map view_of (slice_get i.table.rows place) ≡ Some row → row.frame.0 ≡ n → home ≡ as_exposed job → filled ≡ job → st ≡ filled_from g.state → slots ≡ slice_set i.slots.items place (Home home) → u ≡ with_rows (if passes (has_place s.0) (row_of n i.table.rows) then with_row n (with_parked s.0 (Some (Filled filled))) i.table.rows else i.table.rows) i.table → v ≡ with_rows (with_row n (with_mark (Target s st)) u.rows) u → w ≡ with_rows (with_row n (with_mark (Sensor SensorHome)) v.rows) v → room ≡ vec_capacity i.slots → Moved i.plan i.table w slots (length i.spares.items) room (vec_capacity i.spares) n (fill_ended s)
ended i kept job s n h u v w slots room place row g home filled st same gt placed own home-is filled-is st-is swapped parked mark mark' room' =
    let put : u ≡ with_rows (if passes (has_place s.0) (row_of n i.table.rows) then with_row n (with_parked s.0 (Some (filled_for h.row h.target h.spec))) i.table.rows else i.table.rows) i.table = rw (← h.same, ← filled-is) parked in
    let state : st ≡ filled_from h.target.state = st-is ∙ ap (λ (z : TargetView). filled_from z.state) (sym gt) in
    let marked : v ≡ with_rows (with_row n (with_mark (Target s (filled_from h.target.state))) u.rows) u = rw (← state) mark in
    ended-moved i.plan i.table u v w i.slots.items slots (length i.spares.items) (vec_capacity i.slots) room (vec_capacity i.spares) n place s h.row h.target h.spec (Home home) kept h.stands h.at h.out (placed ∙ ap (λ (z : RowView). Some z) (sym same)) (ap (λ (z : RowView). z.frame.0) same ∙ own) (ap (λ (z : JobView). Home z) (home-is ∙ ap (λ (z : JobView). as_exposed z) h.same)) swapped put marked mark' room'

pub find_target-place-requires : goal.find_target-place-requires
find_target-place-requires c =
    let h = ending c.self.inside c.self.invariant c.args.job c.target.result c.target.ensures c.frame-frame.result c.frame-frame.ensures (subst (λ (z : Stored). IsFillJobOut (specs_of z.plan) z.rows c.args.job) (sym c.self.view_is) c.requires) in
    rw (h.found, h.has) refl

pub swap_slot-requires : goal.swap_slot-requires
swap_slot-requires c =
    slot-within c.self.inside.table.rows c.find_target-place.result.0 c.find_target-place.result.1 c.self.inside.slots.items c.self.invariant.shown c.find_target-place.ensures.placed

pub unreachable-requires : goal.unreachable-requires
unreachable-requires c =
    let h = ending c.self.inside c.self.invariant c.args.job c.target.result c.target.ensures c.frame-frame.result c.frame-frame.ensures (subst (λ (z : Stored). IsFillJobOut (specs_of z.plan) z.rows c.args.job) (sym c.self.view_is) c.requires) in
    let free = place-free c.self.inside.plan c.self.inside.table.rows c.frame-frame.result.0 c.target.result.stream.0 h.row h.target h.spec h.stands h.at (out-held h.target.state h.row h.target h.spec h.out) in
    let gone : c.put_target.result ≡ None = c.put_target.ensures.handed_back ∙ rw free refl in
    some-none c.in-Some.field-0 c.put_target.result gone c.in-Some.is

pub invariant_of-self : goal.invariant_of-self
invariant_of-self c =
    let h = ending c.self.inside c.self.invariant c.args.job c.target.result c.target.ensures c.frame-frame.result c.frame-frame.ensures (subst (λ (z : Stored). IsFillJobOut (specs_of z.plan) z.rows c.args.job) (sym c.self.view_is) c.requires) in
    let same = some-same h.row c.find_target-place.result.1 _ h.found c.find_target-place.ensures.found in
    let gt = some-same h.target c.find_target-place.result.2 _ h.has (ap (λ (z : RowView). target_at c.target.result.stream.0 z) same ∙ c.find_target-place.ensures.has) in
    let step = ended c.self.inside c.self.invariant c.args.job c.target.result.stream c.frame-frame.result.0 h c.put_target.new.self c.mark.new.self c.mark-2.new.self c.swap_slot.new.slots.items (vec_capacity c.swap_slot.new.slots) c.find_target-place.result.0 c.find_target-place.result.1 c.find_target-place.result.2 c.take_apart-home.result.0 c.take_apart-home.result.1 c.filled_from-state.result same gt c.find_target-place.ensures.placed c.find_target-place.ensures.own c.take_apart-home.ensures.home c.take_apart-home.ensures.filled c.filled_from-state.ensures c.swap_slot.ensures.new c.put_target.ensures.parked c.mark.ensures.marked c.mark-2.ensures.marked c.swap_slot.ensures.capacity in
    step.kept

pub returns : goal.returns
returns c =
    let h = ending c.self.inside c.self.invariant c.args.job c.target.result c.target.ensures c.frame-frame.result c.frame-frame.ensures (subst (λ (z : Stored). IsFillJobOut (specs_of z.plan) z.rows c.args.job) (sym c.self.view_is) c.requires) in
    let same = some-same h.row c.find_target-place.result.1 _ h.found c.find_target-place.ensures.found in
    let gt = some-same h.target c.find_target-place.result.2 _ h.has (ap (λ (z : RowView). target_at c.target.result.stream.0 z) same ∙ c.find_target-place.ensures.has) in
    let step = ended c.self.inside c.self.invariant c.args.job c.target.result.stream c.frame-frame.result.0 h c.put_target.new.self c.mark.new.self c.mark-2.new.self c.swap_slot.new.slots.items (vec_capacity c.swap_slot.new.slots) c.find_target-place.result.0 c.find_target-place.result.1 c.find_target-place.result.2 c.take_apart-home.result.0 c.take_apart-home.result.1 c.filled_from-state.result same gt c.find_target-place.ensures.placed c.find_target-place.ensures.own c.take_apart-home.ensures.home c.take_apart-home.ensures.filled c.filled_from-state.ensures c.swap_slot.ensures.new c.put_target.ensures.parked c.mark.ensures.marked c.mark-2.ensures.marked c.swap_slot.ensures.capacity in
    rw c.target.ensures (rw (← c.self.view_is, ← c.frame-frame.ensures) step.is)
