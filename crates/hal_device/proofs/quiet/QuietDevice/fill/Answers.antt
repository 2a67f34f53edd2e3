use Rattle.std.proofs.Common.{◌≡◌, refl, ◌∙◌}
use Rattle.device_core.specs.View.{with_rows}
use Rattle.device_rows.specs.Ready.{is_fill_ready}
use Rattle.device_rows.specs.Rows.{fill_begun, with_row}
use Rattle.device_core.specs.Stored.{specs_of}
use Rattle.buffer_pool.specs.Fences.{is_signalled, no_fences}
use Rattle.hal_device_model.specs.Calls.{filled_rows}
use Rattle.hal_device.proofs.Jobs.{fill_out_as, filled_as}
use Rattle.hal_device.proofs.Resting.{fences_made, filled_rests, not_ready}
use Rattle.hal_device.proofs.quiet.QuietDevice.fill.Goals as goal

pub take_fill-requires : goal.take_fill-requires
take_fill-requires c = rw c.self.invariant.0 (fences_made c.self.inside.device.rows c.self.invariant.1)

pub fill_done-requires : goal.fill_done-requires
fill_done-requires c =
    fill_out_as c.args.frame.0 c.args.stream c.self.inside.device c.take_fill.new.self c.in-Some.job c.fill.result c.in-Some.ensures.job c.fill.ensures (c.in-Some.ensures.rows refl)

pub invariant_of-self : goal.invariant_of-self
invariant_of-self c =
    let d = c.self.inside.device in
    let begun : c.take_fill.new.self ≡ with_rows (with_row c.args.frame.0 (fill_begun c.args.stream) d.rows) d = c.in-Some.ensures.rows refl in
    let is : c.fill_done.new.self ≡ with_rows (filled_rows c.args.frame.0 c.args.stream d.rows) d = filled_as (specs_of d.plan) c.args.frame.0 c.args.stream d c.take_fill.new.self c.fill_done.new.self c.in-Some.job c.fill.result c.in-Some.ensures.job c.fill.ensures begun c.fill_done.ensures in
    (c.in-Some.ensures.fences ∙ c.self.invariant.0, rw is (filled_rests c.args.frame.0 c.args.stream d.rows c.self.invariant.1))

pub returns-in-Some-clause-rows : goal.returns-in-Some-clause-rows
returns-in-Some-clause-rows c =
    let d = c.self.inside.device in
    let begun : c.take_fill.new.self ≡ with_rows (with_row c.args.frame.0 (fill_begun c.args.stream) d.rows) d = c.in-Some.ensures.rows refl in
    let is : c.fill_done.new.self ≡ with_rows (filled_rows c.args.frame.0 c.args.stream d.rows) d = filled_as (specs_of d.plan) c.args.frame.0 c.args.stream d c.take_fill.new.self c.fill_done.new.self c.in-Some.job c.fill.result c.in-Some.ensures.job c.fill.ensures begun c.fill_done.ensures in
    rw (← c.self.view_is) is

pub returns-in-None-clause-ready : goal.returns-in-None-clause-ready
returns-in-None-clause-ready c =
    let d = c.self.inside.device in
    let ready = rw c.self.invariant.0 at c.in-None.ensures.ready in
    rw (← c.self.view_is) (not_ready (is_fill_ready d.faults (λ f. is_signalled f (no_fences 0)) d.rows c.args.frame.0 c.args.stream.0) ready.1)
