use Rattle.std.proofs.Common.{◌≡◌, true, false, Option, Some, None, IsNone, IsSome, IsTrue, refl, sym, is_some}
use Rattle.state_facts.specs.Homes.{signalled_in}
use Rattle.device_core.specs.View.{with_rows}
use Rattle.device_rows.specs.Ready.{is_fill_ready}
use Rattle.device_rows.specs.Rows.{fill_begun, with_row}
use Rattle.fill_jobs.specs.declared.job.FillJob.{FillJob}
use Rattle.run_model.specs.declared.step.StepName.TheVariants.{TakeFill}
use Rattle.service_state.specs.Answers.{AnswersSilently}
use Rattle.service_state.proofs.Made.{held, makes_as, not_true, serving_as, stays_as}
use Rattle.service_state.proofs.Room.{rows_given}
use Rattle.service_state.proofs.Steps.{not_taken, taken}
use Rattle.service_state.proofs.state.ServiceState.take_fill.Goals as goal

pub take_fill-requires : goal.take_fill-requires
take_fill-requires c =
    let i = c.self.inside in
    let s = held i in
    rows_given s (serving_as s c.args.self.now c.self.view_is c.requires)

pub returns-clause-step : goal.returns-clause-step
returns-clause-step c = rw c.take_fill.ensures.fences (by c.take_fill.result c.take_fill.ensures.ready.0 c.take_fill.ensures.ready.1 c.take_fill.ensures.rows c.take_fill.ensures.unchanged)
  where
    by : (o : Option FillJob) → (IsSome o → IsTrue (is_fill_ready c.self.inside.device.faults (λ f. signalled_in (held c.self.inside).parts.buffers f) c.self.inside.device.rows c.args.frame.0 c.args.stream.0)) → (IsTrue (is_fill_ready c.self.inside.device.faults (λ f. signalled_in (held c.self.inside).parts.buffers f) c.self.inside.device.rows c.args.frame.0 c.args.stream.0) → IsSome o) → (IsSome o → c.take_fill.new.self ≡ with_rows (with_row c.args.frame.0 (fill_begun c.args.stream) c.self.inside.device.rows) c.self.inside.device) → (IsNone o → c.take_fill.new.self ≡ c.self.inside.device) → AnswersSilently (TakeFill c.args.frame c.args.stream) c.args.self.now (is_some o) (held (record (c.self.inside) { device = c.take_fill.new.self }))
    by (Some job) ready back left same =
        let i = c.self.inside in
        let s = held i in
        let may : is_fill_ready i.script.faults (λ f. signalled_in s.parts.buffers f) i.device.rows c.args.frame.0 c.args.stream.0 ≡ true = rw (sym c.self.invariant.faults) (ready refl) in
        makes_as s c.args.self.now _ _ c.self.view_is c.requires (λ serving. rw (left refl) (taken s serving c.args.frame c.args.stream may))
    by None ready back left same =
        let i = c.self.inside in
        let s = held i in
        let may : is_fill_ready i.script.faults (λ f. signalled_in s.parts.buffers f) i.device.rows c.args.frame.0 c.args.stream.0 ≡ false = rw (sym c.self.invariant.faults) (not_true _ back) in
        stays_as s c.args.self.now _ _ c.self.view_is (rw (same refl) refl) (not_taken s c.args.frame c.args.stream may)
