use Rattle.std.proofs.Common.{sym, ◌∙◌}
use Rattle.device_core.proofs.Passing.{fillable, open_to}
use Rattle.buffer_pool.specs.Fences.{is_signalled}
use Rattle.device_core.proofs.device.Device.take_fill.Goals as goal

pub begin_fill-requires-clause-fillable : goal.begin_fill-requires-clause-fillable
begin_fill-requires-clause-fillable c =
    fillable c.self.inside.faults (λ f. is_signalled f c.args.fences.now) c.self.inside.store.rows c.args.frame.0 c.args.stream.0 (rw (← c.self.view_is) at (sym c.may_take_fill.ensures ∙ c.if-not-may_take_fill.false))

pub begin_fill-requires-clause-passed : goal.begin_fill-requires-clause-passed
begin_fill-requires-clause-passed c =
    open_to c.self.inside.faults c.args.fences.now c.self.inside.store.rows c.args.frame.0 c.args.stream.0 (rw (← c.self.view_is) at c.requires) (rw (← c.self.view_is) at (sym c.may_take_fill.ensures ∙ c.if-not-may_take_fill.false))
