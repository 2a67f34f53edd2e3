use Rattle.service_core.proofs.Keeping.{opens}
use Rattle.service_core.proofs.service.Service.open.Goals as goal

pub invariant_of-result : goal.invariant_of-result
invariant_of-result c =
    rw (c.in_ok-log.ensures, c.in_ok-state.ensures) (opens c.args.script _ c.move_bound.ensures c.every_script_is_typed.ensures c.requires)
