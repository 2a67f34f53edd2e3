use Rattle.std.proofs.Common.{[], sym, ◌∙◌}
use Rattle.trace_model.specs.Place.{Pool, is_at}
use Rattle.state_facts.specs.Homes.{place_in}
use Rattle.buffer_manager.specs.Managed.{homes_with}
use Rattle.buffer_manager.proofs.Owners.{find-at, find-more}
use Rattle.buffer_manager.proofs.manager.BufferManager.least_home.Goals as goal

pub returns-then-is_in_pool : goal.returns-then-is_in_pool
returns-then-is_in_pool c =
    sym (find-at (λ b. is_at (place_in (homes_with [] c.args.self.now) b) Pool) c.args.made.first.0 c.loop-step.step c.args.made.count c.loop-step-test.true c.loop-step.invariant (sym c.is_in_pool.ensures ∙ c.if-is_in_pool.true))

pub loop-step-preserved : goal.loop-step-preserved
loop-step-preserved c =
    find-more (λ b. is_at (place_in (homes_with [] c.args.self.now) b) Pool) c.args.made.first.0 c.loop-step.step c.loop-step.invariant (sym c.is_in_pool.ensures ∙ c.if-is_in_pool.false)
