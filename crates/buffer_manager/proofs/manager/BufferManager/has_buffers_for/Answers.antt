use Rattle.std.proofs.Common.{◌==◌, [], ◌∙◌}
use Rattle.std.specs.Prelude.{take}
use Rattle.std.specs.List.{list_any}
use Rattle.buffer_manager.specs.Managed.{homes_with}
use Rattle.buffer_manager.proofs.Targets.{targets-some}
use Rattle.buffer_manager.proofs.manager.BufferManager.has_buffers_for.Goals as goal

pub returns : goal.returns
returns c =
    rw (c.asks.ensures, c.asks-2.ensures, c.asks-3.ensures, c.asks-4.ensures) at c.has_each.ensures
    ∙ targets-some (homes_with [] c.args.self.now) (λ s. list_any (λ t. t == s) (take c.args.item.now.targets.count c.args.item.now.targets.list))
