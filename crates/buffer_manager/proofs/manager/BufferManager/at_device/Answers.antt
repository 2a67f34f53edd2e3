use Rattle.std.proofs.Common.{[], sym, ◌∙◌}
use Rattle.buffer_manager.specs.Managed.{homes_with}
use Rattle.buffer_manager.proofs.Owners.{counted-device, counted-none}
use Rattle.buffer_manager.proofs.manager.BufferManager.at_device.Goals as goal

pub returns-in-Some : goal.returns-in-Some
returns-in-Some c =
    c.away_count.ensures ∙ counted-device (homes_with [] c.args.self.now) c.args.stream.0 c.in-Some.made (sym c.made_of.ensures.value ∙ c.in-Some.is)

pub returns-in-None : goal.returns-in-None
returns-in-None c =
    counted-none (homes_with [] c.args.self.now) c.args.stream.0 (sym c.made_of.ensures.value ∙ c.in-None.is)
