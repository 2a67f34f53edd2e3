use Rattle.std.proofs.Common.{ℕ, [], sym, ap, ◌∙◌, Option}
use Rattle.std.specs.Prelude.{is_some}
use Rattle.buffer_manager.specs.Managed.{homes_with}
use Rattle.buffer_manager.proofs.Owners.{some-least, none-least}
use Rattle.buffer_manager.proofs.manager.BufferManager.has_home.Goals as goal

pub returns-in-Some : goal.returns-in-Some
returns-in-Some c =
    c.is_some.ensures ∙ (ap (λ (o : Option ℕ). is_some o) c.least_home.ensures ∙ some-least (homes_with [] c.args.self.now) c.args.stream c.in-Some.made (sym c.made_of.ensures.value ∙ c.in-Some.is))

pub returns-in-None : goal.returns-in-None
returns-in-None c =
    none-least (homes_with [] c.args.self.now) c.args.stream (sym c.made_of.ensures.value ∙ c.in-None.is)
