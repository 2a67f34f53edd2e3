use Rattle.arbiter_call.proofs.Fair.{made-sound}
use Rattle.arbiter_call.proofs.arbiter.Arbiter.keeps_the_laws.Goals as goal

pub returns-clause-laws : goal.returns-clause-laws
returns-clause-laws c = let sound = made-sound _ _ c.self.invariant in rw (← c.self.view_is) sound.laws

pub returns-clause-range : goal.returns-clause-range
returns-clause-range c = let sound = made-sound _ _ c.self.invariant in rw (← c.self.view_is) sound.logged
