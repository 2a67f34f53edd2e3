use Rattle.logical_call.proofs.Frames.{drops_not_sent}
use Rattle.logical_call.proofs.laws.numbers_are_given_once.Goals as goal

pub returns-clause-either : goal.returns-clause-either
returns-clause-either c = drops_not_sent
