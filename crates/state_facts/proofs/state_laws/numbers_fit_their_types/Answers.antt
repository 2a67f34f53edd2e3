use Rattle.state_facts.proofs.Fits.{numbers_fit}
use Rattle.state_facts.proofs.state_laws.numbers_fit_their_types.Goals as goal

pub returns : goal.returns
returns c = numbers_fit
