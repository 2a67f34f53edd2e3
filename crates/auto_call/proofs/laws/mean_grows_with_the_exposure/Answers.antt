use Rattle.auto_call.proofs.Bright.{mean-le}
use Rattle.auto_call.proofs.laws.mean_grows_with_the_exposure.Goals as goal

pub returns : goal.returns
returns c = λ s shorter longer n m still h. mean-le s shorter longer n m still h
