use Rattle.auto_call.proofs.Least.{least-from, least-to, too-dark, bright-enough}
use Rattle.auto_call.proofs.laws.the_least_step_is_the_first_that_is_bright_enough.Goals as goal

pub returns-clause-from_one : goal.returns-clause-from_one
returns-clause-from_one c = λ s target. least-from s target

pub returns-clause-to_none : goal.returns-clause-to_none
returns-clause-to_none c = λ s target. least-to s target

pub returns-clause-too_dark : goal.returns-clause-too_dark
returns-clause-too_dark c = λ s target step n still from below. too-dark s target step n still from below

pub returns-clause-bright_enough : goal.returns-clause-bright_enough
returns-clause-bright_enough c = λ s target step n still most from. bright-enough s target step n still most from
