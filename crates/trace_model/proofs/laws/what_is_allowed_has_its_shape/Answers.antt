use Rattle.trace_model.specs.Calls.{next_command}
use Rattle.trace_model.proofs.LawLemmas.{begins-waiting, parts-shape, filled-has-no-fence}
use Rattle.trace_model.proofs.laws.what_is_allowed_has_its_shape.Goals as goal

pub returns-clause-begins : goal.returns-clause-begins
returns-clause-begins c = λ script past word may. begins-waiting past (next_command script past) word may

pub returns-clause-parts : goal.returns-clause-parts
returns-clause-parts c = parts-shape

pub returns-clause-filled : goal.returns-clause-filled
returns-clause-filled c = filled-has-no-fence
