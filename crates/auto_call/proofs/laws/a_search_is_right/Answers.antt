use Rattle.auto_call.proofs.Found.{measured-searched, measured-spans, measured-halved, measured-decided}
use Rattle.auto_call.proofs.laws.a_search_is_right.Goals as goal

pub returns-clause-path : goal.returns-clause-path
returns-clause-path c = λ s target first frames still. measured-searched s target first frames still

pub returns-clause-spans : goal.returns-clause-spans
returns-clause-spans c = λ s target first frames still. measured-spans s target first frames still

pub returns-clause-halved : goal.returns-clause-halved
returns-clause-halved c = λ s target first frames. measured-halved s target first frames

pub returns-clause-decides : goal.returns-clause-decides
returns-clause-decides c = λ s target first frames still ten. measured-decided s target first frames still ten
