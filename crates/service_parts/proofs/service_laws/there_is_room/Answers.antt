use Rattle.service_parts.proofs.Room.{buffers_fit, earlies_fit, fences_fit, requests_fit}
use Rattle.service_parts.proofs.service_laws.there_is_room.Goals as goal

pub returns-clause-fences : goal.returns-clause-fences
returns-clause-fences c = fences_fit

pub returns-clause-early : goal.returns-clause-early
returns-clause-early c = earlies_fit

pub returns-clause-requests : goal.returns-clause-requests
returns-clause-requests c = requests_fit

pub returns-clause-buffers : goal.returns-clause-buffers
returns-clause-buffers c = λ script past typed ok legal. buffers_fit script past ok legal
