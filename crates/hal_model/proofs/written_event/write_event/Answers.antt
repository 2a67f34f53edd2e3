use Rattle.std.proofs.Common.{rules}
use Rattle.hal_model.proofs.written_event.write_event.Goals as goal

pub returns-in-RequestError-clause-text : goal.returns-in-RequestError-clause-text
returns-in-RequestError-clause-text c = search rules
