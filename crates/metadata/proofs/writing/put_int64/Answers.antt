use Rattle.std.proofs.Common.{rules}
use Rattle.metadata.proofs.writing.put_int64.Goals as goal

pub returns-clause-bytes : goal.returns-clause-bytes
returns-clause-bytes c = search rules
