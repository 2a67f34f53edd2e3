use Rattle.std.proofs.Common.{rules}
use Rattle.reprocess_model.specs.Reduce.{reduced_to}
use Rattle.reprocess_core.proofs.smaller.write_from_quarter.Goals as goal

pub returns : goal.returns
unfolding reduced_to
returns c = search rules
