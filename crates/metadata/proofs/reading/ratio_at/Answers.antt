use Rattle.std.proofs.Common.{rules}
use Rattle.metadata.proofs.Pieces.{ratio_here}
use Rattle.metadata.proofs.reading.ratio_at.Goals as goal

pub returns : goal.returns
returns c = ratio_here c.args.bytes.now c.args.at c.i32_at.result c.i32_at-2.result (search rules) (search rules) c.i32_at.ensures c.i32_at-2.ensures
