use Rattle.std.proofs.Common.{arith, rules}
use Rattle.std.proofs.lemmas.List.{length_push}
use Rattle.metadata.specs.Values.{ratio_of}
use Rattle.metadata.proofs.Pieces.{read_more}
use Rattle.metadata.proofs.reading.ratios_from.Goals as goal

pub loop-i-preserved : goal.loop-i-preserved
loop-i-preserved c = record {
  list = read_more 8 ratio_of c.loop-i.i c.args.bytes.now c.loop-i.list c.push.new.self c.ratio_at.result _ c.loop-i.invariant.list c.ratio_at.ensures (search rules) c.in_ok-push.ensures.ok;
  len = rw c.in_ok-push.ensures.ok (omega (arith, length_push c.loop-i.list c.ratio_at.result));
}
