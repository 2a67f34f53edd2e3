use Rattle.std.proofs.Common.{arith, rules}
use Rattle.std.specs.Prelude.{ℤ}
use Rattle.std.proofs.lemmas.List.{length_push}
use Rattle.metadata.specs.Values.{int64_of}
use Rattle.metadata.proofs.Pieces.{read_more}
use Rattle.metadata.proofs.reading.int64s_from.Goals as goal

pub loop-i-preserved : goal.loop-i-preserved
loop-i-preserved c = record {
  list = read_more 8 int64_of c.loop-i.i c.args.bytes.now c.loop-i.list c.push.new.self c.i64_at.result _ c.loop-i.invariant.list c.i64_at.ensures (search rules) c.in_ok-push.ensures.ok;
  len = rw c.in_ok-push.ensures.ok (omega (arith, length_push {X = ℤ}));
}
