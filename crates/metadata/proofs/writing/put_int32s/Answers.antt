use Rattle.std.proofs.lemmas.Grind.{common_steps}
use Rattle.std.proofs.Common.{get_or, rules, arith}
use Rattle.std.specs.Prelude.{FitsSigned, pos}
use Rattle.std.specs.Int.{w32, cast_signed, cast_unsigned}
use Rattle.std.proofs.lemmas.Int.{to_z-of_z}
use Rattle.metadata.specs.Values.{int32_bytes}
use Rattle.metadata.proofs.Pieces.{wrote_more, All_more}
use Rattle.metadata.proofs.writing.put_int32s.Goals as goal

pub loop-n-preserved : goal.loop-n-preserved
loop-n-preserved c =
    let z = get_or c.args.numbers.now c.loop-n.n-index (pos 0) in
    let fits : FitsSigned w32 z = search rules in
    record {
      written = wrote_more int32_bytes c.args.out.now.items c.loop-n.out.items c.put_int32.new.out.items c.args.numbers.now c.loop-n.n-index (pos 0) (cast_signed w32 (cast_unsigned w32 z)) c.loop-n.invariant.written c.loop-n-test.true (to_z-of_z w32 z fits) c.in_ok-put_int32.ensures.bytes;
      fit = All_more (FitsSigned w32) c.args.numbers.now c.loop-n.n-index (pos 0) c.loop-n-test.true c.loop-n.invariant.fit fits;
    }

pub returns-clause-bytes : goal.returns-clause-bytes
returns-clause-bytes c = grind (arith, common_steps)

pub returns-clause-fit : goal.returns-clause-fit
returns-clause-fit c = grind (arith, common_steps)
