use Rattle.std.proofs.lemmas.Grind.{common_steps}
use Rattle.std.proofs.Common.{get_or, refl, arith}
use Rattle.std.specs.Prelude.{pos}
use Rattle.metadata.specs.Values.{ratio_bytes, RatioFits}
use Rattle.metadata.specs.declared.values.Ratio.{Ratio}
use Rattle.metadata.proofs.Pieces.{wrote_more, All_more}
use Rattle.metadata.proofs.writing.put_ratios.Goals as goal

pub loop-r-preserved : goal.loop-r-preserved
loop-r-preserved c =
    let none : Ratio = record { numerator = pos 0; denominator = pos 0 } in
    let r = get_or c.args.ratios.now c.loop-r.r-index none in
    record {
      written = wrote_more ratio_bytes c.args.out.now.items c.loop-r.out.items c.put_ratio.new.out.items c.args.ratios.now c.loop-r.r-index none r c.loop-r.invariant.written c.loop-r-test.true refl c.in_ok-put_ratio.ensures.bytes;
      fit = All_more RatioFits c.args.ratios.now c.loop-r.r-index none c.loop-r-test.true c.loop-r.invariant.fit c.put_ratio.ensures.fit;
    }

pub returns-clause-bytes : goal.returns-clause-bytes
returns-clause-bytes c = grind (arith, common_steps)

pub returns-clause-fit : goal.returns-clause-fit
returns-clause-fit c = grind (arith, common_steps)
