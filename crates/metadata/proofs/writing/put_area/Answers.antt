use Rattle.std.proofs.lemmas.Grind.{common_steps}
use Rattle.std.proofs.Common.{List, ℕ, subst, arith}
use Rattle.metadata.specs.Fitting.{LongFits}
use Rattle.metadata.specs.Spelling.{data_of}
use Rattle.metadata.specs.Values.{payload}
use Rattle.metadata.specs.declared.entry.Entry.{Entry}
use Rattle.metadata.proofs.Pieces.{wrote_more, All_more}
use Rattle.metadata.proofs.writing.put_area.Goals as goal

pub loop-entry-preserved : goal.loop-entry-preserved
loop-entry-preserved c =
    let f : Entry → List ℕ = λ e. data_of (payload e.values) in
    let e = c.entry-item.result in
    record {
      written = wrote_more f c.args.out.now.items c.loop-entry.out.items c.put_data.new.out.items c.args.entries.now c.loop-entry.entry-index e e c.loop-entry.invariant.written c.loop-entry-test.true c.entry-item.is c.in_ok-put_data.ensures.bytes;
      fit = All_more LongFits c.args.entries.now c.loop-entry.entry-index e c.loop-entry-test.true c.loop-entry.invariant.fit (subst LongFits c.entry-item.is c.in_ok-put_data.ensures.fit);
    }

pub returns-clause-bytes : goal.returns-clause-bytes
returns-clause-bytes c = grind (arith, common_steps)

pub returns-clause-fit : goal.returns-clause-fit
returns-clause-fit c = grind (arith, common_steps)
