use Rattle.std.proofs.lemmas.Grind.{common_steps}
use Rattle.std.proofs.Common.{length, subst, ap, arith}
use Rattle.metadata.specs.Fitting.{ShortFits}
use Rattle.metadata.specs.Spelling.{data_of}
use Rattle.metadata.specs.Values.{payload}
use Rattle.metadata.specs.declared.entry.Entry.{Entry}
use Rattle.metadata.proofs.Pieces.{All_more}
use Rattle.metadata.proofs.Kept.{area_more, entries_more, area_front}
use Rattle.metadata.proofs.writing.put_entries.Goals as goal

pub loop-entry-preserved : goal.loop-entry-preserved
loop-entry-preserved c =
    let e = c.entry-item.result in
    let len = c.data_len-place.ensures.len in
    record {
      written = entries_more _ c.loop-entry.out.items c.put_entry.new.out.items c.loop-entry.place c.loop-entry.entry-index c.data_len-place.result c.args.entries.now e c.loop-entry.invariant.written c.loop-entry-test.true c.entry-item.is c.in_ok-put_entry.ensures.bytes len;
      place = omega (arith, area_more c.args.entries.now c.loop-entry.entry-index e c.loop-entry-test.true, ap (λ (x : Entry). length (data_of (payload x.values))) c.entry-item.is, len, c.loop-entry.invariant.place);
      fit = All_more ShortFits c.args.entries.now c.loop-entry.entry-index e c.loop-entry-test.true c.loop-entry.invariant.fit (subst ShortFits c.entry-item.is c.in_ok-put_entry.ensures.fit);
    }

pub overflow_cast-place : goal.overflow_cast-place
overflow_cast-place c = grind (arith, area_front)

pub overflow_add-place : goal.overflow_add-place
overflow_add-place c = grind (arith, area_front)

pub returns-clause-bytes : goal.returns-clause-bytes
returns-clause-bytes c = grind (arith, common_steps)

pub returns-clause-fit : goal.returns-clause-fit
returns-clause-fit c = grind (arith, common_steps)
