use Rattle.std.proofs.lemmas.Map.Iter.{rest_all, rest_more}
use Rattle.std.specs.Map.Iter.{deref_pair}
use Rattle.hal_judge.proofs.Faults.{silences_end, silences_next}
use Rattle.hal_judge.proofs.fault.rows_silent.Goals as goal

pub loop-row-preserved : goal.loop-row-preserved
loop-row-preserved c =
    silences_next c.args.event.now _ _ c.loop-row.row-iterator c.next.new.self c.loop-row.faults.items c.add_silent.new.faults.items _ (rest_more deref_pair c.loop-row.row-iterator c.next.new.self c.next.result _ c.in-Some.is c.next.ensures.steps) c.in_ok-add_silent.ensures c.loop-row.invariant

pub returns : goal.returns
returns c =
    silences_end c.args.event.now c.loop-row.row-iterator c.loop-row.faults.items _ (rest_all deref_pair c.loop-row.row-iterator c.next.new.self c.next.result c.in-None.is c.next.ensures.steps) c.loop-row.invariant
