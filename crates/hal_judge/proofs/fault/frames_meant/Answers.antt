use Rattle.std.proofs.lemmas.Map.Iter.{rest_all, rest_more}
use Rattle.std.specs.Map.Iter.{deref_pair}
use Rattle.hal_checks.specs.Meant.{is_meant}
use Rattle.hal_judge.proofs.Faults.{frames_end, frames_next}
use Rattle.hal_judge.proofs.fault.frames_meant.Goals as goal

pub loop-row-preserved : goal.loop-row-preserved
loop-row-preserved c =
    frames_next (is_meant c.args.which c.args.event.now) _ _ c.loop-row.row-iterator c.next.new.self c.loop-row.frames.items c.add_meant.new.frames.items _ (rest_more deref_pair c.loop-row.row-iterator c.next.new.self c.next.result _ c.in-Some.is c.next.ensures.steps) c.in_ok-add_meant.ensures c.loop-row.invariant

pub returns : goal.returns
returns c =
    frames_end (is_meant c.args.which c.args.event.now) c.loop-row.row-iterator c.loop-row.frames.items _ (rest_all deref_pair c.loop-row.row-iterator c.next.new.self c.next.result c.in-None.is c.next.ensures.steps) c.loop-row.invariant
