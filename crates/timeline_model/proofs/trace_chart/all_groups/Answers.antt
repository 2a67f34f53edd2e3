use Rattle.std.proofs.Common.{sym}
use Rattle.std.proofs.lemmas.List.{map_more}
use Rattle.timeline_model.specs.Charts.{group_of}
use Rattle.timeline_model.proofs.trace_chart.all_groups.Goals as goal

pub loop-one-preserved : goal.loop-one-preserved
loop-one-preserved c = rw (c.in_ok-put_group.ensures, c.loop-one.invariant) (sym (map_more group_of c.args.drawn.now c.loop-one.one-index _ c.loop-one-test.true))
