use Rattle.std.proofs.lemmas.Grind.{common_steps}
-- One event more is drawn.
use Rattle.std.proofs.Common.{◌≡◌, reverse, take, arith}
use Rattle.std.proofs.lemmas.List.{take_all}
use Rattle.hal_timeline.proofs.Drawn.{drawn_more, turned_item}
use Rattle.hal_timeline.proofs.group.draw_all.Goals as goal
use Rattle.hal_judge.proofs.Reported.{long-turned}

pub loop-place-preserved : goal.loop-place-preserved
loop-place-preserved c =
    let es = c.args.events.now in
    let i = c.loop-place.place in
    let before = reverse (take i es) in
    let more = turned_item es i c.index-events-place.result c.loop-place-test.true c.index-events-place.is in
    let long = long-turned es i c.loop-place-test.true in
    record {
      stands = rw more (c.in_ok-group.ensures.past before c.loop-place.invariant.stands long);
      drawn = drawn_more c.args.parts c.args.lines.now before _ c.index-events-place.result c.in_ok-group.group c.loop-place.groups c.push.new.self more (c.in_ok-group.ensures.drawn before c.loop-place.invariant.stands long) c.loop-place.invariant.drawn c.in_ok-push.ensures.ok;
    }

pub returns-clause-past : goal.returns-clause-past
returns-clause-past c =
    let all : take c.loop-place.place c.args.events.now ≡ c.args.events.now = take_all c.loop-place.place c.args.events.now c.loop-place-test.false in
    rw all at c.loop-place.invariant.stands

pub draw-requires : goal.draw-requires
draw-requires c = grind (arith, common_steps)

pub returns-clause-drawn : goal.returns-clause-drawn
returns-clause-drawn c = grind (arith, common_steps)
