-- Each entry is the newest of a legal past, and there are as many drawings as entries.
use Rattle.std.proofs.Common.{◌≡◌, ◌∙◌, ap, arith, rules, length, reverse, take, ◌∷◌, ◌+◌, get_or}
use Rattle.cam_types.specs.declared.script.Word.TheVariants.{Configure}
use Rattle.trace_model.specs.declared.entry.Entry.TheVariants.{Begin}
use Rattle.timeline_model.proofs.Fronts.{drawn_length, legal_at, taken_length, newest}
use Rattle.std.proofs.Math.Numerals.{add-one}
use Rattle.timeline_model.proofs.timeline.draw_all.Goals as goal

pub draw-requires-clause-legal : goal.draw-requires-clause-legal
draw-requires-clause-legal c =
    legal_at c.args.script.now c.args.entries.now c.loop-place.place (Begin Configure) c.loop-place-test.true c.requires.legal

pub push-requires : goal.push-requires
push-requires c =
    let here = c.loop-place.invariant.drawn in
    let many : length c.loop-place.all ≡ length (reverse (take c.loop-place.place c.args.entries.now)) = ap length here ∙ drawn_length c.args.script.now (reverse (take c.loop-place.place c.args.entries.now)) in
    let so : length (reverse (take c.loop-place.place c.args.entries.now)) ≡ c.loop-place.place = taken_length c.args.entries.now c.loop-place.place c.loop-place-test.true in
    omega (arith, many, so)

pub loop-place-preserved : goal.loop-place-preserved
loop-place-preserved c =
    let all = c.args.entries.now in
    let i = c.loop-place.place in
    let now : reverse (take (i + 1) all) ≡ get_or all i (Begin Configure) ∷ reverse (take i all) = rw add-one (newest all i (Begin Configure) c.loop-place-test.true) in
    record {
      drawn = rw (now, ← c.loop-place.invariant.drawn, ← c.in_ok-drawn.ensures.drawn) c.in_ok-push.ensures.ok;
      stands = rw now c.in_ok-drawn.ensures.fits;
      few = search rules;
    }
