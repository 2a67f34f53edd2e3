use Rattle.std.proofs.Common.{◌≡◌, ◌+◌, ◌<◌, ◌∷◌, [], ◌++◌, length, map, add-one, ap, sym, ◌∙◌, subst, arith}
use Rattle.std.specs.List.{range_with_len}
use Rattle.std.proofs.lemmas.List.{append-nil}
use Rattle.auto_call.specs.Brightness.{at_step, mean}
use Rattle.auto_call.specs.Scene.{measured}
use Rattle.auto_call.specs.Search.{step_of}
use Rattle.auto_call.specs.OutputLines.{frame_line, end_line}
use Rattle.auto_call.specs.Output.{shot, scene_lines}
use Rattle.auto_call.proofs.Steps.{one-more, shot-is, shots-count, frame-is, lines-count, scene-ended}
use Rattle.auto_call.proofs.run.add_scene.Goals as goal

pub loop-init : goal.loop-init
unfolding measured
loop-init c = record {
  lines = sym (append-nil c.args.found.now.lines);
  shots = sym (append-nil c.args.found.now.shots);
  search = c.start-ae.ensures;
}

pub add_frame-requires-clause-lines : goal.add_frame-requires-clause-lines
add_frame-requires-clause-lines c =
    let n = lines-count (λ i. frame_line (length c.args.found.now.shots + i) (shot c.args.target c.args.settings i)) c.loop.counter c.args.found.now.lines c.loop.found.lines c.loop.invariant.lines in
    omega arith

pub add_frame-requires-clause-shots : goal.add_frame-requires-clause-shots
add_frame-requires-clause-shots c =
    let n = shots-count c.args.target c.args.settings c.loop.counter c.args.found.now.shots c.loop.found.shots c.loop.invariant.shots in
    omega arith

pub loop-preserved : goal.loop-preserved
loop-preserved c =
    let s = c.args.settings in
    let target = c.args.target in
    let i = c.loop.counter in
    let first = length c.args.found.now.shots in
    let captured : c.at_step-shot.result ≡ at_step s (step_of c.loop.ae) = c.at_step-shot.ensures.value ∙ ap (at_step s) c.exposure.ensures.value in
    let is : c.at_step-shot.result ≡ shot target s i = captured ∙ shot-is target s first i c.loop.ae c.requires.still c.loop.invariant.search in
    let number : length c.loop.found.shots ≡ first + i = shots-count target s i c.args.found.now.shots c.loop.found.shots c.loop.invariant.shots in
    let told : c.in_ok-mean.mean ≡ mean (at_step s (step_of c.loop.ae)) (first + i) =
    c.in_ok-mean.ensures.mean ∙ (ap (mean c.at_step-shot.result) number ∙ ap (λ shot. mean shot (first + i)) captured) in
    record {
      lines = one-more (λ i. frame_line (first + i) (shot target s i)) i c.args.found.now.lines c.loop.found.lines c.add_frame.new.found.lines _ c.loop.invariant.lines c.in_ok-mean.ensures.lines (frame-is target s first i (length c.loop.found.shots) c.at_step-shot.result number is);
      shots = one-more (shot target s) i c.args.found.now.shots c.loop.found.shots c.add_frame.new.found.shots c.at_step-shot.result c.loop.invariant.shots c.in_ok-mean.ensures.shots is;
      search = rw add-one (c.learn.ensures.follows s first i c.loop.invariant.search told);
    }

pub push-requires : goal.push-requires
push-requires c =
    let n = lines-count (λ i. frame_line (length c.args.found.now.shots + i) (shot c.args.target c.args.settings i)) c.loop.counter c.args.found.now.lines c.loop.found.lines c.loop.invariant.lines in
    omega arith

pub returns-clause-lines : goal.returns-clause-lines
returns-clause-lines c =
    let s = c.args.settings in
    let target = c.args.target in
    let first = length c.args.found.now.shots in
    let all : c.loop.counter ≡ c.args.frames = omega arith in
    let told : c.end_line.result ≡ end_line c.args.number _ = c.end_line.ensures ∙ ap (end_line c.args.number) c.state.ensures.value in
    let next = c.in_ok-push.ensures.ok ∙ ap (λ line. c.loop.found.lines ++ line ∷ []) told in
    subst (λ m. c.push.new.self ≡ c.args.found.now.lines ++ scene_lines target s first c.args.number m) all
    (scene-ended target s first c.args.number c.loop.counter c.loop.ae c.args.found.now.lines c.loop.found.lines c.push.new.self c.requires.still c.loop.invariant.search c.loop.invariant.lines next)
