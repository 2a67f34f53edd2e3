use Rattle.std.proofs.Common.{◌∙◌, ◌+◌, ap, arith, length}
use Rattle.cam_types.specs.declared.script.Script.{Script}
use Rattle.run_model.specs.Played.{pick_at}
use Rattle.logical_call.proofs.Running.{few-made, made-so-far, one-more, script-so-far, two-puts}
use Rattle.logical_call.proofs.text.run_text.Goals as goal

pub loop-camera-preserved : goal.loop-camera-preserved
loop-camera-preserved c =
    let script = c.args.cameras.now.script in
    let now = c.loop-camera in
    let same = c.script.ensures ∙ script-so-far script now.cameras now.made now.out.items now.invariant in
    let pick = c.pick_at.ensures ∙ ap (λ (s : Script). pick_at s now.made) same in
    let answers = rw pick at c.in-Did.ensures.answers in
    let shown = two-puts _ _ _ _ _ c.in_ok-put_entry.ensures c.in_ok-put_pair.ensures in
    one-more script now.cameras c.step.new.self now.made now.out.items c.put_pair.new.out.items c.in-Did.camera c.in-Did.entry c.in-Did.paired now.invariant answers shown

pub overflow_add-made : goal.overflow_add-made
overflow_add-made c =
    let script = c.args.cameras.now.script in
    let now = c.loop-camera in
    let same = c.script.ensures ∙ script-so-far script now.cameras now.made now.out.items now.invariant in
    let pick = c.pick_at.ensures ∙ ap (λ (s : Script). pick_at s now.made) same in
    let answers = rw pick at c.in-Did.ensures.answers in
    let shown = two-puts _ _ _ _ _ c.in_ok-put_entry.ensures c.in_ok-put_pair.ensures in
    let more = one-more script now.cameras c.step.new.self now.made now.out.items c.put_pair.new.out.items c.in-Did.camera c.in-Did.entry c.in-Did.paired now.invariant answers shown in
    let count = made-so-far script c.step.new.self (now.made + 1) c.put_pair.new.out.items more in
    let few = few-made c.step.new.self.script (length c.step.new.self.first + length c.step.new.self.second) c.is_a_run.ensures.valid c.is_a_run.ensures.few in
    omega (arith, count, few)
