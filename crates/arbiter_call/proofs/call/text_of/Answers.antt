use Rattle.std.proofs.Common.{◌≡◌, ℕ, List, arith, ap, ◌∙◌}
use Rattle.std.proofs.lemmas.Result.{IfOk-weaker}
use Rattle.arbiter_call.specs.Answers.{log_of}
use Rattle.arbiter_call.proofs.LogTexts.{all-fit, log-text}
use Rattle.arbiter_call.proofs.call.text_of.Goals as goal

pub tell_log-requires : goal.tell_log-requires
tell_log-requires c =
    rw c.log.ensures (all-fit c.in_ok-arbiter.arbiter.cameras c.in_ok-arbiter.arbiter.past c.keeps_the_laws.ensures.range)

pub returns : goal.returns
returns c =
    let made : c.in_ok-arbiter.arbiter.past ≡ log_of c.args.text.now.cameras c.args.text.now.lines = grind arith in
    IfOk-weaker c.tell_log.result _ _ (λ told whole. log-text c.args.text.now c.log.result.now c.in_ok-arbiter.arbiter.past told.text.items c.requires c.log.ensures made c.every_log_keeps_the_laws.ensures.at_the_end whole) c.tell_log.ensures
