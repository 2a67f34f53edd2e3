use Rattle.std.proofs.Common.{◌∙◌, List, sym, ap}
use Rattle.state_facts.specs.Row.{Target}
use Rattle.std.specs.List.{find}
use Rattle.state_facts.specs.FrameReadings.{is_pending}
use Rattle.judge_rows.specs.Views.{as_target}
use Rattle.judge_rows.proofs.TargetLemmas.{map-four}
use Rattle.trace_check.proofs.targets.pending_target.Goals as goal

pub returns : goal.returns
returns c =
    let third = c.first_with-third.ensures _ c.only_with-last.ensures in
    let second = c.first_with-second.ensures _ third in
    c.first_with.ensures _ second ∙ ap (λ (xs : List Target). find (is_pending c.args.fence.0) xs) (sym (map-four as_target c.args.targets.now))
