use Rattle.std.proofs.Common.{◌∙◌, ◌==◌, List, sym, ap}
use Rattle.state_facts.specs.Row.{Target}
use Rattle.std.specs.List.{find}
use Rattle.judge_rows.specs.Views.{as_target}
use Rattle.judge_rows.proofs.TargetLemmas.{map-four}
use Rattle.trace_check.proofs.targets.target_for.Goals as goal

pub returns : goal.returns
returns c =
    let third = c.first_for-third.ensures _ c.only_for-last.ensures in
    let second = c.first_for-second.ensures _ third in
    c.first_for.ensures _ second ∙ ap (λ (xs : List Target). find (λ t. t.sent.stream.0 == c.args.stream.0) xs) (sym (map-four as_target c.args.targets.now))
