use Rattle.std.proofs.Common.{◌∙◌, refl, sym}
use Rattle.hal_lines.proofs.Both.{both_first, both_second}
use Rattle.hal_lines.proofs.call.streams_of.Goals as goal

pub returns-clause-value : goal.returns-clause-value
returns-clause-value c =
    rw (← c.in_ok-streams.ensures.rest, ← c.no_marks.ensures, ← c.in_ok-streams.ensures.list, ← c.both.ensures, ← c.both-2.ensures, c.in_ok-mode.was) refl

pub returns-clause-valid : goal.returns-clause-valid
returns-clause-valid c =
    let listed = both_first _ _ _ _ (sym c.both.ensures ∙ both_second _ _ _ _ (sym c.both-2.ensures ∙ c.in_ok-mode.was)) in
    rw listed at c.in_ok-streams.ensures.few
