use Rattle.std.proofs.Common.{refl}
use Rattle.hal_lines.proofs.call.asked_of.Goals as goal

pub returns-in-Err-clause-value : goal.returns-in-Err-clause-value
returns-in-Err-clause-value c =
    rw (c.in-Some.ensures.words, ← c.in_ok-targets.ensures.rest, ← c.flaws_of.ensures, ← c.in_ok-targets.ensures.list, ← c.both.ensures, ← c.settings_of.ensures, ← c.both-2.ensures, ← c.both-fields.ensures, c.in-Err.is) refl
