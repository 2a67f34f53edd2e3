use Rattle.std.proofs.Common.{◌∙◌, refl, sym}
use Rattle.hal_lines.proofs.Both.{both_first, both_second}
use Rattle.hal_lines.proofs.callback.result_with.Goals as goal

pub returns-in-Err-clause-value : goal.returns-in-Err-clause-value
returns-in-Err-clause-value c =
    rw (← c.in_ok-buffers.ensures.rest, ← c.input_of.ensures, ← c.in_ok-buffers.ensures.list, ← c.both.ensures, ← c.pack_of.ensures, ← c.both-2.ensures, ← c.both-fields.ensures, c.in-Err.is) refl

pub returns-in-Ok-clause-value : goal.returns-in-Ok-clause-value
returns-in-Ok-clause-value c =
    rw (← c.in_ok-buffers.ensures.rest, ← c.input_of.ensures, ← c.in_ok-buffers.ensures.list, ← c.both.ensures, ← c.pack_of.ensures, ← c.both-2.ensures, ← c.both-fields.ensures, c.in-Ok.is) refl

pub returns-in-Ok-clause-valid : goal.returns-in-Ok-clause-valid
returns-in-Ok-clause-valid c =
    let packed = both_second _ _ _ _ (sym c.both-fields.ensures ∙ c.in-Ok.is) in
    let listed = both_first _ _ _ _ (sym c.both.ensures ∙ both_second _ _ _ _ (sym c.both-2.ensures ∙ packed)) in
    rw listed at c.in_ok-buffers.ensures.few
