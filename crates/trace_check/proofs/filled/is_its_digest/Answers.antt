use Rattle.std.proofs.Common.{◌∙◌, sym, reverse}
use Rattle.trace_check.proofs.Accepted.{streams-offered}
use Rattle.trace_check.proofs.Digests.{drawn}
use Rattle.trace_check.proofs.filled.is_its_digest.Goals as goal

pub digest-canvas-requires-clause-offered : goal.digest-canvas-requires-clause-offered
digest-canvas-requires-clause-offered c = streams-offered c.args.script.now (reverse c.args.entries.now) c.requires c.args.stream.0 c.in-Some.spec (sym c.stream_at.ensures ∙ c.in-Some.is)

pub returns-in-Some : goal.returns-in-Some
returns-in-Some c =
    let its = drawn c.args.script.now (reverse c.args.entries.now) c.args.frame.0 c.args.stream.0 c.in-Some.spec c.settings_to_draw-settings.result (sym c.stream_at.ensures ∙ c.in-Some.is) (c.settings_to_draw-settings.ensures.picture c.in-Some.spec c.args.frame.0) in
    let same = c.digest-canvas.ensures ∙ its in
    (λ h. c.is_same_digest.ensures.0 h ∙ same, λ h. c.is_same_digest.ensures.1 (h ∙ sym same))
