use Rattle.std.proofs.Common.{◌∙◌, ℕ, Option, ap, reverse}
use Rattle.trace_model.specs.declared.entry.Entry.{Entry}
use Rattle.trace_model.specs.Place.{last_naming, sends_with}
use Rattle.judge_filters.proofs.place.is_at_device_by.Goals as goal

pub returns : goal.returns
returns c =
    let named = c.last_naming-last.ensures ∙ ap (λ (b : ℕ). last_naming b (reverse c.args.entries.now)) c.from.ensures in
    c.sends_with.ensures ∙ ap (λ (o : Option Entry). sends_with c.args.frame.0 c.args.stream.0 c.args.buffer.0 o) named
