use Rattle.std.proofs.Common.{◌∙◌, sym, reverse}
use Rattle.trace_model.specs.Fence.{is_signalled}
use Rattle.trace_check.proofs.MissingLemmas.{released-all}
use Rattle.trace_check.proofs.missing.is_all_signalled.Goals as goal

pub returns : goal.returns
returns c = c.all_releases_signalled.ensures ∙ sym (released-all (λ f. is_signalled f (reverse c.args.entries.now)) (reverse c.args.entries.now))
