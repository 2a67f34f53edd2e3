use Rattle.std.proofs.Common.{◌∙◌, sym, ap, reverse}
use Rattle.cam_types.specs.Picture.{picture}
use Rattle.trace_model.specs.Frames.{settings_in}
use Rattle.trace_check.proofs.Accepted.{frame-in-range}
use Rattle.trace_check.proofs.filled.settings_to_draw.Goals as goal
use Rattle.trace_check.proofs.Dark.{dark-picture}

pub returns-in-Some-clause-range : goal.returns-in-Some-clause-range
returns-in-Some-clause-range c = frame-in-range c.args.script.now (reverse c.args.entries.now) c.requires c.args.frame.0 c.in-Some.item (sym c.item_of.ensures ∙ c.in-Some.is)

pub returns-in-None-clause-picture : goal.returns-in-None-clause-picture
returns-in-None-clause-picture c = λ spec n. dark-picture spec n ∙ sym (ap (λ o. picture spec (settings_in o) n) (sym c.item_of.ensures ∙ c.in-None.is))
