use Rattle.std.proofs.Common.{◌∙◌}
use Rattle.hal_text.proofs.begun.Begun.has_begin.Goals as goal

pub returns-in-RequestError : goal.returns-in-RequestError
returns-in-RequestError c past k = rw c.in-RequestError.is (c.is_requested-in-RequestError.ensures ∙ k.requested c.in-RequestError.frame)
