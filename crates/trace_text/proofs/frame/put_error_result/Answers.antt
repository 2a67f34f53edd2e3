use Rattle.std.proofs.Common.{append_assoc, refl}
use Rattle.trace_text.proofs.frame.put_error_result.Goals as goal

pub returns : goal.returns
returns c = rw (c.put-2.ensures.text, c.put_small.ensures.text, c.put.ensures.text) (simp append_assoc refl)
