use Rattle.std.proofs.Common.{◌≡◌, ℕ, List, [], ◌∷◌, ◌++◌, append_assoc, refl}
use Rattle.std.specs.Prelude.{codes, decimal}
use Rattle.trace_text.proofs.frame.put_error_buffer.Goals as goal

regrouped : (out front a b : List ℕ) → ((((out ++ front) ++ a) ++ 32 ∷ []) ++ b) ++ 10 ∷ [] ≡ out ++ (front ++ ((a ++ 32 ∷ (b ++ [])) ++ 10 ∷ []))
regrouped out front a b = simp append_assoc refl

pub returns : goal.returns
returns c =
    rw (c.put-3.ensures.text, c.put_small-2.ensures.text, c.put-2.ensures.text, c.put_small.ensures.text, c.put.ensures.text, c.from.ensures)
    (regrouped c.args.room.now (codes "error buffer ") (decimal c.args.frame.0) (decimal c.args.stream.0))
