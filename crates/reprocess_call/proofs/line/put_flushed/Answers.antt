use Rattle.std.proofs.Common.{◌≡◌, ◌∙◌, ℕ, List, ◌++◌, ap, append_assoc, sym}
use Rattle.std.specs.Prelude.{codes, decimal}
use Rattle.reprocess_call.proofs.line.put_flushed.Goals as goal

regrouped : (out front number back end : List ℕ) → ((out ++ front) ++ number) ++ (back ++ end) ≡ out ++ (front ++ ((number ++ back) ++ end))
regrouped out front number back end =
    append_assoc (out ++ front) number (back ++ end)
    ∙ (append_assoc out front (number ++ (back ++ end)) ∙ ap (λ (l : List ℕ). out ++ (front ++ l)) (sym (append_assoc number back end)))

pub returns : goal.returns
returns c =
    rw (c.put-2.ensures.text, c.put_small.ensures.text, c.put.ensures.text)
    (regrouped c.args.room.now (codes "call ") (decimal c.args.index) (codes " flush = ok") (codes "\n"))
