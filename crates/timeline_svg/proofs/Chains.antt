-- What is written piece by piece.
use Rattle.std.proofs.Common.{◌≡◌, ℕ, List, ◌++◌, append_assoc, Result, OnOk, ap, ◌∙◌}
use Rattle.std.proofs.lemmas.Result.{on_ok_weaker}

-- a piece, and behind it what is written next
pub followed : {T E : Type 0} (r : Result T E) (o one two a b : List ℕ) → one ≡ o ++ a → OnOk r (two ≡ one ++ b) → OnOk r (two ≡ o ++ (a ++ b))
followed r o one two a b first next =
    on_ok_weaker r (λ (e : two ≡ one ++ b). e ∙ (ap (λ (l : List ℕ). l ++ b) first ∙ append_assoc o a b)) next
