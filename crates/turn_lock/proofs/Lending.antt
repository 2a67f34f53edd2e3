-- What a try to lend a ticket did.
use Rattle.std.proofs.Common.{Bool, true, false, Result, Ok, Err, IfOk, OnErr, MatchBool, ◌⊎◌, inl, inr}

module _ {E : Type 0} where
  -- it was lent, or nothing changed
  pub lent_or_not : (P Q C : Type 0) (r : Result Bool E) → IfOk r (λ done. MatchBool done P (Q × C)) → OnErr r C → P ⊎ C
  lent_or_not P Q C (Ok true) ok err = inl ok
  lent_or_not P Q C (Ok false) ok err = inr ok.1
  lent_or_not P Q C (Err e) ok err = inr err

  pub told_so : (P Q A B : Type 0) (r : Result Bool E) → IfOk r (λ done. MatchBool done P Q) → (P → A) → (Q → B) → IfOk r (λ done. MatchBool done A B)
  told_so P Q A B (Ok true) ok f g = f ok
  told_so P Q A B (Ok false) ok f g = g ok
  told_so P Q A B (Err e) ok f g = ok
