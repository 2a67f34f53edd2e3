-- A list that grows part by part.
use Rattle.std.proofs.Common.{◌≡◌, ◌∙◌, ℕ, zero, suc, ◌<◌, List, [], ◌∷◌, ◌++◌, Some, refl, ap, arith, get_or, length, slice_get}
use Rattle.std.specs.Prelude.{OnOk}
use Rattle.std.specs.declared.result.Result.{Result}
use Rattle.std.specs.declared.result.Result.TheVariants.{Ok, Err}
use Rattle.std.proofs.lemmas.List.{append_assoc}

pub on_ok : {T E : Type 0} (r : Result T E) (P Q : Type 0) → (P → Q) → OnOk r P → OnOk r Q
on_ok (Ok x) P Q f h = f h
on_ok (Err e) P Q f h = h

-- a part, and all that comes behind it
pub join : {A : Type 0} (before after whole part known rest : List A) → after ≡ before ++ part → part ≡ known → whole ≡ after ++ rest → whole ≡ before ++ (known ++ rest)
join before after whole part known rest added is more =
    more ∙ (ap (λ l. l ++ rest) (added ∙ ap (λ l. before ++ l) is) ∙ append_assoc before known rest)

-- what stands at a place
pub at_some : {X : Type 0} (xs : List X) (p : ℕ) (d : X) → p < length xs → slice_get xs p ≡ Some (get_or xs p d)
at_some [] p d low = absurd (omega (arith, low))
at_some (x ∷ xs) zero d low = refl
at_some (x ∷ xs) (suc p) d low = at_some xs p d (omega (arith, low))
