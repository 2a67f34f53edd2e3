-- A list that is thinned out in place, from the front on.
use Rattle.std.proofs.Common.{◌≡◌, ◌<◌, ℕ, ◌+◌, zero, suc, Bool, List, [], ◌∷◌, ◌++◌, refl, sym, ap, ◌∙◌, length, filter, take, drop, get_or, cond, add-one}
use Rattle.std.proofs.lemmas.List.Elements.{filter_more}

first : {X : Type 0} (i : ℕ) (xs : List X) (d : X) → get_or (drop i xs) 0 d ≡ get_or xs i d
first zero xs d = refl
first (suc i) [] d = refl
first (suc i) (x ∷ xs) d = first i xs d

-- what is behind a place is behind the next
pub rest-more : {X : Type 0} (i : ℕ) (old init : List X) → drop i old ≡ drop i init → drop (i + 1) old ≡ drop (i + 1) init
rest-more {X} i old init h = rw add-one (sym (one i old) ∙ (ap (λ (z : List X). drop 1 z) h ∙ one i init))
  where
    one : (i : ℕ) (xs : List X) → drop 1 (drop i xs) ≡ drop (suc i) xs
    one zero [] = refl
    one zero (x ∷ xs) = refl
    one (suc i) [] = refl
    one (suc i) (x ∷ xs) = one i xs

-- what stands at a place, where what is behind it is the same
pub at-rest : {X : Type 0} (i : ℕ) (old init : List X) (d : X) → drop i old ≡ drop i init → get_or old i d ≡ get_or init i d
at-rest {X} i old init d h = sym (first i old d) ∙ (ap (λ (z : List X). get_or z 0 d) h ∙ first i init d)

one-kept : {X : Type 0} (p : X → Bool) (x : X) → filter p (x ∷ []) ≡ cond (p x) (x ∷ []) []
one-kept p x = refl

-- what is kept of one more
pub kept-more : {X : Type 0} (p : X → Bool) (i : ℕ) (old init new : List X) (k k' : ℕ) (d x : X) → i < length init → take k old ≡ filter p (take i init) → drop i old ≡ drop i init → x ≡ get_or old i d → take k' new ≡ take k old ++ filter p (x ∷ []) → take k' new ≡ filter p (take (i + 1) init)
kept-more {X} p i old init new k k' d x less kept rest is now =
    let own : x ≡ get_or init i d = is ∙ at-rest i old init d rest in
    now ∙ (ap (λ (z : List X). z ++ filter p (x ∷ [])) kept
    ∙ (ap (λ (y : X). filter p (take i init) ++ filter p (y ∷ [])) own ∙ sym (filter_more p init i d less)))
