-- The name of an error, with zeros past it.
use Rattle.std.proofs.Common.{◌≡◌, ℕ, zero, suc, ◌≤◌, Bool, true, false, eqb, leb, List, [], ◌∷◌, ◌++◌, length, take, drop, refl, ap, arith}
use Rattle.std.specs.Prelude.{bytes_eq, codes, replicate}
use Rattle.std.specs.List.{list_all}
use Rattle.std.proofs.lemmas.Bool.{and_parts, leb-true, eq-eqb}
use Rattle.std.proofs.lemmas.List.{length-append, length-drop}
use Rattle.hal_model.specs.Fits.{is_error_name, is_letter, name_fits}

abbrev pub zeros : List ℕ
zeros = replicate 15 0

all-drop : {A : Type 0} (p : A → Bool) (n : ℕ) (xs : List A) → list_all p xs ≡ true → list_all p (drop n xs) ≡ true
all-drop p zero xs h = h
all-drop p (suc n) [] h = refl
all-drop p (suc n) (x ∷ xs) h = all-drop p n xs (and_parts (p x) (list_all p xs) h).1

take-front : (w z : List ℕ) → take (length w) (w ++ z) ≡ w
take-front [] z = refl
take-front (b ∷ w) z = ap (λ t. b ∷ t) (take-front w z)

drop-front : (w z : List ℕ) → drop (length w) (w ++ z) ≡ z
drop-front [] z = refl
drop-front (b ∷ w) z = drop-front w z

pub name-fits : (w letters : List ℕ) → is_error_name w ≡ true → bytes_eq w (codes "ENODEV") ≡ false → letters ≡ w ++ drop (length w) zeros → name_fits (record { count = length w; letters = letters }) ≡ true
name-fits w letters h n e =
    let p = and_parts (list_all is_letter w) _ h in
    let q = and_parts (leb 1 (length w)) (leb (length w) 15) p.1 in
    let short : length w ≤ 15 = leb-true _ _ q.1 in
    let long : length (w ++ drop (length w) zeros) ≡ 15 = omega (arith, length-append w (drop (length w) zeros), length-drop (length w) zeros, short) in
    rw (e, take-front w (drop (length w) zeros), drop-front w (drop (length w) zeros), h, n, q.1, all-drop (λ b. eqb b 0) (length w) zeros refl, eq-eqb _ _ long) refl
