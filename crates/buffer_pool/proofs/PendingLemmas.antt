-- Where a number stands among others, and what is left without it.
use Rattle.std.proofs.Common.{◌≡◌, ℕ, suc, ◌+◌, ◌<◌, ◌==◌, true, false, not, nat_lt, List, [], ◌∷◌, ◌++◌, Some, None, refl, sym, ap, inl, inr, arith, length, get_or}
use Rattle.std.specs.List.{list_all, position_from, remove}
use Rattle.std.proofs.lemmas.Bool.{and_parts, cases_Bool, eqb-true}
use Rattle.std.proofs.lemmas.Bool.Decides.{nat_tests}
use Rattle.std.proofs.lemmas.List.Folds.{list_all-append}
use Rattle.buffer_pool.specs.Pending.{are_below, ascends, stands, without}

-- a number that is less than all isn't among them
pub none-there : (f x : ℕ) (ns : List ℕ) → x ≡ f → list_all (λ m. nat_lt x m) ns ≡ true → without f ns ≡ ns
none-there f x [] same h = refl
none-there f x (n ∷ ns) same h =
    let parts = and_parts (nat_lt x n) (list_all (λ m. nat_lt x m) ns) h in
    let other : (n == f) ≡ false = grind (arith, nat_tests, parts.0, same) in
    rw (other, none-there f x ns same parts.1) refl

-- the place at which a number stands
pub record IsPlaceOf (f k : ℕ) (ns : List ℕ) : Type 0 where
  pub within : k < length ns
  pub here : (d : ℕ) → get_or ns k d ≡ f
  pub left : remove ns k ≡ without f ns
  pub stands : stands f ns ≡ true

later : (f x k : ℕ) (ns : List ℕ) → (x == f) ≡ false → IsPlaceOf f k ns → IsPlaceOf f (suc k) (x ∷ ns)
later f x k ns other at =
    let within = at.within in record {
      within = omega (arith, within);
      here = at.here;
      left = rw other (ap (λ (z : List ℕ). x ∷ z) at.left);
      stands = rw other at.stands;
    }

found-from : (f i p : ℕ) (ns : List ℕ) → ascends ns ≡ true → position_from (λ n. n == f) i ns ≡ Some p → (k : ℕ) × (p ≡ k + i) × IsPlaceOf f k ns
found-from f i p [] up h = absurd (cc)
found-from f i p (x ∷ ns) up h =
    let parts = and_parts (list_all (λ m. nat_lt x m) ns) (ascends ns) up in
    elim (cases_Bool (x == f)) [
      | inl yes' ↦ (
          let h' : Some i ≡ Some p = rw yes' at h in
          let at : i ≡ p = cc in
          let same = eqb-true x f yes' in
          let no' : not (x == f) ≡ false = ap not yes' in (
            0,
            omega (arith, at),
            record {
              within = omega arith;
              here = λ d. same;
              left = rw yes' (sym (none-there f x ns same parts.0));
              stands = rw yes' refl;
            },
          )
          )
      | inr no' ↦ (
          let h' : position_from (λ n. n == f) (i + 1) ns ≡ Some p = rw no' at h in
          let rest = found-from f (i + 1) p ns parts.1 h' in
          let at = rest.1 in (suc rest.0, omega (arith, at), later f x rest.0 ns no' rest.2)
          )
    ]

pub found : (f p : ℕ) (ns : List ℕ) → ascends ns ≡ true → position_from (λ n. n == f) 0 ns ≡ Some p → IsPlaceOf f p ns
found f p ns up h =
    let all = found-from f 0 p ns up h in
    let at = all.1 in
    let same : all.0 ≡ p = omega (arith, at) in
    rw same at all.2

pub absent : (f i : ℕ) (ns : List ℕ) → position_from (λ n. n == f) i ns ≡ None → (without f ns ≡ ns) × (stands f ns ≡ false)
absent f i [] h = (refl, refl)
absent f i (x ∷ ns) h = elim (cases_Bool (x == f)) [
  | inl yes' ↦ (let h' : Some i ≡ None = rw yes' at h in absurd (cc))
  | inr no' ↦ (
      let h' : position_from (λ n. n == f) (i + 1) ns ≡ None = rw no' at h in
      let rest = absent f (i + 1) ns h' in (rw no' (ap (λ (z : List ℕ). x ∷ z) rest.0), rw no' rest.1)
      )
]

all-without : (f x : ℕ) (ns : List ℕ) → list_all (λ m. nat_lt x m) ns ≡ true → list_all (λ m. nat_lt x m) (without f ns) ≡ true
all-without f x [] h = refl
all-without f x (n ∷ ns) h =
    let parts = and_parts (nat_lt x n) (list_all (λ m. nat_lt x m) ns) h in
    elim (cases_Bool (n == f)) [
      | inl yes' ↦ rw yes' (all-without f x ns parts.1)
      | inr no' ↦ rw (no', parts.0) (all-without f x ns parts.1)
    ]

pub ascends-without : (f : ℕ) (ns : List ℕ) → ascends ns ≡ true → ascends (without f ns) ≡ true
ascends-without f [] h = refl
ascends-without f (n ∷ ns) h =
    let parts = and_parts (list_all (λ m. nat_lt n m) ns) (ascends ns) h in
    elim (cases_Bool (n == f)) [
      | inl yes' ↦ rw yes' (ascends-without f ns parts.1)
      | inr no' ↦ rw (no', all-without f n ns parts.0) (ascends-without f ns parts.1)
    ]

-- the last of numbers that pass a test, and the others
pub all-last : (m : ℕ) (xs ys : List ℕ) (x : ℕ) → xs ≡ ys ++ x ∷ [] → are_below m xs ≡ true → (x < m) × (are_below m ys ≡ true)
all-last m xs ys x is h = go ys (rw is at h)
  where
    go : (zs : List ℕ) → are_below m (zs ++ x ∷ []) ≡ true → (x < m) × (are_below m zs ≡ true)
    go [] k = (let parts = and_parts (nat_lt x m) true k in (grind (arith, nat_tests, parts.0), refl))
    go (z ∷ zs) k =
        let parts = and_parts (nat_lt z m) (are_below m (zs ++ x ∷ [])) k in
        let rest = go zs parts.1 in (rest.0, rw parts.0 rest.1)

pub ascends-push : (ns : List ℕ) (x : ℕ) → ascends ns ≡ true → are_below x ns ≡ true → ascends (ns ++ x ∷ []) ≡ true
ascends-push [] x up below = refl
ascends-push (n ∷ ns) x up below =
    let parts = and_parts (list_all (λ m. nat_lt n m) ns) (ascends ns) up in
    let parts' = and_parts (nat_lt n x) (are_below x ns) below in
    rw (list_all-append (λ m. nat_lt n m) ns (x ∷ []), parts.0, parts'.0) (ascends-push ns x parts.1 parts'.1)
