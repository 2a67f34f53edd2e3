-- Beginnings of one list.
use Rattle.std.proofs.Common.{ℕ, zero, suc, Some, slice_get, ◌≡◌, suc, ◌≤◌, List, [], ◌∷◌, ◌++◌, length, refl, ap, sym, ◌∙◌, arith, append_assoc, length-append, cond, true, false, nat_lt, ◌⊎◌, ⊎_elim}
use Rattle.std.proofs.lemmas.List.{append-nil}
use Rattle.std.proofs.lemmas.Bool.{lt-ltb, le-ltb}
use mathlib.Core.Logic.{dite}
use native.Mathlib.Decide.{dec_le}
use mathlib.Core.List.{IsPrefix}
use Rattle.turn_lock.specs.Views.{longer, shorter}

module _ {A : Type 0} where
  pub begins_itself : (xs : List A) → IsPrefix xs xs
  begins_itself xs = ([], append-nil xs)

  pub begins_through : (xs ys zs : List A) → IsPrefix xs ys → IsPrefix ys zs → IsPrefix xs zs
  begins_through xs ys zs p q = (p.0 ++ q.0, sym (append_assoc xs p.0 q.0) ∙ (ap (λ (w : List A). w ++ q.0) p.1 ∙ q.1))

  -- of two beginnings of one list the shorter begins the longer
  pub begins_longer : (xs ys zs : List A) → IsPrefix xs zs → IsPrefix ys zs → length xs ≤ length ys → IsPrefix xs ys
  begins_longer [] ys zs p q le = (ys, refl)
  begins_longer (x ∷ xs) [] zs p q le = absurd (omega arith)
  begins_longer (x ∷ xs) (y ∷ ys) [] p q le = absurd (cc (p.1))
  begins_longer (x ∷ xs) (y ∷ ys) (z ∷ zs) p q le =
      let rest = begins_longer xs ys zs (p.0, cc (p.1)) (q.0, cc (q.1)) (omega arith) in
      (rest.0, cc (p.1, q.1, rest.1))

  -- a beginning that is as long as the list
  pub begins_whole : (xs ys : List A) → IsPrefix xs ys → length ys ≤ length xs → xs ≡ ys
  begins_whole xs ys p le =
      let P : List A → Type 0 = λ r. (xs ++ r ≡ ys) → length ys ≤ length xs → xs ≡ ys in
      elim (p.0) as P [ [] ↦ λ e _. sym (append-nil xs) ∙ e | r ∷ rs ↦ λ e l. absurd (omega (arith, ap length e, length-append xs (r ∷ rs))) ] p.1 le

  pub longer_begins : (xs ys zs : List A) → IsPrefix xs zs → IsPrefix ys zs → IsPrefix (longer xs ys) zs
  longer_begins xs ys zs p q = elim (nat_lt (length xs) (length ys)) as (λ b. IsPrefix (cond b ys xs) zs) [ true ↦ q | false ↦ p ]

  pub begins_length : (xs ys : List A) → IsPrefix xs ys → length xs ≤ length ys
  begins_length xs ys p = omega (arith, sym (ap length p.1) ∙ length-append xs p.0)

  -- two beginnings of one list, of which one is all of it
  pub longer_whole : (xs ys zs : List A) → IsPrefix xs zs → IsPrefix ys zs → (xs ≡ zs) ⊎ (ys ≡ zs) → longer xs ys ≡ zs
  longer_whole xs ys zs p q whole =
      let a = begins_length xs zs p in
      let b = begins_length ys zs q in
      let all : length zs ≤ length xs → xs ≡ zs = begins_whole xs zs p in
      let all' : length zs ≤ length ys → ys ≡ zs = begins_whole ys zs q in
      dite (dec_le (suc (length xs)) (length ys))
      (λ lt. let n : length zs ≤ length ys = ⊎_elim (λ (e : xs ≡ zs). omega (arith, ap length e)) (λ (e : ys ≡ zs). omega (arith, ap length e)) whole in rw (lt-ltb (length xs) (length ys) lt) (all' n))
      (λ ge. let n : length zs ≤ length xs = ⊎_elim (λ (e : xs ≡ zs). omega (arith, ap length e)) (λ (e : ys ≡ zs). omega (arith, ap length e, ge)) whole in rw (le-ltb (length xs) (length ys) (omega (arith, ge))) (all n))

  pub shorter_begins : (xs ys zs : List A) → IsPrefix xs zs → IsPrefix ys zs → IsPrefix (shorter xs ys) (longer xs ys)
  shorter_begins xs ys zs p q =
      dite (dec_le (suc (length xs)) (length ys))
      (λ lt. rw (lt-ltb (length xs) (length ys) lt) (begins_longer xs ys zs p q (omega arith)))
      (λ ge. rw (le-ltb (length xs) (length ys) (omega (arith, ge))) (begins_longer ys xs zs q p (omega (arith, ge))))

  -- what stands in a beginning stands at the same place in the list
  pub begins_get : (xs ys : List A) (k : ℕ) (x : A) → IsPrefix xs ys → slice_get xs k ≡ Some x → slice_get ys k ≡ Some x
  begins_get [] ys k x p h = absurd (cc h)
  begins_get (z ∷ xs) [] k x p h = absurd (cc (p.1))
  begins_get (z ∷ xs) (y ∷ ys) zero x p h = cc (p.1, h)
  begins_get (z ∷ xs) (y ∷ ys) (suc k) x p h = begins_get xs ys k x (p.0, cc (p.1)) h
