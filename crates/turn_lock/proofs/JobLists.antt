-- Lists in which nothing stands twice, and their parts.
use Rattle.std.proofs.Common.{◌≡◌, ◌≢◌, ℕ, zero, suc, ◌+◌, ◌<◌, List, [], ◌∷◌, ◌++◌, length, get_or, refl, ap, sym, ◌∙◌, subst, arith, ◌⊎◌, inl, inr, ⊎_elim, length-append, Contains, IsPermutation}
use Rattle.std.specs.List.{swap, remove}
use Rattle.std.proofs.lemmas.List.{append-nil, get_or-append-add, get_or_default}
use Rattle.std.proofs.Math.ListN.{get_or-append}
use Rattle.std.proofs.lemmas.List.Edits.{swapped_from_swap, length-swap}
use Rattle.std.proofs.lemmas.List.Elements.{Contains-append_left, Contains-append_cases}
use Rattle.std.proofs.lemmas.List.Sorted.{IsPermutation-refl, IsPermutation-sym, IsPermutation-cons, IsPermutation-trans, IsPermutation-middle, IsPermutation-to_front, IsPermutation-remove, IsPermutation-keeps, Contains-permutation, length_permutation}
use mathlib.Core.Logic.{dite}
use native.Mathlib.Decide.{dec_le, ℕ_discrete}
use Rattle.turn_lock.specs.Rule.{NoneTwice}

module _ {X : Type 0} where
  -- each element stands at one place
  abbrev Apart : List X → Type 0
  Apart xs = (a b : ℕ) (d : X) → a < length xs → b < length xs → get_or xs a d ≡ get_or xs b d → a ≡ b

  apart : (xs : List X) → NoneTwice xs → Apart xs
  apart xs once a b d la lb e = dite (ℕ_discrete a b) (λ same. same)
      (λ other. dite (dec_le a b) (λ le. absurd (once a b d (omega arith) lb e)) (λ gt. absurd (once b a d (omega arith) la (sym e))))

  none_twice : (xs : List X) → Apart xs → NoneTwice xs
  none_twice xs apart a b d lt lb e = let same = apart a b d (omega arith) lb e in omega arith

  -- where the element at k of a list with i and j exchanged stood before
  moved : (l m : List X) (i j : ℕ) (d : X) → i < length l → j < length l → m ≡ swap l i j → (k : ℕ) → k < length l
      → (n : ℕ) × (n < length l) × (get_or m k d ≡ get_or l n d) × (k ≡ i → n ≡ j) × (k ≡ j → n ≡ i) × (k ≢ i → k ≢ j → n ≡ k)
  moved l m i j d li lj is k lk = let s = swapped_from_swap l m i j d li lj is in
      dite (ℕ_discrete k i)
      (λ e. (j, lj, ap (λ n. get_or m n d) e ∙ s.0, λ _. refl, λ f. sym f ∙ e, λ ne. absurd (ne e)))
      (λ ne. dite (ℕ_discrete k j)
      (λ f. (i, li, ap (λ n. get_or m n d) f ∙ s.1, λ e. absurd (ne e), λ _. refl, λ _ nf. absurd (nf f)))
      (λ nf. (k, lk, s.2 k ne nf, λ e. absurd (ne e), λ f. absurd (nf f), λ _ _. refl)))

  swapped_apart : (l : List X) (i j : ℕ) → i < length l → j < length l → Apart l → Apart (swap l i j)
  swapped_apart l i j li lj apart a b d la lb e =
      let len = length-swap l i j in
      let p = moved l (swap l i j) i j d li lj refl a (omega arith) in
      let q = moved l (swap l i j) i j d li lj refl b (omega arith) in
      let same : p.0 ≡ q.0 = apart p.0 q.0 d p.1 q.1 (sym p.2 ∙ (e ∙ q.2)) in
      dite (ℕ_discrete a i)
      (λ ai. dite (ℕ_discrete b i) (λ bi. ai ∙ sym bi) (λ nbi. dite (ℕ_discrete b j) (λ bj. omega (arith, p.3 ai, q.4 bj)) (λ nbj. absurd (nbj (sym (q.5 nbi nbj) ∙ (sym same ∙ p.3 ai))))))
      (λ nai. dite (ℕ_discrete a j)
      (λ aj. dite (ℕ_discrete b i) (λ bi. omega (arith, p.4 aj, q.3 bi)) (λ nbi. dite (ℕ_discrete b j) (λ bj. aj ∙ sym bj) (λ nbj. absurd (nbi (sym (q.5 nbi nbj) ∙ (sym same ∙ p.4 aj))))))
      (λ naj. dite (ℕ_discrete b i) (λ bi. absurd (naj (sym (p.5 nai naj) ∙ (same ∙ q.3 bi)))) (λ nbi. dite (ℕ_discrete b j) (λ bj. absurd (nai (sym (p.5 nai naj) ∙ (same ∙ q.4 bj)))) (λ nbj. sym (p.5 nai naj) ∙ (same ∙ q.5 nbi nbj)))))

  pub none_twice_permutation : (xs ys : List X) → IsPermutation xs ys → NoneTwice xs → NoneTwice ys
  none_twice_permutation xs ys p once = none_twice ys (IsPermutation-keeps xs Apart (apart xs once) swapped_apart ys p)

  pub none_twice_left : (xs ys : List X) → NoneTwice (xs ++ ys) → NoneTwice xs
  none_twice_left xs ys once a b d lt l e = once a b d lt (omega (arith, length-append xs ys)) (get_or-append xs ys d a (omega arith) ∙ (e ∙ sym (get_or-append xs ys d b l)))

  pub none_twice_right : (xs ys : List X) → NoneTwice (xs ++ ys) → NoneTwice ys
  none_twice_right xs ys once a b d lt l e =
      once (length xs + a) (length xs + b) d (omega arith) (omega (arith, length-append xs ys)) (get_or-append-add xs ys a d ∙ (e ∙ sym (get_or-append-add xs ys b d)))

  pub in_one_part : (xs ys : List X) (x : X) → NoneTwice (xs ++ ys) → Contains xs x → Contains ys x → ⊥
  in_one_part xs ys x once a b =
      once a.0 (length xs + b.0) x (omega (arith, a.1)) (omega (arith, b.1, length-append xs ys)) (get_or-append xs ys x a.0 a.1 ∙ (a.2 ∙ (sym b.2 ∙ sym (get_or-append-add xs ys b.0 x))))

  pub contains_more : (y : X) (xs : List X) (x : X) → Contains xs x → Contains (y ∷ xs) x
  contains_more y xs x c = (suc c.0, omega (arith, c.1), c.2)

  pub contains_rest : (y : X) (xs : List X) (x : X) → Contains (y ∷ xs) x → (y ≡ x) ⊎ Contains xs x
  contains_rest y xs x (zero, l, e) = inl e
  contains_rest y xs x (suc k, l, e) = inr (k, omega arith, e)

  first_once : (y : X) (xs : List X) → NoneTwice (y ∷ xs) → Contains xs y → ⊥
  first_once y xs once c = once 0 (suc c.0) y (omega arith) (omega (arith, c.1)) (sym c.2)

  -- what is left of a list that has the others
  pub own_part : (others xs : List X) → NoneTwice others → ((x : X) → Contains others x → Contains xs x) → (own : List X) × IsPermutation xs (own ++ others)
  own_part [] xs once has = (xs, subst (λ (ys : List X). IsPermutation xs ys) (sym (append-nil xs)) (IsPermutation-refl xs))
  own_part (r ∷ rs) xs once has =
      let at = has r (0, omega arith, refl) in
      let left : List X = remove xs at.0 in
      let p : IsPermutation xs (r ∷ left) = IsPermutation-remove xs at.0 r at.1 (sym at.2) in
      let keeps : (x : X) → Contains rs x → Contains left x = λ x c.
      ⊎_elim (λ (e : r ≡ x). absurd (first_once r rs once (subst (λ (z : X). Contains rs z) (sym e) c))) (λ (h : Contains left x). h)
      (contains_rest r left x (Contains-permutation xs (r ∷ left) x p (has x (contains_more r rs x c)))) in
      let own = own_part rs left (none_twice_right (r ∷ []) rs once) keeps in
      let q = IsPermutation-trans xs (r ∷ left) (r ∷ (own.0 ++ rs)) p (IsPermutation-cons r left (own.0 ++ rs) own.1) in
      (own.0, IsPermutation-trans xs (r ∷ (own.0 ++ rs)) (own.0 ++ r ∷ rs) q (IsPermutation-sym (own.0 ++ r ∷ rs) (r ∷ (own.0 ++ rs)) (IsPermutation-middle own.0 r rs)))

  no_more : (xs ys : List X) → length (xs ++ ys) ≡ length ys → xs ≡ []
  no_more [] ys e = refl
  no_more (x ∷ xs) ys e = absurd (omega (arith, length-append (x ∷ xs) ys))

  -- the same others, and so the same own part
  pub same_part : (xs ys others : List X) → NoneTwice (xs ++ others) → IsPermutation (xs ++ others) (ys ++ others) → IsPermutation xs ys
  same_part xs ys others once p =
      let once' : NoneTwice (ys ++ others) = none_twice_permutation (xs ++ others) (ys ++ others) p once in
      let back = IsPermutation-sym (xs ++ others) (ys ++ others) p in
      let has : (x : X) → Contains ys x → Contains xs x = λ x c.
      ⊎_elim (λ (h : Contains xs x). h) (λ (h : Contains others x). absurd (in_one_part ys others x once' c h))
      (Contains-append_cases xs others x (Contains-permutation (ys ++ others) (xs ++ others) x back (Contains-append_left ys others x c))) in
      let own = own_part ys xs (none_twice_left ys others once') has in
      let len : length (own.0 ++ ys) ≡ length ys = omega (arith, length_permutation xs (own.0 ++ ys) own.1, length_permutation (xs ++ others) (ys ++ others) p, length-append xs others, length-append ys others) in
      subst (λ (zs : List X). IsPermutation xs (zs ++ ys)) (no_more own.0 ys len) own.1

  pub none_twice_cons : (x : X) (xs : List X) → (Contains xs x → ⊥) → NoneTwice xs → NoneTwice (x ∷ xs)
  none_twice_cons x xs new once zero (suc b) d lt l e = new (b, omega arith, get_or_default xs b x d (omega arith) ∙ sym e)
  none_twice_cons x xs new once (suc a) (suc b) d lt l e = once a b d (omega arith) (omega arith) e
  none_twice_cons x xs new once a zero d lt l e = omega arith

  -- the same without the one element that both have
  pub same_rest : (x : X) (xs ys : List X) → NoneTwice (x ∷ xs) → IsPermutation (x ∷ xs) (x ∷ ys) → IsPermutation xs ys
  same_rest x xs ys once p =
      let front : (zs : List X) → IsPermutation (zs ++ x ∷ []) (x ∷ zs) = λ zs. IsPermutation-to_front zs x in
      let back = IsPermutation-sym (xs ++ x ∷ []) (x ∷ xs) (front xs) in
      let q = IsPermutation-trans (x ∷ xs) (x ∷ ys) (ys ++ x ∷ []) p (IsPermutation-sym (ys ++ x ∷ []) (x ∷ ys) (front ys)) in
      same_part xs ys (x ∷ []) (none_twice_permutation (x ∷ xs) (xs ++ x ∷ []) back once) (IsPermutation-trans (xs ++ x ∷ []) (x ∷ xs) (ys ++ x ∷ []) (front xs) q)
