-- The streams that pass a test, one after the other.
use Rattle.std.proofs.Common.{◌≡◌, ℕ, ◌==◌, ◌+◌, ◌-◌, ◌<◌, ◌≤◌, zero, suc, Bool, false, ◌&&◌, ◌||◌, not, cond, List, [], ◌∷◌, Option, Some, None, refl, ◌∙◌, ap, arith, filter, find, inl, inr, length, subst, add-zero}
use Rattle.std.specs.Prelude.{is_some, nat_le, nat_lt}
use Rattle.std.specs.List.{list_all, list_any, range_with_len}
use Rattle.std.proofs.lemmas.Bool.{cases_Bool, cases_order}
use Rattle.std.proofs.lemmas.Bool.Decides.{Decides-eqb, nat_tests}
use Rattle.trace_model.specs.declared.entry.Sent.{Sent}
use Rattle.judge_rules.specs.Asked.{left_from, are_left}

pub all_asked : (p q : ℕ → Bool) (ss : List ℕ) → list_all q (filter p ss) ≡ list_all (λ s. not (p s) || q s) ss
all_asked p q [] = refl
all_asked p q (s ∷ ss) =
    elim (cases_Bool (p s)) [
      | inl yes' ↦ rw yes' (ap (λ (b : Bool). q s && b) (all_asked p q ss))
      | inr no' ↦ rw no' (all_asked p q ss)
    ]

-- ---- one after the other

filter_none : (p : ℕ → Bool) (a n : ℕ) → find p (range_with_len a n) ≡ None → filter p (range_with_len a n) ≡ []
filter_none p a zero e = refl
filter_none p a (suc n) e =
    elim (cases_Bool (p a)) [
      | inl yes' ↦ absurd (let e' = rw yes' at e in cc)
      | inr no' ↦ rw no' (filter_none p (a + 1) n (rw no' at e))
    ]

filter_some : (p : ℕ → Bool) (a n s m : ℕ) → find p (range_with_len a n) ≡ Some s → a + n ≡ m → filter p (range_with_len a n) ≡ s ∷ filter p (range_with_len (s + 1) (m - (s + 1)))
filter_some p a zero s m e l = absurd (cc)
filter_some p a (suc n) s m e l =
    elim (cases_Bool (p a)) [
      | inl yes' ↦ (let e' = rw yes' at e in let same : s ≡ a = cc in let long : m - (a + 1) ≡ n = omega arith in rw (yes', same, long) refl)
      | inr no' ↦ rw no' (filter_some p (a + 1) n s m (rw no' at e) (omega arith))
    ]

pub found_below : (p : ℕ → Bool) (a n s : ℕ) → find p (range_with_len a n) ≡ Some s → s < a + n
found_below p a zero s e = absurd (cc)
found_below p a (suc n) s e =
    elim (cases_Bool (p a)) [
      | inl yes' ↦ (let e' = rw yes' at e in let same : s ≡ a = cc in omega arith)
      | inr no' ↦ (let ih = found_below p (a + 1) n s (rw no' at e) in omega arith)
    ]

-- nothing is found past the end
none_past : (p : ℕ → Bool) (a n s : ℕ) → find p (range_with_len a n) ≡ Some s → n ≡ 0 → ⊥
none_past p a zero s e l = absurd (cc)
none_past p a (suc n) s e l = absurd (omega arith)

left_next : (p : ℕ → Bool) (a s : ℕ) → find p (range_with_len a (4 - a)) ≡ Some s → left_from p a ≡ s ∷ left_from p (s + 1)
left_next p a s e =
    elim (cases_order a 4) [
      | inl same ↦ absurd (none_past p a (4 - a) s e (omega arith))
      | inr other ↦ elim other [
        | inl less ↦ filter_some p a (4 - a) s 4 e (omega arith)
        | inr more ↦ absurd (none_past p a (4 - a) s e (omega arith))
      ]
    ]

left_after : (p : ℕ → Bool) (a s : ℕ) (t : Sent) (rest : List Sent) → find p (range_with_len a (4 - a)) ≡ Some s → are_left (t ∷ rest) p (Some a) ≡ ((t.stream.0 == s) && are_left rest p (Some (s + 1)))
left_after p a s t rest e = rw (left_next p a s e) refl

pub left_same : (p : ℕ → Bool) (a s : ℕ) (t : Sent) (rest : List Sent) → find p (range_with_len a (4 - a)) ≡ Some s → t.stream.0 ≡ s → are_left (t ∷ rest) p (Some a) ≡ are_left rest p (Some (s + 1))
left_same p a s t rest e same = left_after p a s t rest e ∙ rw ((Decides-eqb t.stream.0 s).1 same) refl

pub left_other : (p : ℕ → Bool) (a s : ℕ) (t : Sent) (rest : List Sent) → find p (range_with_len a (4 - a)) ≡ Some s → ¬ (t.stream.0 ≡ s) → are_left (t ∷ rest) p (Some a) ≡ false
left_other p a s t rest e other =
    elim (cases_Bool (t.stream.0 == s)) [
      | inl yes' ↦ absurd (other ((Decides-eqb t.stream.0 s).0 yes'))
      | inr no' ↦ left_after p a s t rest e ∙ rw no' refl
    ]

pub left_none : (p : ℕ → Bool) (a : ℕ) (t : Sent) (rest : List Sent) → find p (range_with_len a (4 - a)) ≡ None → are_left (t ∷ rest) p (Some a) ≡ false
left_none p a t rest e = rw (filter_none p a (4 - a) e) refl

pub none_left : (p : ℕ → Bool) (a : ℕ) (r : Option ℕ) → find p (range_with_len a (4 - a)) ≡ r → are_left [] p (Some a) ≡ not (is_some r)
none_left p a None e = rw (filter_none p a (4 - a) e) refl
none_left p a (Some s) e = rw (left_next p a s e) refl

-- ---- the numbers of a stream's buffers

pub any_in_range : (b a n : ℕ) → list_any (λ x. x == b) (range_with_len a n) ≡ (nat_le a b && nat_lt b (a + n))
any_in_range b a zero = grind (arith, nat_tests)
any_in_range b a (suc n) = let ih = any_in_range b (a + 1) n in grind (arith, nat_tests)

-- how many of the numbers pass, with one more
counted-next : (p : ℕ → Bool) (a n : ℕ) → length (filter p (range_with_len a (n + 1))) ≡ length (filter p (range_with_len a n)) + cond (p (a + n)) 1 0
counted-next p a zero = elim (cases_Bool (p a)) [
  | inl yes' ↦ rw (yes', add-zero) (rw yes' refl)
  | inr no' ↦ rw (no', add-zero) (rw no' refl)
]
counted-next p a (suc n) = let ih = counted-next p (a + 1) n in elim (cases_Bool (p a)) [
  | inl yes' ↦ rw yes' (grind (arith, ih))
  | inr no' ↦ rw no' (grind (arith, ih))
]

pub counted-more : (p : ℕ → Bool) (a b : ℕ) → a ≤ b → length (filter p (range_with_len a (b + 1 - a))) ≡ length (filter p (range_with_len a (b - a))) + cond (p b) 1 0
counted-more p a b h =
    let more : b + 1 - a ≡ (b - a) + 1 = omega arith in
    let last : a + (b - a) ≡ b = omega arith in
    rw more (subst (λ k. length (filter p (range_with_len a (b - a + 1))) ≡ length (filter p (range_with_len a (b - a))) + cond (p k) 1 0) last (counted-next p a (b - a)))
