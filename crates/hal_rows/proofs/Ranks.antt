-- A request is later than another where it has the higher rank.
use Rattle.std.proofs.Common.{◌≡◌, ℕ, ◌==◌, ◌+◌, Bool, true, false, ◌||◌, List, [], ◌∷◌, refl, sym, inl, inr, arith, nat_lt, suc, if◌then◌else◌}
use Rattle.std.specs.List.{list_any}
use Rattle.std.proofs.lemmas.Bool.{cases_Bool, false≢true, ltb-true, or_parts}
use Rattle.std.proofs.lemmas.Bool.Decides.{nat_tests}
use Rattle.hal_model.specs.declared.event.HalEvent.{HalEvent}
use Rattle.hal_model.specs.declared.event.HalEvent.TheVariants.{RequestBegin}
use Rattle.hal_model.specs.Words.{begins, is_begun, since, stands}
use Rattle.hal_rows.specs.Device.{above}
use Rattle.hal_rows.specs.Row.{begun_count, rank_of}

-- a request that was begun was so before the next one
pub rank-below : (n : ℕ) (past : List HalEvent) → is_begun n past ≡ true → nat_lt (rank_of n past) (begun_count past) ≡ true
rank-below n [] h = absurd (false≢true h)
rank-below n (RequestBegin m same ts a b ∷ past) h =
    elim (cases_Bool (m == n)) [
      | inl here ↦ rw here (grind (arith, nat_tests))
      | inr other ↦ (
          let h' = rw other at h in
          let ih = rank-below n past h' in
          rw other (more (rank_of n past) (begun_count past) ih)
          )
    ]
  where
    more : (a b : ℕ) → nat_lt a b ≡ true → nat_lt a (suc b) ≡ true
    more a b h = grind (arith, nat_tests)
rank-below n (e ∷ past) h = rank-below n past h

-- nothing was begun behind n that wasn't begun
pub never : (n m : ℕ) (past : List HalEvent) → is_begun m past ≡ false → stands n (begins m) past ≡ false
never n m [] h = refl
never n m (e ∷ past) h = by (begins n e) (or_parts (begins m e) (is_begun m past) h).0 (never n m past (or_parts (begins m e) (is_begun m past) h).1)
  where
    by : (b : Bool) → begins m e ≡ false → stands n (begins m) past ≡ false → list_any (begins m) (if b then [] else e ∷ since n past) ≡ false
    by true other ih = refl
    by false other ih = rw other ih

lt-self : (a : ℕ) → nat_lt a a ≡ false
lt-self a = grind (arith, nat_tests)

not-below : (a b : ℕ) → nat_lt a b ≡ true → nat_lt b a ≡ false
not-below a b h = grind (arith, nat_tests)

pub ranked : (n m : ℕ) (past : List HalEvent) → is_begun n past ≡ true → is_begun m past ≡ true → stands n (begins m) past ≡ nat_lt (rank_of n past) (rank_of m past)
ranked n m [] h j = absurd (false≢true h)
ranked n m (RequestBegin x same ts a b ∷ past) h j =
    elim (cases_Bool (x == n)) [
      | inl here ↦ elim (cases_Bool (x == m)) [
        | inl also ↦ rw (here, also) (sym (lt-self (begun_count past)))
        | inr other ↦ (
            let j' = rw other at j in
            rw (here, other) (sym (not-below (rank_of m past) (begun_count past) (rank-below m past j')))
            )
      ]
      | inr far ↦ elim (cases_Bool (x == m)) [
        | inl also ↦ (
            let h' = rw far at h in
            rw (far, also) (sym (rank-below n past h'))
            )
        | inr other ↦ (
            let h' = rw far at h in
            let j' = rw other at j in
            rw (far, other) (ranked n m past h' j')
            )
      ]
    ]
ranked n m (e ∷ past) h j = ranked n m past h j

-- ---- tops

pub raised-more : (x r t : ℕ) → nat_lt (suc x) (above r t) ≡ (nat_lt (suc x) t || nat_lt x r)
raised-more x r t =
    elim (cases_Bool (nat_lt r t)) [
      | inl under ↦ rw under (under_by x r t under)
      | inr over ↦ rw over (over_by x r t over)
    ]
  where
    under_by : (x r t : ℕ) → nat_lt r t ≡ true → nat_lt (suc x) t ≡ (nat_lt (suc x) t || nat_lt x r)
    under_by x r t h =
        elim (cases_Bool (nat_lt x r)) [
          | inl less ↦ (let l = ltb-true x r less in let m = ltb-true r t h in let both : nat_lt (suc x) t ≡ true = grind (arith, nat_tests, l, m) in rw both refl)
          | inr no' ↦ rw no' (keep (nat_lt (suc x) t))
        ]
      where
        keep : (c : Bool) → c ≡ (c || false)
        keep true = refl
        keep false = refl

    over_by : (x r t : ℕ) → nat_lt r t ≡ false → nat_lt (suc x) (r + 1) ≡ (nat_lt (suc x) t || nat_lt x r)
    over_by x r t h = grind (arith, nat_tests, h)
