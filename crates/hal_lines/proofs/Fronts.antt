-- Words read one after the other.
use Rattle.std.proofs.Common.{◌≡◌, ℕ, ◌+◌, ◌≤◌, false, List, [], ◌∷◌, ◌++◌, length, Result, Ok, Err, arith, append_assoc}
use Rattle.std.proofs.lemmas.List.{length-append}
use Rattle.hal_lines.specs.declared.cause.Cause.{Cause}
use Rattle.hal_lines.specs.Lines.{before_marks, each, is_mark}
use Rattle.hal_lines.specs.Values.{◌>>=◌, both}

-- what was read before, and what is still read
abbrev pub with_front : {A : Type 0} → List A → Result (List A) Cause → Result (List A) Cause
with_front front (Err cause) = Err cause
with_front front (Ok xs) = Ok (front ++ xs)

-- one more
module _ {A : Type 0} (read : List ℕ → Result A Cause) (front more : List A) (word : List ℕ) (rest after : List (List ℕ)) (x : A) (is : rest ≡ word ∷ after) (unmarked : is_mark word ≡ false) (longer : more ≡ front ++ x ∷ []) where
  pub front_more : (all : Result (List A) Cause) → read word ≡ Ok x → with_front front (each read (before_marks rest)) ≡ all → with_front more (each read (before_marks after)) ≡ all
  front_more all reads so =
      let so' : with_front front (both (Ok x) (each read (before_marks after)) >>= λ p. Ok (p.0 ∷ p.1)) ≡ all = rw (is, unmarked, reads) at so in
      rw longer (by (each read (before_marks after)) so')
    where
      by : (r : Result (List A) Cause) → with_front front (both (Ok x) r >>= λ p. Ok (p.0 ∷ p.1)) ≡ all → with_front (front ++ x ∷ []) r ≡ all
      by (Ok xs) h = rw append_assoc h
      by (Err cause) h = h

  pub few_more : length front + length (before_marks rest) ≤ 16 → length more + length (before_marks after) ≤ 16
  few_more few =
      let few' : length front + length (word ∷ before_marks after) ≤ 16 = rw (is, unmarked) at few in
      rw longer (omega (arith, length-append front (x ∷ []), few'))
