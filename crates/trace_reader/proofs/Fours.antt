-- Up to four words, one after the other.
use Rattle.std.proofs.Common.{◌≡◌, ℕ, Bool, true, false, cond, List, [], ◌∷◌, length, Option, None, Some, Result, Ok, Err, refl, ap, ◌∙◌, arith}
use Rattle.std.proofs.lemmas.Bool.{lt-ltb}
use Rattle.cam_types.specs.declared.four.Four.{Four}
use Rattle.cam_types.specs.Four.{four_of}
use Rattle.trace_reader.specs.declared.cause.Cause.{Cause}
use Rattle.trace_reader.specs.declared.cause.Cause.TheVariants.{BadLine}
use Rattle.trace_reader.specs.Values.{◌>>=◌, both}
use Rattle.trace_reader.specs.Lines.{up_to_four, next_value, rest_of}

abbrev pub is_none_left : {A : Type 0} → List A → Bool
is_none_left [] = true
is_none_left (x ∷ xs) = false

module _ {A : Type 0} where
  abbrev found : Result A Cause → Result (Option A) Cause
  found r = r >>= λ x. Ok (Some x)

  abbrev none : Result (Option A) Cause
  none = Ok None

  abbrev pub joined : Result (Option A) Cause → Result (Option A) Cause → Result (Option A) Cause → Result (Option A) Cause → Result (Four A) Cause
  joined a b c d = both a (both b (both c d)) >>= λ p. Ok (record { a = p.0; b = p.1.0; c = p.1.1.0; d = p.1.1.1 })

  abbrev more : Result A Cause → Result (List A) Cause → Result (List A) Cause
  more r s = both r s >>= λ p. Ok (p.0 ∷ p.1)

  abbrev listed : Result (List A) Cause → Result (Four A) Cause
  listed r = r >>= λ xs. Ok (four_of xs)

  four-1 : (r : Result A Cause) → listed (more r (Ok [])) ≡ joined (found r) none none none
  four-1 (Ok x) = refl
  four-1 (Err x) = refl

  four-2 : (r s : Result A Cause) → listed (more r (more s (Ok []))) ≡ joined (found r) (found s) none none
  four-2 (Ok x) (Ok y) = refl
  four-2 (Ok x) (Err y) = refl
  four-2 (Err x) (Ok y) = refl
  four-2 (Err x) (Err y) = refl

  four-3 : (r s t : Result A Cause) → listed (more r (more s (more t (Ok [])))) ≡ joined (found r) (found s) (found t) none
  four-3 (Ok x) (Ok y) (Ok z) = refl
  four-3 (Ok x) (Ok y) (Err z) = refl
  four-3 (Ok x) (Err y) (Ok z) = refl
  four-3 (Ok x) (Err y) (Err z) = refl
  four-3 (Err x) (Ok y) (Ok z) = refl
  four-3 (Err x) (Ok y) (Err z) = refl
  four-3 (Err x) (Err y) (Ok z) = refl
  four-3 (Err x) (Err y) (Err z) = refl

  four-4 : (r s t u : Result A Cause) → listed (more r (more s (more t (more u (Ok []))))) ≡ joined (found r) (found s) (found t) (found u)
  four-4 (Ok x) (Ok y) (Ok z) (Ok w) = refl
  four-4 (Ok x) (Ok y) (Ok z) (Err w) = refl
  four-4 (Ok x) (Ok y) (Err z) (Ok w) = refl
  four-4 (Ok x) (Ok y) (Err z) (Err w) = refl
  four-4 (Ok x) (Err y) (Ok z) (Ok w) = refl
  four-4 (Ok x) (Err y) (Ok z) (Err w) = refl
  four-4 (Ok x) (Err y) (Err z) (Ok w) = refl
  four-4 (Ok x) (Err y) (Err z) (Err w) = refl
  four-4 (Err x) (Ok y) (Ok z) (Ok w) = refl
  four-4 (Err x) (Ok y) (Ok z) (Err w) = refl
  four-4 (Err x) (Ok y) (Err z) (Ok w) = refl
  four-4 (Err x) (Ok y) (Err z) (Err w) = refl
  four-4 (Err x) (Err y) (Ok z) (Ok w) = refl
  four-4 (Err x) (Err y) (Ok z) (Err w) = refl
  four-4 (Err x) (Err y) (Err z) (Ok w) = refl
  four-4 (Err x) (Err y) (Err z) (Err w) = refl

  abbrev pub by_steps : (ℕ → List ℕ → Result A Cause) → List (List ℕ) → Result (Four A) Cause
  by_steps read ws = cond (is_none_left (rest_of (rest_of (rest_of (rest_of ws)))))
      (joined (next_value (read 0) ws) (next_value (read 1) (rest_of ws)) (next_value (read 2) (rest_of (rest_of ws))) (next_value (read 3) (rest_of (rest_of (rest_of ws)))))
      (Err BadLine)

  pub steps : (read : ℕ → List ℕ → Result A Cause) (ws : List (List ℕ)) → up_to_four read ws ≡ by_steps read ws
  steps read [] = refl
  steps read (a ∷ []) = four-1 (read 0 a)
  steps read (a ∷ b ∷ []) = four-2 (read 0 a) (read 1 b)
  steps read (a ∷ b ∷ c ∷ []) = four-3 (read 0 a) (read 1 b) (read 2 c)
  steps read (a ∷ b ∷ c ∷ d ∷ []) = four-4 (read 0 a) (read 1 b) (read 2 c) (read 3 d)
  steps read (a ∷ b ∷ c ∷ d ∷ e ∷ ws) = rw (lt-ltb 4 (length (a ∷ b ∷ c ∷ d ∷ e ∷ ws)) (omega arith)) refl

  -- four words one after the other, and nothing behind them
  pub four_read : (read : ℕ → List ℕ → Result A Cause) (ws w1 w2 w3 w4 : List (List ℕ)) (a b c d : Result (Option A) Cause)
      → a ≡ next_value (read 0) ws → w1 ≡ rest_of ws → b ≡ next_value (read 1) w1 → w2 ≡ rest_of w1
      → c ≡ next_value (read 2) w2 → w3 ≡ rest_of w2 → d ≡ next_value (read 3) w3 → w4 ≡ rest_of w3 → w4 ≡ []
      → up_to_four read ws ≡ joined a b c d
  four_read read ws w1 w2 w3 w4 a b c d ea e1 eb e2 ec e3 ed e4 none =
      let k : rest_of (rest_of (rest_of (rest_of ws))) ≡ [] = rw (← e1, ← e2, ← e3, ← e4) none in
      let left : is_none_left (rest_of (rest_of (rest_of (rest_of ws)))) ≡ true = ap is_none_left k in
      steps read ws ∙ rw (left, ea, eb, ec, ed, e3, e2, e1) refl

  pub four_refused : (read : ℕ → List ℕ → Result A Cause) (ws w1 w2 w3 w4 : List (List ℕ)) (w : List ℕ) (more_words : List (List ℕ))
      → w1 ≡ rest_of ws → w2 ≡ rest_of w1 → w3 ≡ rest_of w2 → w4 ≡ rest_of w3 → w4 ≡ w ∷ more_words
      → up_to_four read ws ≡ Err BadLine
  four_refused read ws w1 w2 w3 w4 w more_words e1 e2 e3 e4 some =
      let k : rest_of (rest_of (rest_of (rest_of ws))) ≡ w ∷ more_words = rw (← e1, ← e2, ← e3, ← e4) some in
      let left : is_none_left (rest_of (rest_of (rest_of (rest_of ws)))) ≡ false = ap is_none_left k in
      steps read ws ∙ rw left refl

  pub joined_ok : (a b c d : Result (Option A) Cause) (w x y z : Option A) → both a (both b (both c d)) ≡ Ok (w, (x, (y, z))) → joined a b c d ≡ Ok (record { a = w; b = x; c = y; d = z })
  joined_ok a b c d w x y z h = rw h refl

  pub joined_err : (a b c d : Result (Option A) Cause) (cause : Cause) → both a (both b (both c d)) ≡ Err cause → joined a b c d ≡ Err cause
  joined_err a b c d cause h = rw h refl
