-- Rows that are thinned out in place, and rows that are looked for.
use Rattle.std.proofs.Common.{◌≡◌, ◌∙◌, zero, suc, ℕ, ◌+◌, ◌<◌, Bool, true, false, List, [], ◌∷◌, ◌++◌, Option, refl, sym, map, filter, take, drop, length, get_or, inl, inr, ap, arith, take-suc, add-one}
use Rattle.std.specs.List.{find, list_all}
use Rattle.std.specs.Prelude.{option_map}
use Rattle.std.proofs.lemmas.Bool.{and_parts, cases_Bool}
use Rattle.std.proofs.lemmas.List.{map-append}
use Rattle.trace_model.specs.declared.entry.Entry.{Entry}
use Rattle.state_facts.specs.Row.{Row, is_open_row, row_after}
use Rattle.judge_rows.proofs.Kept.{at-rest}
use Rattle.judge_rows.specs.declared.row.OpenRow.{OpenRow}
use Rattle.judge_rows.specs.Views.{are_free, is_free, row_of, rows_of, as_targets}

-- what is kept of one more row
pub kept_more : (e : Entry) (i : ℕ) (old init new : List OpenRow) (k k' : ℕ) (d row : OpenRow) → i < length init → rows_of (take k old) ≡ filter is_open_row (map (row_after e) (rows_of (take i init))) → drop i old ≡ drop i init → row_of row ≡ row_after e (row_of (get_or old i d)) → rows_of (take k' new) ≡ rows_of (take k old) ++ filter is_open_row (row_of row ∷ []) → rows_of (take k' new) ≡ filter is_open_row (map (row_after e) (rows_of (take (i + 1) init)))
kept_more e i old init new k k' d row less kept rest is now =
    let same : get_or old i d ≡ get_or init i d = at-rest i old init d rest in
    let whole : take (i + 1) init ≡ take i init ++ get_or init i d ∷ [] = rw add-one (take-suc init i d less) in
    let one = ap (λ (r : Row). filter is_open_row (r ∷ [])) (is ∙ ap (λ (r : OpenRow). row_after e (row_of r)) same) in
    let grown = ap (λ (z : List Row). z ++ filter is_open_row (row_of row ∷ [])) kept ∙ ap (λ (z : List Row). filter is_open_row (map (row_after e) (rows_of (take i init))) ++ z) one in
    now ∙ (grown ∙ (sym (split (take i init) (get_or init i d)) ∙ ap (λ (z : List OpenRow). filter is_open_row (map (row_after e) (rows_of z))) (sym whole)))
  where
    split : (xs : List OpenRow) (x : OpenRow) → filter is_open_row (map (row_after e) (rows_of (xs ++ x ∷ []))) ≡ filter is_open_row (map (row_after e) (rows_of xs)) ++ filter is_open_row (row_after e (row_of x) ∷ [])
    split [] x = refl
    split (y ∷ xs) x =
        elim (cases_Bool (is_open_row (row_after e (row_of y)))) [
          | inl yes' ↦ rw yes' (ap (λ (z : List Row). row_after e (row_of y) ∷ z) (split xs x))
          | inr no' ↦ rw no' (split xs x)
        ]

-- one row more
pub rows_more : (rows : List OpenRow) (r : OpenRow) → rows_of (rows ++ r ∷ []) ≡ rows_of rows ++ row_of r ∷ []
rows_more rows r = map-append row_of rows (r ∷ [])

-- a row whose view passes
pub found_of : (p : Row → Bool) (q : OpenRow → Bool) (o : Option OpenRow) (xs : List OpenRow) → ((r : OpenRow) → q r ≡ p (row_of r)) → o ≡ find q xs → option_map row_of o ≡ find p (map row_of xs)
found_of p q o [] same h = rw h refl
found_of p q o (x ∷ xs) same h =
    elim (cases_Bool (q x)) [
      | inl yes' ↦ (let h' = rw yes' at h in let y : p (row_of x) ≡ true = sym (same x) ∙ yes' in rw (h', y) refl)
      | inr no' ↦ (let h' = rw no' at h in let n : p (row_of x) ≡ false = sym (same x) ∙ no' in rw n (found_of p q o xs same h'))
    ]

-- the row at a place is free of what the entry gives
pub free_at : (e : Entry) (rows : List OpenRow) (i : ℕ) (d : OpenRow) → are_free e (rows_of rows) ≡ true → i < length rows → list_all (is_free e (get_or rows i d).frame.0) (as_targets (get_or rows i d).targets) ≡ true
free_at e [] i d free l = absurd (omega arith)
free_at e (r ∷ rows) zero d free l = (and_parts (list_all (is_free e r.frame.0) (as_targets r.targets)) (are_free e (rows_of rows)) free).0
free_at e (r ∷ rows) (suc i) d free l = free_at e rows i d (and_parts (list_all (is_free e r.frame.0) (as_targets r.targets)) (are_free e (rows_of rows)) free).1 (omega arith)
