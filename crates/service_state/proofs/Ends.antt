-- Once a frame's row was changed, the rows that stay are those of the open frames: it is retired exactly where it is done.
use Rattle.std.proofs.Common.{arith, ◌≡◌, ℕ, ◌==◌, Bool, true, false, ◌||◌, not, List, [], ◌∷◌, None, refl, sym, inl, inr, filter, is_none, nat_lt, if◌then◌else◌}
use Rattle.std.specs.List.{list_all}
use Rattle.std.proofs.lemmas.Bool.{and_from, and_parts, cases_Bool, eqb-true, false≢true}
use Rattle.cam_types.specs.Rows.{is_open}
use Rattle.cam_types.specs.declared.row.RowView.{RowView}
use Rattle.device_rows.specs.Ready.{is_retire_ready}
use Rattle.device_rows.specs.Rows.{row_at, without}
use Rattle.run_rows.specs.Kept.{frames_rise}

-- the row is of frame n
abbrev pub is_at_frame : ℕ → RowView → Bool
is_at_frame n row = row.frame.0 == n

-- the row is of frame n, or its frame is open
abbrev pub is_other_open : ℕ → RowView → Bool
is_other_open n row = (row.frame.0 == n) || is_open row

-- ---- a frame whose row isn't there

abbrev pub is_away : ℕ → List RowView → Bool
is_away n rows = list_all (λ row. not (row.frame.0 == n)) rows

later-differ : (a n : ℕ) → a ≡ n → (rows : List RowView) → list_all (λ other. nat_lt a other.frame.0) rows ≡ true → is_away n rows ≡ true
later-differ a n e [] all = refl
later-differ a n e (row ∷ rows) all =
    let parts = and_parts (nat_lt a row.frame.0) (list_all (λ other. nat_lt a other.frame.0) rows) all in
    and_from (not (row.frame.0 == n)) (is_away n rows) (differs a n row.frame.0 e parts.0) (later-differ a n e rows parts.1)
  where
    differs : (a n b : ℕ) → a ≡ n → nat_lt a b ≡ true → not (b == n) ≡ true
    differs a n b e less = grind arith

away-open : (n : ℕ) (rows : List RowView) → is_away n rows ≡ true → list_all (is_other_open n) rows ≡ true → filter is_open rows ≡ rows
away-open n [] away all = refl
away-open n (row ∷ rows) away all =
    let others = and_parts (not (row.frame.0 == n)) (is_away n rows) away in
    let each = and_parts (is_other_open n row) (list_all (is_other_open n) rows) all in
    let stands : is_open row ≡ true = by-other (row.frame.0 == n) (is_open row) others.0 each.0 in
    rw (stands, away-open n rows others.1 each.1) refl
  where
    by-other : (a b : Bool) → not a ≡ true → (a || b) ≡ true → b ≡ true
    by-other true b e f = absurd (false≢true e)
    by-other false b e f = f

away-without : (n : ℕ) (rows : List RowView) → is_away n rows ≡ true → without n rows ≡ rows
away-without n [] away = refl
away-without n (row ∷ rows) away =
    let others = and_parts (not (row.frame.0 == n)) (is_away n rows) away in
    rw (others.0, away-without n rows others.1) refl

away-none : (n : ℕ) (rows : List RowView) → is_away n rows ≡ true → row_at n rows ≡ None
away-none n [] away = refl
away-none n (row ∷ rows) away =
    let others = and_parts (not (row.frame.0 == n)) (is_away n rows) away in
    let differs : (row.frame.0 == n) ≡ false = flipped (row.frame.0 == n) others.0 in
    rw differs (away-none n rows others.1)
  where
    flipped : (a : Bool) → not a ≡ true → a ≡ false
    flipped true e = absurd (false≢true e)
    flipped false e = refl

-- ---- the rows that stay

-- the rows of open frames stay; and the frame's row is gone exactly where it was retired, if it stood
abbrev pub Ended : ℕ → List RowView → Type 0
Ended n rows =
    (filter is_open rows ≡ (if is_retire_ready rows n then without n rows else rows))
    × (is_none (row_at n (filter is_open rows)) ≡ (is_none (row_at n rows) || is_retire_ready rows n))

pub ended : (n : ℕ) (rows : List RowView) → frames_rise rows ≡ true → list_all (is_other_open n) rows ≡ true → Ended n rows
ended n [] rise all = (refl, refl)
ended n (row ∷ rows) rise all =
    let order = and_parts (list_all (λ other. nat_lt row.frame.0 other.frame.0) rows) (frames_rise rows) rise in
    let each = and_parts (is_other_open n row) (list_all (is_other_open n) rows) all in
    elim (cases_Bool (row.frame.0 == n)) [
      | inl here ↦ found here (later-differ row.frame.0 n (eqb-true row.frame.0 n here) rows order.0) each.1 (is_open row) refl
      | inr other ↦ passed other each.0 (ended n rows order.1 each.1)
    ]
  where
    found : (row.frame.0 == n) ≡ true → is_away n rows ≡ true → list_all (is_other_open n) rows ≡ true → (b : Bool) → is_open row ≡ b → Ended n (row ∷ rows)
    found here away all true stands = (rw (here, stands, away-open n rows away all) refl, rw stands (rw here (rw stands refl)))
    found here away all false stands = (
      rw (here, stands, away-open n rows away all, away-without n rows away) refl,
      rw (here, stands, away-open n rows away all, away-none n rows away) refl,
    )

    passed : (row.frame.0 == n) ≡ false → is_other_open n row ≡ true → Ended n rows → Ended n (row ∷ rows)
    passed other one rest =
        let stands : is_open row ≡ true = by-test (row.frame.0 == n) (is_open row) other one in
        (rw (other, stands, rest.0) (by-ready (is_retire_ready rows n)), rw stands (rw other rest.1))
      where
        by-test : (a b : Bool) → a ≡ false → (a || b) ≡ true → b ≡ true
        by-test true b e f = absurd (false≢true (sym e))
        by-test false b e f = f

        by-ready : (b : Bool) → row ∷ (if b then without n rows else rows) ≡ (if b then row ∷ without n rows else row ∷ rows)
        by-ready true = refl
        by-ready false = refl
