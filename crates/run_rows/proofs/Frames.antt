-- The rows of a run, frame by frame: each open frame has its row, and no other has one.
use Rattle.std.proofs.Common.{◌≡◌, ℕ, ◌==◌, Bool, true, false, ◌&&◌, ◌||◌, not, List, [], ◌∷◌, Option, Some, None, refl, sym, ap, ◌∙◌, inl, inr, nat_lt, filter, map, reverse, if◌then◌else◌}
use Rattle.std.specs.List.{list_all, list_any}
use Rattle.std.proofs.lemmas.Bool.{and_parts, cases_Bool, eqb-true, false≢true}
use Rattle.run_rows.proofs.General.{all-reverse}
use Rattle.cam_types.specs.declared.row.RowView.{RowView}
use Rattle.cam_types.specs.declared.script.Script.{Script}
use Rattle.trace_model.specs.Frames.{each_earlier, frames, is_sent}
use Rattle.trace_model.specs.Open.{is_open}
use Rattle.run_model.specs.declared.step.Move.{Move}
use Rattle.run_model.specs.History.{trace_of}
use Rattle.run_model.specs.Rows.{row_of, rows}
use Rattle.device_rows.specs.Order.{each_below}
use Rattle.device_rows.specs.Rows.{row_at}
use Rattle.run_model.proofs.Entries.{open-sent}
use Rattle.trace_laws.proofs.Frames.{sent-listed}
use Rattle.trace_laws.proofs.BufferSends.{frames-sent}
use Rattle.basic_lemmas.proofs.Lists.{any-reversed}
use Rattle.basic_lemmas.proofs.Tests.{own-number}

-- ---- the row of a frame

found-in : (f : ℕ → RowView) (p : ℕ → Bool) (n : ℕ) (xs : List ℕ) → ((x : ℕ) → (f x).frame.0 ≡ x) → (p n ≡ true → list_any (λ m. m == n) xs ≡ true) → row_at n (map f (filter p xs)) ≡ (if p n then Some (f n) else None)
found-in f p n [] own listed = elim (cases_Bool (p n)) [ inl yes' ↦ absurd (false≢true (listed yes')) | inr no' ↦ rw no' refl ]
found-in f p n (x ∷ xs) own listed =
    elim (cases_Bool (x == n)) [
      | inl here ↦ (
          let at = eqb-true x n here in
          elim (cases_Bool (p n)) [
            | inl yes' ↦ (let own' = own-number n in rw (at, yes', own n, own') refl)
            | inr no' ↦ (let ih = found-in f p n xs own (λ h. absurd (false≢true (sym no' ∙ h))) in rw (at, no') (ih ∙ rw no' refl))
          ]
          )
      | inr other ↦ (
          let ih = found-in f p n xs own (λ h. let l = listed h in rw other at l) in
          elim (cases_Bool (p x)) [ inl yes' ↦ rw (yes', own x, other) ih | inr no' ↦ rw no' ih ]
          )
    ]

pub sent-in-order : (h : List Move) → list_all (λ n. is_sent n (trace_of h)) (reverse (frames (trace_of h))) ≡ true
sent-in-order h = all-reverse (λ n. is_sent n (trace_of h)) (frames (trace_of h)) ∙ frames-sent (trace_of h)

pub row-found : (script : Script) (h : List Move) (n : ℕ) → row_at n (rows script h) ≡ (if is_open n (trace_of h) then Some (row_of script h n) else None)
row-found script h n =
    found-in (row_of script h) (λ m. is_open m (trace_of h)) n (reverse (frames (trace_of h))) (λ m. refl)
    (λ open_. any-reversed (λ m. m == n) (frames (trace_of h)) ∙ sent-listed (trace_of h) n (open-sent n (trace_of h) open_))

pub by-row : {X : Type 0} (script : Script) (h : List Move) (n : ℕ) (f : Option RowView → X) (x : X) → (is_open n (trace_of h) ≡ true → x ≡ f (Some (row_of script h n))) → (is_open n (trace_of h) ≡ false → x ≡ f None) → x ≡ f (row_at n (rows script h))
by-row script h n f x open_ closed = elim (cases_Bool (is_open n (trace_of h))) [
  | inl yes' ↦ open_ yes' ∙ ap f (sym (row-found script h n ∙ rw yes' refl))
  | inr no' ↦ closed no' ∙ ap f (sym (row-found script h n ∙ rw no' refl))
]

-- ---- the rows of earlier frames

earlier-in : (f : ℕ → RowView) (p ok t : ℕ → Bool) (q : RowView → Bool) (n : ℕ) (xs : List ℕ) → ((x : ℕ) → (f x).frame.0 ≡ x) → ((x : ℕ) → ok x ≡ true → p x ≡ false → t x ≡ true) → ((x : ℕ) → p x ≡ true → t x ≡ q (f x)) → list_all ok xs ≡ true → list_all (λ m. not (nat_lt m n) || t m) xs ≡ each_below n q (map f (filter p xs))
earlier-in f p ok t q n [] own closed same all = refl
earlier-in f p ok t q n (x ∷ xs) own closed same all =
    let parts = and_parts (ok x) (list_all ok xs) all in
    let ih = earlier-in f p ok t q n xs own closed same parts.1 in
    elim (cases_Bool (p x)) [
      | inl yes' ↦ rw (yes', same x yes', ih) (ap (λ i. (not (nat_lt i n) || q (f x)) && each_below n q (map f (filter p xs))) (sym (own x)))
      | inr no' ↦ rw (no', closed x parts.0 no') (or-true-and (not (nat_lt x n)) _ ∙ ih)
    ]
  where
    or-true-and : (a b : Bool) → ((a || true) && b) ≡ b
    or-true-and true b = refl
    or-true-and false b = refl

-- a test that closed frames pass holds of each earlier frame where it holds of each earlier row
pub earlier-is : (script : Script) (h : List Move) (n : ℕ) (t : ℕ → Bool) (q : RowView → Bool) → ((m : ℕ) → is_sent m (trace_of h) ≡ true → is_open m (trace_of h) ≡ false → t m ≡ true) → ((m : ℕ) → is_open m (trace_of h) ≡ true → t m ≡ q (row_of script h m)) → each_earlier n t (trace_of h) ≡ each_below n q (rows script h)
earlier-is script h n t q closed same =
    sym (all-reverse (λ m. not (nat_lt m n) || t m) (frames (trace_of h)))
    ∙ earlier-in (row_of script h) (λ m. is_open m (trace_of h)) (λ m. is_sent m (trace_of h)) t q n (reverse (frames (trace_of h))) (λ m. refl) closed same (sent-in-order h)
