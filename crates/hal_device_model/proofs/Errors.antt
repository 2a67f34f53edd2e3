-- What the row says of an error that is due at its frame.
use Rattle.std.proofs.Common.{◌≡◌, ℕ, ◌==◌, Bool, true, false, ◌&&◌, ◌||◌, not, nat_lt, if◌then◌else◌, List, [], ◌∷◌, ◌++◌, Option, Some, None, option_to_list, is_some, refl, sym, ap, subst, ◌∙◌, inl, inr, ◌⊎◌, arith}
use Rattle.std.specs.Prelude.{min}
use Rattle.std.specs.List.{find, list_any}
use Rattle.std.specs.Option.{option_map}
use Rattle.std.proofs.lemmas.Bool.{and_parts, cases_Bool, eqb-true, false≢true}
use Rattle.std.proofs.lemmas.Bool.Decides.{nat_tests}
use Rattle.cam_types.specs.Rows.{awaits_metadata, is_returned}
use Rattle.cam_types.specs.declared.row.RowFaults.{RowFaults}
use Rattle.cam_types.specs.declared.row.RowVerdict.TheVariants.{Request, Parts, Nothing}
use Rattle.cam_types.specs.declared.row.RowView.{RowView}
use Rattle.cam_types.specs.declared.row.TargetView.{TargetView}
use Rattle.cam_types.specs.declared.script.Fault.{Fault}
use Rattle.device_rows.specs.Faults.{faults_of}
use Rattle.device_rows.specs.Ready.{error_of, fails_device_at, may_end_metadata, next_error}
use Rattle.device_rows.specs.Rows.{row_at, target_at}
use Rattle.device_rows.specs.Next.{least, lesser, lost_buffer, missing_at, missing_streams, next_due}
use Rattle.device_rows.specs.declared.entry.ErrorEntry.{ErrorEntry}
use Rattle.device_rows.specs.declared.entry.ErrorEntry.TheVariants.{Request as LostRequest, Result as LostResult, Buffer as LostBuffer, Device as LostDevice}
use Rattle.device_rows.specs.Due.{fails_in_part, fails_whole, is_awaited, is_bare, is_cut_short, is_some_true, is_untouched, misses_at, misses_buffer, misses_metadata, missing_buffers, verdict_of}
use Rattle.hal_device_model.proofs.Fits.{all_in_place, in_place}
use Rattle.basic_lemmas.proofs.Tests.{not-true}

-- ---- the least of the missing streams is one of them

min-one : (a b s : ℕ) → min a b ≡ s → (a == s) ≡ false → b ≡ s
min-one a b s h no' = grind (arith, nat_tests, h, no')

least-one : (xs : List ℕ) (s : ℕ) → least xs ≡ Some s → list_any (λ x. x == s) xs ≡ true
least-one [] s h = absurd (cc)
least-one (x ∷ xs) s h = by (least xs) refl (λ g. least-one xs s g) h
  where
    by : (o : Option ℕ) → least xs ≡ o → (least xs ≡ Some s → list_any (λ y. y == s) xs ≡ true) → Some (lesser x o) ≡ Some s → list_any (λ y. y == s) (x ∷ xs) ≡ true
    by None is ih g =
        let same : x ≡ s = cc in
        let here : (x == s) ≡ true = grind (arith, nat_tests, same) in
        rw here refl
    by (Some t) is ih g =
        let same : min x t ≡ s = cc in
        elim (cases_Bool (x == s)) [
          | inl here ↦ rw here refl
          | inr other ↦ (
              let ts : t ≡ s = min-one x t s same other in
              rw other (ih (is ∙ ap Some ts))
              )
        ]

any-first : (s : ℕ) (o : Option ℕ) (rest : List ℕ) → list_any (λ x. x == s) (option_to_list o ++ rest) ≡ true → (o ≡ Some s) ⊎ (list_any (λ x. x == s) rest ≡ true)
any-first s None rest h = inr h
any-first s (Some x) rest h =
    elim (cases_Bool (x == s)) [
      | inl here ↦ inl (ap Some (eqb-true x s here))
      | inr other ↦ inr (rw other at h)
    ]

any-last : (s : ℕ) (o : Option ℕ) → list_any (λ x. x == s) (option_to_list o) ≡ true → o ≡ Some s
any-last s None h = absurd (false≢true h)
any-last s (Some x) h =
    elim (cases_Bool (x == s)) [
      | inl here ↦ ap Some (eqb-true x s here)
      | inr other ↦ absurd (false≢true (rw other at h))
    ]

-- ---- the target of a missing stream

-- the stream's target, whose buffer is awaited
pub record Awaited (s : ℕ) (row : RowView) : Type 0 where
  pub target : TargetView
  pub at : target_at s row ≡ Some target
  pub untold : target.announced ≡ false
  pub out : is_returned target.state ≡ false

missing-place : (s : ℕ) (cut : Bool) (fault : Option Bool) (o : Option TargetView) → missing_at (misses_at cut fault o) o ≡ Some s → (t : TargetView) × (o ≡ Some t) × (t.stream.0 ≡ s) × (is_awaited t ≡ true)
missing-place s cut fault None h = absurd (cc)
missing-place s cut fault (Some t) h = by (misses_buffer cut fault t) refl h
  where
    awaited : (f : Option Bool) → misses_buffer cut f t ≡ true → is_awaited t ≡ true
    awaited (Some f) g = (and_parts (is_awaited t) (f || cut) g).0
    awaited None g = (and_parts (is_awaited t) cut g).0

    by : (b : Bool) → misses_buffer cut fault t ≡ b → missing_at (Some b) (Some t) ≡ Some s → (t' : TargetView) × (Some t ≡ Some t') × (t'.stream.0 ≡ s) × (is_awaited t' ≡ true)
    by true is g = (t, refl, cc, awaited fault is)
    by false is g = absurd (cc)

skip : (j k : ℕ) (o : Option TargetView) (rest : List TargetView) → in_place j o ≡ true → (j == k) ≡ false → find (λ (t : TargetView). t.stream.0 == k) (option_to_list o ++ rest) ≡ find (λ (t : TargetView). t.stream.0 == k) rest
skip j k None rest h no' = refl
skip j k (Some t) rest h no' =
    let other : (t.stream.0 == k) ≡ false = ap (λ (i : ℕ). i == k) (eqb-true t.stream.0 j h) ∙ no' in
    rw other refl

here-first : (k : ℕ) (t : TargetView) (o : Option TargetView) (rest : List TargetView) → o ≡ Some t → in_place k o ≡ true → find (λ (x : TargetView). x.stream.0 == k) (option_to_list o ++ rest) ≡ Some t
here-first k t None rest is h = absurd (cc)
here-first k t (Some x) rest is h = let same : x ≡ t = cc in rw h (ap Some same)

here-last : (k : ℕ) (t : TargetView) (o : Option TargetView) → o ≡ Some t → in_place k o ≡ true → find (λ (x : TargetView). x.stream.0 == k) (option_to_list o) ≡ Some t
here-last k t None is h = absurd (cc)
here-last k t (Some x) is h = let same : x ≡ t = cc in rw h (ap Some same)

place-of : (k s : ℕ) (t : TargetView) (o : Option TargetView) → in_place k o ≡ true → o ≡ Some t → t.stream.0 ≡ s → k ≡ s
place-of k s t o h is same =
    let P : Option TargetView → Type 0 = λ o'. in_place k o' ≡ true in
    let own : in_place k (Some t) ≡ true = subst P is h in
    sym (eqb-true t.stream.0 k own) ∙ same

awaited-parts : (s : ℕ) (row : RowView) (t : TargetView) → target_at s row ≡ Some t → is_awaited t ≡ true → Awaited s row
awaited-parts s row t at h =
    let parts = and_parts (not t.announced) (not (is_returned t.state)) h in
    record { target = t; at = at; untold = not-true t.announced parts.0; out = not-true (is_returned t.state) parts.1 }

pub awaited_at : (s : ℕ) (row : RowView) (faults : RowFaults) → all_in_place row.targets ≡ true → least (missing_streams (missing_buffers row faults) row.targets) ≡ Some s → Awaited s row
awaited_at s row faults place h =
    let a = row.targets.a in
    let b = row.targets.b in
    let c = row.targets.c in
    let d = row.targets.d in
    let l = and_parts (in_place 0 a && in_place 1 b) (in_place 2 c && in_place 3 d) place in
    let u = and_parts (in_place 0 a) (in_place 1 b) l.0 in
    let v = and_parts (in_place 2 c) (in_place 3 d) l.1 in
    let cut = is_cut_short row in
    let ma = missing_at (misses_at cut faults.buffers.a a) a in
    let mb = missing_at (misses_at cut faults.buffers.b b) b in
    let mc = missing_at (misses_at cut faults.buffers.c c) c in
    let md = missing_at (misses_at cut faults.buffers.d d) d in
    let one = least-one (missing_streams (missing_buffers row faults) row.targets) s h in
    elim (any-first s ma (option_to_list mb ++ (option_to_list mc ++ option_to_list md)) one) [
      | inl m ↦ (
          let (t, is, stream, awaits) = missing-place s cut faults.buffers.a a m in
          let k = place-of 0 s t a u.0 is stream in
          let at : target_at 0 row ≡ Some t = here-first 0 t a (option_to_list b ++ (option_to_list c ++ option_to_list d)) is u.0 in
          awaited-parts s row t (ap (λ (i : ℕ). target_at i row) (sym k) ∙ at) awaits
          )
      | inr r ↦ elim (any-first s mb (option_to_list mc ++ option_to_list md) r) [
        | inl m ↦ (
            let (t, is, stream, awaits) = missing-place s cut faults.buffers.b b m in
            let k = place-of 1 s t b u.1 is stream in
            let at : target_at 1 row ≡ Some t = skip 0 1 a (option_to_list b ++ (option_to_list c ++ option_to_list d)) u.0 refl ∙ here-first 1 t b (option_to_list c ++ option_to_list d) is u.1 in
            awaited-parts s row t (ap (λ (i : ℕ). target_at i row) (sym k) ∙ at) awaits
            )
        | inr q ↦ elim (any-first s mc (option_to_list md) q) [
          | inl m ↦ (
              let (t, is, stream, awaits) = missing-place s cut faults.buffers.c c m in
              let k = place-of 2 s t c v.0 is stream in
              let at : target_at 2 row ≡ Some t = skip 0 2 a (option_to_list b ++ (option_to_list c ++ option_to_list d)) u.0 refl ∙ (skip 1 2 b (option_to_list c ++ option_to_list d) u.1 refl ∙ here-first 2 t c (option_to_list d) is v.0) in
              awaited-parts s row t (ap (λ (i : ℕ). target_at i row) (sym k) ∙ at) awaits
              )
          | inr p ↦ (
              let (t, is, stream, awaits) = missing-place s cut faults.buffers.d d (any-last s md p) in
              let k = place-of 3 s t d v.1 is stream in
              let at : target_at 3 row ≡ Some t = skip 0 3 a (option_to_list b ++ (option_to_list c ++ option_to_list d)) u.0 refl ∙ (skip 1 3 b (option_to_list c ++ option_to_list d) u.1 refl ∙ (skip 2 3 c (option_to_list d) v.0 refl ∙ here-last 3 t d is v.1)) in
              awaited-parts s row t (ap (λ (i : ℕ). target_at i row) (sym k) ∙ at) awaits
              )
        ]
      ]
    ]

-- ---- the errors

pub record ToldRequest (n : ℕ) (rows : List RowView) (m : ℕ) : Type 0 where
  pub row : RowView
  pub found : row_at n rows ≡ Some row
  pub frame : m ≡ row.frame.0
  pub sound : row.request_error ≡ false
  pub awaits : awaits_metadata row ≡ true

pub record ToldResult (n : ℕ) (rows : List RowView) (m : ℕ) : Type 0 where
  pub row : RowView
  pub found : row_at n rows ≡ Some row
  pub frame : m ≡ row.frame.0
  pub sound : row.request_error ≡ false
  pub untold : row.result_error ≡ false
  pub awaits : awaits_metadata row ≡ true
  pub lit : is_some row.shutter ≡ true

pub record ToldBuffer (n : ℕ) (rows : List RowView) (m s : ℕ) : Type 0 where
  pub row : RowView
  pub found : row_at n rows ≡ Some row
  pub frame : m ≡ row.frame.0
  pub sound : row.request_error ≡ false
  pub awaited : Awaited s row

abbrev pub Told : ℕ → List RowView → ErrorEntry → Type 0
Told n rows (LostRequest m) = ToldRequest n rows m.0
Told n rows (LostResult m) = ToldResult n rows m.0
Told n rows (LostBuffer m s) = ToldBuffer n rows m.0 s.0
Told n rows LostDevice = true ≡ true

whole-sound : (row : RowView) (faults : RowFaults) → fails_whole row faults ≡ true → row.request_error ≡ false
whole-sound row faults h =
    let bare = (and_parts (is_bare row) (row.stopped || (faults.request && is_some row.shutter)) h).0 in
    let first = (and_parts ((row.parts == 0) && (not row.request_error && not row.result_error)) (is_untouched row.targets.a && (is_untouched row.targets.b && (is_untouched row.targets.c && is_untouched row.targets.d))) bare).0 in
    let errors = (and_parts (row.parts == 0) (not row.request_error && not row.result_error) first).1 in
    not-true row.request_error (and_parts (not row.request_error) (not row.result_error) errors).0

whole-awaits : (row : RowView) (faults : RowFaults) → fails_whole row faults ≡ true → awaits_metadata row ≡ true
whole-awaits row faults h =
    let bare = (and_parts (is_bare row) (row.stopped || (faults.request && is_some row.shutter)) h).0 in
    let first = (and_parts ((row.parts == 0) && (not row.request_error && not row.result_error)) (is_untouched row.targets.a && (is_untouched row.targets.b && (is_untouched row.targets.c && is_untouched row.targets.d))) bare).0 in
    let none = and_parts (row.parts == 0) (not row.request_error && not row.result_error) first in
    let errors = and_parts (not row.request_error) (not row.result_error) none.1 in
    let few : nat_lt row.parts 3 ≡ true = low row.parts none.0 in
    rw (few, errors.0, errors.1) refl
  where
    low : (p : ℕ) → (p == 0) ≡ true → nat_lt p 3 ≡ true
    low p g = grind (arith, nat_tests, g)

part-lit : (row : RowView) (faults : RowFaults) → fails_in_part row faults ≡ true → is_some row.shutter ≡ true
part-lit row faults h =
    (and_parts (is_some row.shutter) (not row.request_error) (and_parts (is_some row.shutter && not row.request_error) (not faults.request || row.stopped) h).0).0

part-sound : (row : RowView) (faults : RowFaults) → fails_in_part row faults ≡ true → row.request_error ≡ false
part-sound row faults h =
    let lit = (and_parts (is_some row.shutter && not row.request_error) (not faults.request || row.stopped) h).0 in
    not-true row.request_error (and_parts (is_some row.shutter) (not row.request_error) lit).1

result-untold : (row : RowView) (faults : RowFaults) → misses_metadata row faults ≡ true → row.result_error ≡ false
result-untold row faults h =
    let awaits = (and_parts (awaits_metadata row) (faults.result || is_cut_short row) h).0 in
    let errors = (and_parts (nat_lt row.parts 3) (not row.result_error && not row.request_error) awaits).1 in
    not-true row.result_error (and_parts (not row.result_error) (not row.request_error) errors).0

told-row : (n : ℕ) (rows : List RowView) (row : RowView) (faults : RowFaults) (may_end : Bool) (error : ErrorEntry) → row_at n rows ≡ Some row → all_in_place row.targets ≡ true → next_due row (verdict_of row faults) may_end ≡ Some error → Told n rows error
told-row n rows row faults may_end error found place h = by-whole (fails_whole row faults) refl h
  where
    buffer : fails_in_part row faults ≡ true → (o : Option ℕ) → least (missing_streams (missing_buffers row faults) row.targets) ≡ o → option_map (lost_buffer row.frame) o ≡ Some error → Told n rows error
    buffer part (Some s) at g =
        let is : lost_buffer row.frame s ≡ error = cc in
        rw (← is) (record { row = row; found = found; frame = refl; sound = part-sound row faults part; awaited = awaited_at s row faults place at })
    buffer part None at g = absurd (cc)

    by-end : fails_in_part row faults ≡ true → (x y : Bool) → misses_metadata row faults ≡ x → (if x && y then Some (LostResult row.frame) else option_map (lost_buffer row.frame) (least (missing_streams (missing_buffers row faults) row.targets))) ≡ Some error → Told n rows error
    by-end part true true is g =
        let same : LostResult row.frame ≡ error = cc in
        rw (← same) (record { row = row; found = found; frame = refl; sound = part-sound row faults part; untold = result-untold row faults is; awaits = (and_parts (awaits_metadata row) (faults.result || is_cut_short row) is).0; lit = part-lit row faults part })
    by-end part true false is g = buffer part (least (missing_streams (missing_buffers row faults) row.targets)) refl g
    by-end part false y is g = buffer part (least (missing_streams (missing_buffers row faults) row.targets)) refl g

    by-part : (x y : Bool) → fails_in_part row faults ≡ x → next_due row (if x && y then Parts (misses_metadata row faults) (missing_buffers row faults) else Nothing) may_end ≡ Some error → Told n rows error
    by-part true true is g = by-end is (misses_metadata row faults) may_end refl g
    by-part true false is g = absurd (cc)
    by-part false y is g = absurd (cc)

    by-whole : (x : Bool) → fails_whole row faults ≡ x → next_due row (if x then Request else (if fails_in_part row faults && (misses_metadata row faults || is_some_true (missing_buffers row faults)) then Parts (misses_metadata row faults) (missing_buffers row faults) else Nothing)) may_end ≡ Some error → Told n rows error
    by-whole true is g =
        let same : LostRequest row.frame ≡ error = cc in
        rw (← same) (record { row = row; found = found; frame = refl; sound = whole-sound row faults is; awaits = whole-awaits row faults is })
    by-whole false is g = by-part (fails_in_part row faults) (misses_metadata row faults || is_some_true (missing_buffers row faults)) refl g

pub told : (faults : List Fault) (n : ℕ) (rows : List RowView) (error : ErrorEntry) → ((row : RowView) → row_at n rows ≡ Some row → all_in_place row.targets ≡ true) → next_error faults rows n ≡ Some error → Told n rows error
told faults n rows error place h = by (fails_device_at faults rows n) h
  where
    by-row : (o : Option RowView) → row_at n rows ≡ o → error_of faults rows o ≡ Some error → Told n rows error
    by-row (Some row) found g = told-row n rows row (faults_of faults row) (may_end_metadata rows row.frame.0) error found (place row found) g
    by-row None found g = absurd (cc)

    by : (x : Bool) → (if x then Some LostDevice else error_of faults rows (row_at n rows)) ≡ Some error → Told n rows error
    by true g =
        let same : LostDevice ≡ error = cc in
        rw (← same) refl
    by false g = by-row (row_at n rows) refl g
