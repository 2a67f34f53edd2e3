-- What each step of the store makes of one row, and of what is held for it.
use Rattle.std.proofs.Common.{◌≡◌, ℕ, zero, suc, ◌+◌, ◌<◌, ◌==◌, Bool, true, ◌&&◌, nat_le, nat_lt, List, [], ◌∷◌, length, Option, Some, None, slice_get, refl, sym, ap, ◌∙◌, arith, inl, inr}
use Rattle.std.specs.List.{find, list_all}
use Rattle.std.specs.Option.{option_and_then, option_map}
use Rattle.std.proofs.lemmas.Bool.{and_parts, cases_Bool, false≢true, eqb-true}
use Rattle.std.proofs.lemmas.Bool.Decides.{nat_tests}
use Rattle.cam_types.specs.Four.{four_list}
use Rattle.cam_types.specs.Picture.{is_offered}
use Rattle.cam_types.specs.declared.four.Four.{Four}
use Rattle.cam_types.specs.declared.number.StreamIx.{StreamIx}
use Rattle.cam_types.specs.declared.row.RowView.{RowView}
use Rattle.cam_types.specs.declared.row.SensorPlace.{SensorPlace}
use Rattle.cam_types.specs.declared.row.SensorPlace.TheVariants.{NotYet, Out as SensorOut, Home, WithFill}
use Rattle.cam_types.specs.declared.row.TargetState.{TargetState}
use Rattle.cam_types.specs.declared.row.TargetState.TheVariants.{Waiting, Out, Filled, ReturnedEarly, EarlyFilled, ReturnedOk, ReturnedFailed}
use Rattle.cam_types.specs.declared.row.TargetView.{TargetView}
use Rattle.cam_types.specs.declared.stream.StreamSpec.{StreamSpec}
use Rattle.device_rows.specs.Kept.{rise_from}
use Rattle.device_rows.specs.Ready.{passes_at, target_passes}
use Rattle.device_rows.specs.Rows.{target_at}
use Rattle.device_core.specs.declared.buffers.Held.{Held}
use Rattle.device_core.specs.Kept.{agree, full, held_at, held_by, held_for, held_in, is_placed, slot_by, slot_of}
use Rattle.device_core.specs.Stored.{rises, specs_of, Stored, views}
use Rattle.device_rows.specs.declared.mark.Mark.{Mark}
use Rattle.device_rows.specs.declared.mark.Mark.TheVariants.{Announced, Target}
use Rattle.device_rows.specs.declared.table_row.Row.{Row}
use Rattle.device_rows.specs.Marks.{as_announced, in_state, marked, with_target}
use Rattle.device_rows.specs.TableRows.{are_apart, has_place, parked_for, passes, placed_at, row_of, Rows, with_mark, with_parked, with_row, with_rows}
use Rattle.request_checks.specs.declared.plan.Plan.{Plan}
use Rattle.device_core.proofs.Admission.{rise-apart}
use Rattle.device_core.proofs.Agree.{placed-parts}
use Rattle.device_core.proofs.Steps.{Stands}
use Rattle.device_core.proofs.Targets.{has-found, parked-found, placed, placed-same, stream_number}
use Rattle.device_core.proofs.Views.{find-full}
use Rattle.basic_lemmas.proofs.Lists.{found-passes, all-at}

-- ---- what is held depends on the frame, the settings and the targets alone

held-row : (st : TargetState) (row other : RowView) (t : TargetView) (o : Option StreamSpec) → row.frame ≡ other.frame → row.settings ≡ other.settings → held_by st row t o ≡ held_by st other t o
held-row Waiting row other t (Some spec) f g = refl
held-row Waiting row other t None f g = refl
held-row Filled row other t (Some spec) f g = rw (f, g) refl
held-row Filled row other t None f g = refl
held-row EarlyFilled row other t (Some spec) f g = rw (f, g) refl
held-row EarlyFilled row other t None f g = refl
held-row Out row other t o f g = refl
held-row ReturnedEarly row other t o f g = refl
held-row ReturnedOk row other t o f g = refl
held-row ReturnedFailed row other t o f g = refl

held-place : (specs : List StreamSpec) (row other : RowView) (o : Option TargetView) → row.frame ≡ other.frame → row.settings ≡ other.settings → held_at specs row o ≡ held_at specs other o
held-place specs row other None f g = refl
held-place specs row other (Some t) f g = held-row t.state row other t (slice_get specs t.stream.0) f g

abbrev as_row : RowView → Four Held → Row Held
as_row view parked = record { view = view; parked = parked }

four-eq : (a b c d a' b' c' d' : Option Held) → a ≡ a' → b ≡ b' → c ≡ c' → d ≡ d' → ◌≡◌ {A = Four Held} (record { a = a; b = b; c = c; d = d }) (record { a = a'; b = b'; c = c'; d = d' })
four-eq a b c d a' b' c' d' ea eb ec ed = rw (ea, eb, ec, ed) refl

four-same : (h k : Option TargetView → Option Held) (targets : Four TargetView) → ((o : Option TargetView) → h o ≡ k o) → ◌≡◌ {A = Four Held} (record { a = h targets.a; b = h targets.b; c = h targets.c; d = h targets.d }) (record { a = k targets.a; b = k targets.b; c = k targets.c; d = k targets.d })
four-same h k targets same = four-eq _ _ _ _ _ _ _ _ (same targets.a) (same targets.b) (same targets.c) (same targets.d)

-- a row whose targets are as they were
pub full-same : (specs : List StreamSpec) (row other : RowView) → row.frame ≡ other.frame → row.settings ≡ other.settings → row.targets ≡ other.targets → record { view = other; parked = held_in specs row } ≡ full specs other
full-same specs row other f g t =
    let a = ap (λ (z : Four TargetView). held_at specs row z.a) t ∙ held-place specs row other other.targets.a f g in
    let b = ap (λ (z : Four TargetView). held_at specs row z.b) t ∙ held-place specs row other other.targets.b f g in
    let c = ap (λ (z : Four TargetView). held_at specs row z.c) t ∙ held-place specs row other other.targets.c f g in
    let d = ap (λ (z : Four TargetView). held_at specs row z.d) t ∙ held-place specs row other other.targets.d f g in
    ap (λ (z : Four Held). as_row other z) (four-eq _ _ _ _ _ _ _ _ a b c d)

slot-row : (place : SensorPlace) (row other : RowView) → row.frame ≡ other.frame → row.settings ≡ other.settings → slot_by place row ≡ slot_by place other
slot-row NotYet row other f g = refl
slot-row SensorOut row other f g = refl
slot-row Home row other f g = rw (f, g) refl
slot-row WithFill row other f g = refl

pub slot-same : (row other : RowView) → row.frame ≡ other.frame → row.settings ≡ other.settings → row.sensor ≡ other.sensor → slot_of row ≡ slot_of other
slot-same row other f g s = ap (λ (z : SensorPlace). slot_by z row) s ∙ slot-row other.sensor row other f g

-- ---- a target of the row

pub record IsTarget (specs : List StreamSpec) (row : RowView) (s : ℕ) (t : TargetView) (spec : StreamSpec) : Type 0 where
  pub found : target_at s row ≡ Some t
  pub apart : are_apart row.targets ≡ true
  pub order : rises stream_number (four_list row.targets) ≡ true
  pub place : is_placed (length specs) row ≡ true
  pub agrees : agree row ≡ true
  pub stream : t.stream.0 ≡ s
  pub spec_is : slice_get specs t.stream.0 ≡ Some spec
  pub offered : is_offered spec ≡ true

stream-within : (low streams : ℕ) (p : TargetView → Bool) (xs : List TargetView) (t : TargetView) → rise_from low streams xs ≡ true → find p xs ≡ Some t → t.stream.0 < streams
stream-within low streams p [] t rise h = absurd (cc)
stream-within low streams p (u ∷ xs) t rise h =
    let parts = and_parts (nat_le low u.stream.0 && nat_lt u.stream.0 streams) (rise_from (u.stream.0 + 1) streams xs) rise in
    let first = and_parts (nat_le low u.stream.0) (nat_lt u.stream.0 streams) parts.0 in
    elim (cases_Bool (p u)) [
      | inl here ↦ (let h' = rw here at h in let same : u ≡ t = cc in let low' : nat_lt t.stream.0 streams ≡ true = rw same at first.1 in grind (arith, nat_tests, low'))
      | inr other ↦ (let h' = rw other at h in stream-within (u.stream.0 + 1) streams p xs t parts.1 h')
    ]

spec-within : (specs : List StreamSpec) (i : ℕ) → i < length specs → (spec : StreamSpec) × (slice_get specs i ≡ Some spec)
spec-within [] i l = absurd (omega (arith, l))
spec-within (x ∷ specs) zero l = (x, refl)
spec-within (x ∷ specs) (suc i) l = spec-within specs i (omega (arith, l))

pub is-target : (plan : Plan) (rows : List (Row Held)) (n s : ℕ) (row : RowView) (t : TargetView) → Stands plan rows n row → list_all is_offered (specs_of plan) ≡ true → target_at s row ≡ Some t → (spec : StreamSpec) × IsTarget (specs_of plan) row s t spec
is-target plan rows n s row t at offered found =
    let kept = and_parts (is_placed (length (specs_of plan)) row) (agree row) at.kept in
    let parts = placed-parts (length (specs_of plan)) row kept.0 in
    let within = stream-within 0 (length (specs_of plan)) (λ u. u.stream.0 == s) (four_list row.targets) t parts.rise found in
    let own = found-passes (λ u. u.stream.0 == s) (four_list row.targets) t found in
    let (spec, is) = spec-within (specs_of plan) t.stream.0 within in (
      spec,
      record {
        found = found;
        apart = rise-apart row.targets.a row.targets.b row.targets.c row.targets.d 0 (length (specs_of plan)) parts.rise;
        order = parts.order;
        place = kept.0;
        agrees = kept.1;
        stream = eqb-true t.stream.0 s own;
        spec_is = is;
        offered = all-at is_offered (specs_of plan) t.stream.0 spec offered is;
      },
    )

-- the row and the target that a test is of
pub record Met (test : RowView → TargetView → Bool) (s : ℕ) (o : Option RowView) (row : RowView) (t : TargetView) : Type 0 where
  pub at : o ≡ Some row
  pub found : target_at s row ≡ Some t
  pub passed : test row t ≡ true

met-at : (test : TargetView → Bool) (o : Option TargetView) → passes_at test o ≡ true → (t : TargetView) × (o ≡ Some t) × (test t ≡ true)
met-at test (Some t) h = (t, refl, h)
met-at test None h = absurd (false≢true h)

pub met : (test : RowView → TargetView → Bool) (s : ℕ) (o : Option RowView) → target_passes test s o ≡ true → (row : RowView) × (t : TargetView) × Met test s o row t
met test s (Some row) h =
    let (t, found, passed) = met-at (test row) (target_at s row) h in
    (row, t, record { at = refl; found = found; passed = passed })
met test s None h = absurd (false≢true h)

-- what a second test of the same target says
pub met-too : (test : RowView → TargetView → Bool) (s : ℕ) (o : Option RowView) (row : RowView) (t : TargetView) → o ≡ Some row → target_at s row ≡ Some t → target_passes test s o ≡ true → test row t ≡ true
met-too test s o row t at found h =
    let h' : passes_at (test row) (target_at s row) ≡ true = rw at at h in
    rw found at h'

-- ---- what is parked

held-target : (specs : List StreamSpec) (row : RowView) (s : ℕ) (t : TargetView) → are_apart row.targets ≡ true → target_at s row ≡ Some t → parked_for s (full specs row) ≡ held_for specs row t
held-target specs row s t apart found = parked-found s (held_at specs row) row.targets.a row.targets.b row.targets.c row.targets.d t apart found

full-stands : (plan : Plan) (rows : List (Row Held)) (n : ℕ) (row : RowView) → Stands plan rows n row → row_of n rows ≡ Some (full (specs_of plan) row)
full-stands plan rows n row at =
    ap (λ (z : List (Row Held)). row_of n z) at.filled ∙ (find-full (specs_of plan) n (views rows) ∙ ap (option_map (full (specs_of plan))) at.found)

-- what is taken for the target
pub taken-is : (plan : Plan) (rows : List (Row Held)) (n s : ℕ) (row : RowView) (t : TargetView) (spec : StreamSpec) → Stands plan rows n row → IsTarget (specs_of plan) row s t spec → option_and_then (parked_for s) (row_of n rows) ≡ held_by t.state row t (Some spec)
taken-is plan rows n s row t spec at target =
    ap (option_and_then (parked_for s)) (full-stands plan rows n row at) ∙ (held-target (specs_of plan) row s t target.apart target.found ∙ ap (λ (z : Option StreamSpec). held_by t.state row t z) target.spec_is)

-- the target's place is free where nothing is held for it
pub place-free : (plan : Plan) (rows : List (Row Held)) (n s : ℕ) (row : RowView) (t : TargetView) (spec : StreamSpec) → Stands plan rows n row → IsTarget (specs_of plan) row s t spec → held_by t.state row t (Some spec) ≡ None → passes (has_place s) (row_of n rows) ≡ true
place-free plan rows n s row t spec at target none =
    let has = has-found s row.targets.a row.targets.b row.targets.c row.targets.d t target.apart target.found in
    let free : parked_for s (full (specs_of plan) row) ≡ None = held-target (specs_of plan) row s t target.apart target.found ∙ (ap (λ (z : Option StreamSpec). held_by t.state row t z) target.spec_is ∙ none) in
    let there : has_place s (full (specs_of plan) row) ≡ true = rw (has, free) refl in
    rw (full-stands plan rows n row at) there

-- ---- the target of a row changed

-- what is parked for it changes with it
pub target-full : (specs : List StreamSpec) (row : RowView) (s : StreamIx) (st : TargetState) (thing : Option Held) → are_apart row.targets ≡ true → ((t : TargetView) → target_at s.0 row ≡ Some t → held_by st row (in_state st t) (slice_get specs t.stream.0) ≡ thing) → with_mark (Target s st) (with_parked s.0 thing (full specs row)) ≡ full specs (marked (Target s st) row)
target-full specs row s st thing apart here =
    let moved = placed s.0 (in_state st) (held_at specs row) thing row.targets.a row.targets.b row.targets.c row.targets.d apart here in
    let other : RowView = marked (Target s st) row in
    let parked' : placed_at s.0 row.targets thing (held_in specs row) ≡ held_in specs other =
    moved ∙ four-same (held_at specs row) (held_at specs other) other.targets (λ o. held-place specs row other o refl refl) in
    ap (λ (z : Four Held). as_row other z) parked'

-- what is parked for it stays
pub target-same : (specs : List StreamSpec) (row : RowView) (mark : Mark) (s : ℕ) (change : TargetView → TargetView) → marked mark row ≡ record row { targets = with_target s change row.targets } → are_apart row.targets ≡ true → ((t : TargetView) → target_at s row ≡ Some t → held_at specs row (Some (change t)) ≡ held_at specs row (Some t)) → with_mark mark (full specs row) ≡ full specs (marked mark row)
target-same specs row mark s change is apart here =
    let moved = placed-same s change (held_at specs row) row.targets.a row.targets.b row.targets.c row.targets.d apart here in
    let other : RowView = record row { targets = with_target s change row.targets } in
    let parked' : held_in specs row ≡ held_in specs other =
    moved ∙ four-same (held_at specs row) (held_at specs other) other.targets (λ o. held-place specs row other o refl refl) in
    ap (λ (z : RowView). as_row z (held_in specs row)) is ∙ (ap (λ (z : Four Held). as_row other z) parked' ∙ sym (ap (λ (z : RowView). full specs z) is))

held-announced : (st : TargetState) (row : RowView) (t : TargetView) (o : Option StreamSpec) → held_by st row (as_announced t) o ≡ held_by st row t o
held-announced Waiting row t (Some spec) = refl
held-announced Waiting row t None = refl
held-announced Filled row t (Some spec) = refl
held-announced Filled row t None = refl
held-announced EarlyFilled row t (Some spec) = refl
held-announced EarlyFilled row t None = refl
held-announced Out row t o = refl
held-announced ReturnedEarly row t o = refl
held-announced ReturnedOk row t o = refl
held-announced ReturnedFailed row t o = refl

pub announced-full : (specs : List StreamSpec) (row : RowView) (s : StreamIx) → are_apart row.targets ≡ true → with_mark (Announced s) (full specs row) ≡ full specs (marked (Announced s) row)
announced-full specs row s apart =
    target-same specs row (Announced s) s.0 as_announced refl apart (λ t found. held-announced t.state row t (slice_get specs t.stream.0))

pub early-full : (specs : List StreamSpec) (row : RowView) (s : StreamIx) (t : TargetView) → are_apart row.targets ≡ true → target_at s.0 row ≡ Some t → t.state ≡ Out → with_mark (Target s ReturnedEarly) (full specs row) ≡ full specs (marked (Target s ReturnedEarly) row)
early-full specs row s t apart found out =
    target-same specs row (Target s ReturnedEarly) s.0 (in_state ReturnedEarly) refl apart (λ u at. (
    let both : Some u ≡ Some t = sym at ∙ found in
    let same : u ≡ t = cc in
    let st : u.state ≡ Out = ap (λ (z : TargetView). z.state) same ∙ out in
    sym (ap (λ (z : TargetState). held_by z row u (slice_get specs u.stream.0)) st)
    ))

-- ---- tables

pub table-1 : (t u : Rows Held) (rows : List (Row Held)) → u ≡ with_rows rows t → (u.rows ≡ rows) × (u.capacity ≡ t.capacity)
table-1 t u rows is = (ap (λ (z : Rows Held). z.rows) is, ap (λ (z : Rows Held). z.capacity) is)

pub table-2 : (n : ℕ) (f g : Row Held → Row Held) (t u v : Rows Held) → u ≡ with_rows (with_row n f t.rows) t → v ≡ with_rows (with_row n g u.rows) u → (v.rows ≡ with_row n g (with_row n f t.rows)) × (v.capacity ≡ t.capacity)
table-2 n f g t u v is is' =
    let one = table-1 t u (with_row n f t.rows) is in
    let two = table-1 u v (with_row n g u.rows) is' in
    (two.0 ∙ ap (λ (z : List (Row Held)). with_row n g z) one.0, two.1 ∙ one.1)

pub table-3 : (n : ℕ) (f g h : Row Held → Row Held) (t u v w : Rows Held) → u ≡ with_rows (with_row n f t.rows) t → v ≡ with_rows (with_row n g u.rows) u → w ≡ with_rows (with_row n h v.rows) v → (w.rows ≡ with_row n h (with_row n g (with_row n f t.rows))) × (w.capacity ≡ t.capacity)
table-3 n f g h t u v w is is' is'' =
    let two = table-2 n f g t u v is is' in
    let three = table-1 v w (with_row n h v.rows) is'' in
    (three.0 ∙ ap (λ (z : List (Row Held)). with_row n h z) two.0, three.1 ∙ two.1)

-- stores of the same plan
pub store-same : (plan : Plan) (capacity capacity' : ℕ) (rows rows' : List RowView) → capacity' ≡ capacity → rows' ≡ rows → ◌≡◌ {A = Stored} (record { plan = plan; capacity = capacity'; rows = rows' }) (record { plan = plan; capacity = capacity; rows = rows })
store-same plan capacity capacity' rows rows' c r = rw (c, r) refl
