-- What a row meets once one of its targets is changed.
use Rattle.std.proofs.Common.{◌≡◌, ℕ, ◌+◌, ◌==◌, Bool, true, false, ◌&&◌, ◌||◌, not, is_some, is_none, if◌then◌else◌, List, [], ◌∷◌, length, filter, map, Option, Some, None, refl, sym, ap, ◌∙◌, arith, inl, inr}
use Rattle.std.specs.List.{list_all, list_any}
use Rattle.std.proofs.lemmas.Bool.{and_parts, both_ways, cases_Bool, false≢true}
use Rattle.std.proofs.lemmas.Bool.Decides.{nat_tests}
use Rattle.basic_lemmas.proofs.Lists.{all-agree, all-found, all-mapped, any-agree, any-mapped}
use Rattle.cam_types.specs.Four.{four_list}
use Rattle.cam_types.specs.Metadata.{range_fault}
use Rattle.cam_types.specs.declared.number.StreamIx.{StreamIx}
use Rattle.cam_types.specs.declared.row.RowView.{RowView}
use Rattle.cam_types.specs.declared.row.SensorPlace.{SensorPlace}
use Rattle.cam_types.specs.declared.row.SensorPlace.TheVariants.{NotYet, Out as SensorOut, Home, WithFill}
use Rattle.cam_types.specs.declared.row.TargetState.{TargetState}
use Rattle.cam_types.specs.declared.row.TargetState.TheVariants.{Waiting, Out, Filled, ReturnedEarly, EarlyFilled, ReturnedOk, ReturnedFailed}
use Rattle.cam_types.specs.declared.row.TargetView.{TargetView}
use Rattle.device_rows.specs.Jobs.{is_fill_out}
use Rattle.device_rows.specs.Kept.{rise_from}
use Rattle.device_rows.specs.Ready.{is_sensor_out}
use Rattle.device_rows.specs.Rows.{target_at}
use Rattle.device_core.specs.Kept.{agree, agree_at, fills_out, is_kept, is_kept_back, is_out, is_placed, is_unbegun, is_waiting, waits}
use Rattle.device_core.specs.Stored.{is_some_target, rises}
use Rattle.device_rows.specs.Marks.{as_announced, in_state, marked, with_target}
use Rattle.device_rows.specs.declared.mark.Mark.TheVariants.{Announced, RequestError, Target}
use Rattle.device_core.proofs.General.{kept-at, count-at}
use Rattle.device_core.proofs.Targets.{four-mapped, rise-mapped, stream_number, streams-rise}
use Rattle.basic_lemmas.proofs.Options.{is-none}

-- ---- changes that touch no test

abbrev pub of_stream : ℕ → (TargetView → TargetView) → TargetView → TargetView
of_stream s change t = if t.stream.0 == s then change t else t

same-by : {A : Type 0} (f : TargetView → A) (s : ℕ) (change : TargetView → TargetView) (t : TargetView) → f (change t) ≡ f t → f (of_stream s change t) ≡ f t
same-by f s change t same = elim (cases_Bool (t.stream.0 == s)) [ inl at ↦ rw at same | inr other ↦ rw other refl ]

filter-mapped : {X : Type 0} (p : X → Bool) (f : X → X) (xs : List X) → ((x : X) → p (f x) ≡ p x) → length (filter p (map f xs)) ≡ length (filter p xs)
filter-mapped p f [] same = refl
filter-mapped p f (x ∷ xs) same =
    let ih = filter-mapped p f xs same in
    elim (cases_Bool (p x)) [ inl yes' ↦ rw (same x, yes', ih) refl | inr no' ↦ rw (same x, no', ih) refl ]

-- ---- the place of a row

abbrev pub range_of : RowView → Option ℕ
range_of row = range_fault row.settings

placed-list : (streams : ℕ) (s : ℕ) (change : TargetView → TargetView) (xs ys : List TargetView) → ((t : TargetView) → (change t).stream.0 ≡ t.stream.0) → ys ≡ map (of_stream s change) xs → (rise_from 0 streams ys ≡ rise_from 0 streams xs) × (is_some_target ys ≡ is_some_target xs)
placed-list streams s change xs ys keeps is =
    let keeps' : (t : TargetView) → (of_stream s change t).stream.0 ≡ t.stream.0 = λ t. same-by (λ (u : TargetView). u.stream.0) s change t (keeps t) in
    (ap (λ (z : List TargetView). rise_from 0 streams z) is ∙ rise-mapped (of_stream s change) 0 streams xs keeps', ap (λ (z : List TargetView). is_some_target z) is ∙ any-mapped (λ t. true) (of_stream s change) xs)

pub placed-changed : (streams s : ℕ) (change : TargetView → TargetView) (row : RowView) → ((t : TargetView) → (change t).stream.0 ≡ t.stream.0) → is_placed streams row ≡ true → is_placed streams (record row { targets = with_target s change row.targets }) ≡ true
placed-changed streams s change row keeps placed =
    let same = placed-list streams s change (four_list row.targets) (four_list (with_target s change row.targets)) keeps (four-mapped s change row.targets) in
    rw (same.0, same.1) placed

-- what the place of a row says
pub record Placed (streams : ℕ) (row : RowView) : Type 0 where
  pub range : is_none (range_of row) ≡ true
  pub rise : rise_from 0 streams (four_list row.targets) ≡ true
  pub order : rises stream_number (four_list row.targets) ≡ true
  pub some : is_some_target (four_list row.targets) ≡ true

pub placed-parts : (streams : ℕ) (row : RowView) → is_placed streams row ≡ true → Placed streams row
placed-parts streams row h =
    let first = and_parts (is_none (range_of row)) (rise_from 0 streams (four_list row.targets) && is_some_target (four_list row.targets)) h in
    let later = and_parts (rise_from 0 streams (four_list row.targets)) (is_some_target (four_list row.targets)) first.1 in
    record { range = first.0; rise = later.0; order = streams-rise 0 streams (four_list row.targets) later.0; some = later.1 }

-- ---- fills

fills-changed : (row : RowView) (s : StreamIx) (st : TargetState) (t : TargetView) → rises stream_number (four_list row.targets) ≡ true → target_at s.0 row ≡ Some t → fills_out (marked (Target s st) row) + (if is_fill_out t.state then 1 else 0) ≡ fills_out row + (if is_fill_out st then 1 else 0)
fills-changed row s st t order found =
    let one = count-at stream_number is_out (in_state st) s.0 (four_list row.targets) t order found in
    ap (λ (z : List TargetView). length (filter is_out z) + (if is_fill_out t.state then 1 else 0)) (four-mapped s.0 (in_state st) row.targets) ∙ one

begun-count : (a b : ℕ) (is : Bool) → (b == 0) ≡ true → is ≡ false → a + (if is then 1 else 0) ≡ b + 1 → (a == 1) ≡ true
begun-count a b true zero' no' h = absurd (cc)
begun-count a b false zero' no' h = grind (arith, nat_tests, zero', h)

ended-count : (a b : ℕ) (is st : Bool) → (b == 1) ≡ true → is ≡ true → st ≡ false → a + (if is then 1 else 0) ≡ b + (if st then 1 else 0) → (a == 0) ≡ true
ended-count a b true false one yes' no' h = grind (arith, nat_tests, one, h)
ended-count a b false st one yes' no' h = absurd (cc)
ended-count a b true true one yes' no' h = absurd (cc)

same-count : (a b : ℕ) (is st : Bool) → is ≡ st → a + (if is then 1 else 0) ≡ b + (if st then 1 else 0) → a ≡ b
same-count a b true true same h = omega (arith, h)
same-count a b false false same h = omega (arith, h)
same-count a b true false same h = absurd (cc)
same-count a b false true same h = absurd (cc)

-- the sensor's readout is home, and a stage takes it
pub agree-begun : (row : RowView) (s : StreamIx) (t : TargetView) → rises stream_number (four_list row.targets) ≡ true → target_at s.0 row ≡ Some t → is_fill_out t.state ≡ false → agree_at Home row ≡ true → agree_at WithFill (marked (Target s Out) row) ≡ true
agree-begun row s t order found no' agrees =
    let parts = and_parts (is_some row.shutter) (fills_out row == 0) agrees in
    let one = begun-count (fills_out (marked (Target s Out) row)) (fills_out row) (is_fill_out t.state) parts.1 no' (fills-changed row s Out t order found) in
    rw (parts.0, one) refl

-- and gives it back
pub agree-ended : (row : RowView) (s : StreamIx) (st : TargetState) (t : TargetView) → rises stream_number (four_list row.targets) ≡ true → target_at s.0 row ≡ Some t → is_fill_out t.state ≡ true → is_fill_out st ≡ false → agree_at WithFill row ≡ true → agree_at Home (marked (Target s st) row) ≡ true
agree-ended row s st t order found out no' agrees =
    let parts = and_parts (is_some row.shutter) (fills_out row == 1) agrees in
    let none = ended-count (fills_out (marked (Target s st) row)) (fills_out row) (is_fill_out t.state) (is_fill_out st) parts.1 out no' (fills-changed row s st t order found) in
    rw (parts.0, none) refl

waiting-back : (state : TargetState) → is_waiting state ≡ true → is_kept_back state ≡ true
waiting-back Waiting h = refl
waiting-back Out h = absurd (false≢true h)
waiting-back Filled h = absurd (false≢true h)
waiting-back ReturnedEarly h = absurd (false≢true h)
waiting-back EarlyFilled h = absurd (false≢true h)
waiting-back ReturnedOk h = absurd (false≢true h)
waiting-back ReturnedFailed h = absurd (false≢true h)

-- a target of which more came than its failure
pub agree-moved : (place : SensorPlace) (row : RowView) (s : StreamIx) (st : TargetState) (t : TargetView) → rises stream_number (four_list row.targets) ≡ true → target_at s.0 row ≡ Some t → is_kept_back t.state ≡ false → is_fill_out t.state ≡ is_fill_out st → agree_at place row ≡ true → agree_at place (marked (Target s st) row) ≡ true
agree-moved NotYet row s st t order found moved same agrees =
    let parts = and_parts (is_none row.shutter) (list_all is_unbegun (four_list row.targets) && (row.request_error || list_all waits (four_list row.targets))) agrees in
    let later = and_parts (list_all is_unbegun (four_list row.targets)) (row.request_error || list_all waits (four_list row.targets)) parts.1 in
    let own = all-found is_unbegun (λ u. u.stream.0 == s.0) (four_list row.targets) t later.0 found in
    absurd (both_ways (is_kept_back t.state) moved (and_parts (is_kept_back t.state) (not t.announced) own).0)
agree-moved SensorOut row s st t order found moved same agrees =
    let parts = and_parts (is_some row.shutter) (list_any waits (four_list row.targets) && list_all waits (four_list row.targets)) agrees in
    let later = and_parts (list_any waits (four_list row.targets)) (list_all waits (four_list row.targets)) parts.1 in
    let own = all-found waits (λ u. u.stream.0 == s.0) (four_list row.targets) t later.1 found in
    absurd (both_ways (is_kept_back t.state) moved (waiting-back t.state own))
agree-moved Home row s st t order found moved same agrees =
    let count = same-count (fills_out (marked (Target s st) row)) (fills_out row) (is_fill_out t.state) (is_fill_out st) same (fills-changed row s st t order found) in
    rw count agrees
agree-moved WithFill row s st t order found moved same agrees =
    let count = same-count (fills_out (marked (Target s st) row)) (fills_out row) (is_fill_out t.state) (is_fill_out st) same (fills-changed row s st t order found) in
    rw count agrees

failed-back : (e a : Bool) → (e || a) ≡ true → not a ≡ true → e ≡ true
failed-back true a h n = refl
failed-back false true h n = absurd (false≢true n)
failed-back false false h n = absurd (false≢true h)

-- a buffer that comes back in error
pub agree-failed : (place : SensorPlace) (row : RowView) (s : StreamIx) (t : TargetView) → rises stream_number (four_list row.targets) ≡ true → target_at s.0 row ≡ Some t → is_fill_out t.state ≡ false → (row.request_error || t.announced) ≡ true → is_sensor_out place ≡ false → agree_at place row ≡ true → agree_at place (marked (Target s ReturnedFailed) row) ≡ true
agree-failed NotYet row s t order found in' cause here agrees =
    let parts = and_parts (is_none row.shutter) (list_all is_unbegun (four_list row.targets) && (row.request_error || list_all waits (four_list row.targets))) agrees in
    let later = and_parts (list_all is_unbegun (four_list row.targets)) (row.request_error || list_all waits (four_list row.targets)) parts.1 in
    let own = all-found is_unbegun (λ u. u.stream.0 == s.0) (four_list row.targets) t later.0 found in
    let own' = and_parts (is_kept_back t.state) (not t.announced) own in
    let failed = failed-back row.request_error t.announced cause own'.1 in
    let still : is_unbegun (in_state ReturnedFailed t) ≡ true = own'.1 in
    let all = ap (λ (z : List TargetView). list_all is_unbegun z) (four-mapped s.0 (in_state ReturnedFailed) row.targets) ∙ kept-at stream_number is_unbegun (in_state ReturnedFailed) s.0 (four_list row.targets) t order found later.0 still in
    rw (parts.0, all, failed) refl
agree-failed SensorOut row s t order found in' cause here agrees = absurd (false≢true (sym here))
agree-failed Home row s t order found in' cause here agrees =
    let count = same-count (fills_out (marked (Target s ReturnedFailed) row)) (fills_out row) (is_fill_out t.state) false in' (fills-changed row s ReturnedFailed t order found) in
    rw count agrees
agree-failed WithFill row s t order found in' cause here agrees =
    let count = same-count (fills_out (marked (Target s ReturnedFailed) row)) (fills_out row) (is_fill_out t.state) false in' (fills-changed row s ReturnedFailed t order found) in
    rw count agrees

-- ---- errors

pub agree-request : (place : SensorPlace) (row : RowView) → agree_at place row ≡ true → agree_at place (marked RequestError row) ≡ true
agree-request NotYet row agrees =
    let parts = and_parts (is_none row.shutter) (list_all is_unbegun (four_list row.targets) && (row.request_error || list_all waits (four_list row.targets))) agrees in
    let later = and_parts (list_all is_unbegun (four_list row.targets)) (row.request_error || list_all waits (four_list row.targets)) parts.1 in
    rw (parts.0, later.0) refl
agree-request SensorOut row agrees = agrees
agree-request Home row agrees = agrees
agree-request WithFill row agrees = agrees

none-some : {X : Type 0} (o : Option X) → is_none o ≡ true → is_some o ≡ true → ⊥
none-some None n s = false≢true s
none-some (Some x) n s = false≢true n

announced-count : (row : RowView) (s : StreamIx) → fills_out (marked (Announced s) row) ≡ fills_out row
announced-count row s =
    ap (λ (z : List TargetView). length (filter is_out z)) (four-mapped s.0 as_announced row.targets) ∙ filter-mapped is_out (of_stream s.0 as_announced) (four_list row.targets) (λ t. same-by is_out s.0 as_announced t refl)

pub agree-announced : (place : SensorPlace) (row : RowView) (s : StreamIx) → is_some row.shutter ≡ true → agree_at place row ≡ true → agree_at place (marked (Announced s) row) ≡ true
agree-announced NotYet row s lit agrees =
    let parts = and_parts (is_none row.shutter) (list_all is_unbegun (four_list row.targets) && (row.request_error || list_all waits (four_list row.targets))) agrees in
    absurd (none-some row.shutter parts.0 lit)
agree-announced SensorOut row s lit agrees =
    let is = four-mapped s.0 as_announced row.targets in
    let any = ap (λ (z : List TargetView). list_any waits z) is ∙ (any-mapped waits (of_stream s.0 as_announced) (four_list row.targets) ∙ any-agree (λ t. waits (of_stream s.0 as_announced t)) waits (four_list row.targets) (λ t. same-by waits s.0 as_announced t refl)) in
    let all = ap (λ (z : List TargetView). list_all waits z) is ∙ (all-mapped waits (of_stream s.0 as_announced) (four_list row.targets) ∙ all-agree (λ t. waits (of_stream s.0 as_announced t)) waits (four_list row.targets) (λ t. same-by waits s.0 as_announced t refl)) in
    rw (any, all) agrees
agree-announced Home row s lit agrees = rw (announced-count row s) agrees
agree-announced WithFill row s lit agrees = rw (announced-count row s) agrees

-- ---- the exposure

-- a row without a shutter is where the sensor didn't begin, and if it didn't fail all its targets wait
pub dark-sensor : (place : SensorPlace) (row : RowView) → agree_at place row ≡ true → is_some row.shutter ≡ false → place ≡ NotYet
dark-sensor NotYet row agrees dark = refl
dark-sensor SensorOut row agrees dark = absurd (both_ways (is_some row.shutter) dark (and_parts (is_some row.shutter) (list_any waits (four_list row.targets) && list_all waits (four_list row.targets)) agrees).0)
dark-sensor Home row agrees dark = absurd (both_ways (is_some row.shutter) dark (and_parts (is_some row.shutter) (fills_out row == 0) agrees).0)
dark-sensor WithFill row agrees dark = absurd (both_ways (is_some row.shutter) dark (and_parts (is_some row.shutter) (fills_out row == 1) agrees).0)

sound-or : (e w : Bool) → (e || w) ≡ true → e ≡ false → w ≡ true
sound-or true w h no' = absurd (cc)
sound-or false w h no' = h

any-waits : (xs : List TargetView) → is_some_target xs ≡ true → list_all waits xs ≡ true → list_any waits xs ≡ true
any-waits [] some all = absurd (false≢true some)
any-waits (t ∷ xs) some all = rw (and_parts (waits t) (list_all waits xs) all).0 refl

pub agree-exposed : (row : RowView) (time : ℕ) → is_some_target (four_list row.targets) ≡ true → row.request_error ≡ false → agree_at NotYet row ≡ true → agree_at SensorOut (record row { shutter = Some time }) ≡ true
agree-exposed row time some sound agrees =
    let parts = and_parts (is_none row.shutter) (list_all is_unbegun (four_list row.targets) && (row.request_error || list_all waits (four_list row.targets))) agrees in
    let later = and_parts (list_all is_unbegun (four_list row.targets)) (row.request_error || list_all waits (four_list row.targets)) parts.1 in
    let all = sound-or row.request_error (list_all waits (four_list row.targets)) later.1 sound in
    rw (any-waits (four_list row.targets) some all, all) refl

waits-in : (state : TargetState) → is_waiting state ≡ true → is_fill_out state ≡ false
waits-in Waiting h = refl
waits-in Out h = absurd (false≢true h)
waits-in Filled h = refl
waits-in ReturnedEarly h = absurd (false≢true h)
waits-in EarlyFilled h = refl
waits-in ReturnedOk h = refl
waits-in ReturnedFailed h = refl

waits-none : (xs : List TargetView) → list_all waits xs ≡ true → length (filter is_out xs) ≡ 0
waits-none [] all = refl
waits-none (t ∷ xs) all =
    let parts = and_parts (waits t) (list_all waits xs) all in
    rw (waits-in t.state parts.0) (waits-none xs parts.1)

-- the readout comes home, and nothing is out
pub agree-home : (row : RowView) → agree_at SensorOut row ≡ true → agree_at Home row ≡ true
agree-home row agrees =
    let parts = and_parts (is_some row.shutter) (list_any waits (four_list row.targets) && list_all waits (four_list row.targets)) agrees in
    let later = and_parts (list_any waits (four_list row.targets)) (list_all waits (four_list row.targets)) parts.1 in
    rw (parts.0, waits-none (four_list row.targets) later.1) refl

-- the settings are in range
pub range-none : (streams : ℕ) (row : RowView) → is_kept streams row ≡ true → range_fault row.settings ≡ None
range-none streams row kept =
    let own = and_parts (is_placed streams row) (agree row) kept in
    is-none (range_fault row.settings) (placed-parts streams row own.0).range
