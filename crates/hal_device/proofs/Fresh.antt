-- The row of a request that is taken, and the blocks of its targets.
use Rattle.std.proofs.Common.{◌≡◌, ℕ, zero, suc, ◌==◌, ◌+◌, ◌≤◌, Bool, true, false, ◌&&◌, ◌||◌, not, nat_le, nat_lt, if◌then◌else◌, List, [], ◌∷◌, ◌++◌, length, Option, Some, None, option_to_list, is_some, refl, sym, ap, ◌∙◌, inl, inr, arith}
use Rattle.std.specs.Prelude.{slice_get}
use Rattle.std.specs.List.{find, list_all, list_any}
use Rattle.std.specs.Option.{option_map}
use Rattle.std.proofs.lemmas.Bool.{and_parts, cases_Bool, eqb-true, false≢true}
use Rattle.std.proofs.lemmas.Bool.Decides.{nat_tests}
use Rattle.std.proofs.lemmas.List.{length-map}
use Rattle.basic_lemmas.proofs.Lists.{all-append, all-where}
use Rattle.buffer_pool.specs.Blocks.{block_length}
use Rattle.cam_types.proofs.Fours.{four-few}
use Rattle.cam_types.specs.Four.{four_list}
use Rattle.cam_types.specs.Metadata.{range_fault}
use Rattle.cam_types.specs.declared.four.Four.{Four}
use Rattle.cam_types.specs.declared.item.Settings.{Settings}
use Rattle.cam_types.specs.declared.profile.Profile.{Profile}
use Rattle.cam_types.specs.declared.row.RowView.{RowView}
use Rattle.cam_types.specs.declared.row.TargetView.{TargetView}
use Rattle.cam_types.specs.declared.stream.StreamSpec.{StreamSpec}
use Rattle.device_core.specs.View.{DeviceView, with_rows}
use Rattle.device_rows.specs.Kept.{is_fresh, is_fresh_target, rise_from}
use Rattle.device_core.specs.Stored.{are_before, is_some_target, spec_of, specs_of}
use Rattle.hal_device_model.specs.Calls.{are_bad_settings, are_bad_targets, fresh_row, fresh_target, has_to_wait, is_early, is_malformed, is_over, lacks_blocks, lent_for, lent_to, names_twice, placed, placed_at, request_error, settings_of}
use Rattle.hal_device_model.specs.State.{HalDeviceState, Spare, Spares, streams_in}
use Rattle.hal_device_model.specs.declared.error.CallError.TheVariants.{InvalidArgument, NoDevice, WrongSequence, Busy}
use Rattle.hal_device.specs.Kept.{AreFit, Fits, IsKept, are_offered, are_packed, are_sized, is_offered_at, is_sized, rests, rests_at}
use Rattle.hal_device.proofs.Plans.{spec_0, spec_1, spec_2, spec_3}
use Rattle.hal_model.specs.declared.event.HalTarget.{HalTarget}
use Rattle.request_checks.specs.declared.plan.Plan.{Plan}
use Rattle.request_checks.specs.declared.plan.PlanStream.{PlanStream}
use Rattle.basic_lemmas.proofs.Tests.{or-first, or-second, not-false}
use Rattle.basic_lemmas.proofs.Options.{not-some}

-- ---- what is known where no error is due

pub record Formed (n : ℕ) (settings : Option Settings) (targets : List HalTarget) (s : HalDeviceState) : Type 0 where
  pub well : is_malformed n settings targets s ≡ false
  pub room : has_to_wait targets s ≡ false

none-due : (over early bad waits : Bool) → (if over then Some NoDevice else (if early then Some WrongSequence else (if bad then Some InvalidArgument else (if waits then Some Busy else None)))) ≡ None → (bad ≡ false) × (waits ≡ false)
none-due true early bad waits h = absurd (cc)
none-due false true bad waits h = absurd (cc)
none-due false false true waits h = absurd (cc)
none-due false false false true h = absurd (cc)
none-due false false false false h = (refl, refl)

-- settings that are taken over are those of the request
pub formed : (n : ℕ) (settings : Option Settings) (x : Settings) (targets : List HalTarget) (s : HalDeviceState) → request_error n settings targets s ≡ None → settings_of settings s.last ≡ Some x → Formed n (Some x) targets s
formed n settings x targets s h at =
    let d = none-due (is_over s) (is_early s) (is_malformed n settings targets s) (has_to_wait targets s) h in
    record { well = rw at at d.0; room = d.1 }

-- what is known of a request that is well formed
pub record Asked (n : ℕ) (x : Settings) (targets : List HalTarget) (s : HalDeviceState) : Type 0 where
  pub new : nat_lt n s.next ≡ false
  pub some : (length targets == 0) ≡ false
  pub known : list_any (λ (t : HalTarget). not (nat_lt t.stream (length (streams_in s)))) targets ≡ false
  pub range : range_fault x ≡ None

pub asked : (n : ℕ) (x : Settings) (targets : List HalTarget) (s : HalDeviceState) → is_malformed n (Some x) targets s ≡ false → Asked n x targets s
asked n x targets s h =
    let k = length (streams_in s) in
    let unknown = list_any (λ (t : HalTarget). not (nat_lt t.stream k)) targets in
    let rest = or-second (nat_lt n s.next) (are_bad_targets k targets || are_bad_settings (Some x)) h in
    let good = or-first (are_bad_targets k targets) (are_bad_settings (Some x)) rest in
    let more = or-second (length targets == 0) (unknown || names_twice targets) good in
    record {
      new = or-first (nat_lt n s.next) (are_bad_targets k targets || are_bad_settings (Some x)) h;
      some = or-first (length targets == 0) (unknown || names_twice targets) good;
      known = or-first unknown (names_twice targets) more;
      range = not-some (range_fault x) (or-second (are_bad_targets k targets) (are_bad_settings (Some x)) rest);
    }

-- ---- the four places

abbrev over : (TargetView → Bool) → Option TargetView → Bool
over p (Some t) = p t
over p None = true

all-four : (p : TargetView → Bool) (a b c d : Option TargetView) → over p a ≡ true → over p b ≡ true → over p c ≡ true → over p d ≡ true → list_all p (option_to_list a ++ (option_to_list b ++ (option_to_list c ++ option_to_list d))) ≡ true
all-four p a b c d ha hb hc hd =
    one a (option_to_list b ++ (option_to_list c ++ option_to_list d)) ha (one b (option_to_list c ++ option_to_list d) hb (one c (option_to_list d) hc (last d hd)))
  where
    last : (o : Option TargetView) → over p o ≡ true → list_all p (option_to_list o) ≡ true
    last None h = refl
    last (Some t) h = rw h refl

    one : (o : Option TargetView) (rest : List TargetView) → over p o ≡ true → list_all p rest ≡ true → list_all p (option_to_list o ++ rest) ≡ true
    one None rest h g = g
    one (Some t) rest h g = rw h g

fresh-at : (k : ℕ) (o : Option HalTarget) → over is_fresh_target (option_map (fresh_target k) o) ≡ true
fresh-at k (Some h) = refl
fresh-at k None = refl

pub fresh_is_fresh : (n : ℕ) (x : Settings) (targets : List HalTarget) → is_fresh (fresh_row n x targets) ≡ true
fresh_is_fresh n x targets =
    all-four is_fresh_target (placed_at 0 targets) (placed_at 1 targets) (placed_at 2 targets) (placed_at 3 targets) (fresh-at 0 (find (λ t. t.stream == 0) targets)) (fresh-at 1 (find (λ t. t.stream == 1) targets)) (fresh-at 2 (find (λ t. t.stream == 2) targets)) (fresh-at 3 (find (λ t. t.stream == 3) targets))

rests-at : (k : ℕ) (o : Option HalTarget) → rests_at (option_map (fresh_target k) o) ≡ true
rests-at k (Some h) = refl
rests-at k None = refl

pub fresh_rests : (n : ℕ) (x : Settings) (targets : List HalTarget) → rests (fresh_row n x targets) ≡ true
fresh_rests n x targets =
    rw (rests-at 0 (find (λ t. t.stream == 0) targets), rests-at 1 (find (λ t. t.stream == 1) targets), rests-at 2 (find (λ t. t.stream == 2) targets), rests-at 3 (find (λ t. t.stream == 3) targets)) refl

-- ---- their streams are configured

known-find : (j k : ℕ) (targets : List HalTarget) (h : HalTarget) → list_any (λ (t : HalTarget). not (nat_lt t.stream k)) targets ≡ false → find (λ t. t.stream == j) targets ≡ Some h → nat_lt j k ≡ true
known-find j k [] h none at = absurd (cc)
known-find j k (t ∷ targets) h none at =
    let first = or-first (not (nat_lt t.stream k)) (list_any (λ (u : HalTarget). not (nat_lt u.stream k)) targets) none in
    let rest = or-second (not (nat_lt t.stream k)) (list_any (λ (u : HalTarget). not (nat_lt u.stream k)) targets) none in
    elim (cases_Bool (t.stream == j)) [
      | inl here ↦ ap (λ (i : ℕ). nat_lt i k) (sym (eqb-true t.stream j here)) ∙ not-false (nat_lt t.stream k) first
      | inr other ↦ known-find j k targets h rest (rw other at at)
    ]

abbrev Known : ℕ → ℕ → Option HalTarget → Type 0
Known j k o = (h : HalTarget) → o ≡ Some h → nat_lt j k ≡ true

low-le : (low j : ℕ) → low ≤ j → nat_le low j ≡ true
low-le low j h = grind (arith, nat_tests, h)

rise-d : (low k : ℕ) (d : Option HalTarget) → low ≤ 3 → Known 3 k d → rise_from low k (option_to_list (option_map (fresh_target 3) d)) ≡ true
rise-d low k None l known = refl
rise-d low k (Some h) l known = rw (low-le low 3 l, known h refl) refl

rise-c : (low k : ℕ) (c d : Option HalTarget) → low ≤ 2 → Known 2 k c → Known 3 k d → rise_from low k (option_to_list (option_map (fresh_target 2) c) ++ option_to_list (option_map (fresh_target 3) d)) ≡ true
rise-c low k None d l kc kd = rise-d low k d (omega arith) kd
rise-c low k (Some h) d l kc kd = rw (low-le low 2 l, kc h refl) (rise-d 3 k d (omega arith) kd)

rise-b : (low k : ℕ) (b c d : Option HalTarget) → low ≤ 1 → Known 1 k b → Known 2 k c → Known 3 k d → rise_from low k (option_to_list (option_map (fresh_target 1) b) ++ (option_to_list (option_map (fresh_target 2) c) ++ option_to_list (option_map (fresh_target 3) d))) ≡ true
rise-b low k None c d l kb kc kd = rise-c low k c d (omega arith) kc kd
rise-b low k (Some h) c d l kb kc kd = rw (low-le low 1 l, kb h refl) (rise-c 2 k c d (omega arith) kc kd)

rise-a : (k : ℕ) (a b c d : Option HalTarget) → Known 0 k a → Known 1 k b → Known 2 k c → Known 3 k d → rise_from 0 k (option_to_list (option_map (fresh_target 0) a) ++ (option_to_list (option_map (fresh_target 1) b) ++ (option_to_list (option_map (fresh_target 2) c) ++ option_to_list (option_map (fresh_target 3) d)))) ≡ true
rise-a k None b c d ka kb kc kd = rise-b 0 k b c d (omega arith) kb kc kd
rise-a k (Some h) b c d ka kb kc kd = rw (low-le 0 0 (omega arith), ka h refl) (rise-b 1 k b c d (omega arith) kb kc kd)

pub fresh_rises : (k : ℕ) (targets : List HalTarget) → list_any (λ (t : HalTarget). not (nat_lt t.stream k)) targets ≡ false → rise_from 0 k (four_list (placed targets)) ≡ true
fresh_rises k targets known =
    rise-a k (find (λ t. t.stream == 0) targets) (find (λ t. t.stream == 1) targets) (find (λ t. t.stream == 2) targets) (find (λ t. t.stream == 3) targets) (λ h at. known-find 0 k targets h known at) (λ h at. known-find 1 k targets h known at) (λ h at. known-find 2 k targets h known at) (λ h at. known-find 3 k targets h known at)

-- ---- there is a target

some-first : (o : Option TargetView) (rest : List TargetView) → is_some o ≡ true → list_any (λ (t : TargetView). true) (option_to_list o ++ rest) ≡ true
some-first (Some t) rest h = refl
some-first None rest h = absurd (false≢true h)

some-past : (o : Option TargetView) (rest : List TargetView) → list_any (λ (t : TargetView). true) rest ≡ true → list_any (λ (t : TargetView). true) (option_to_list o ++ rest) ≡ true
some-past (Some t) rest h = refl
some-past None rest h = h

some-last : (o : Option TargetView) → is_some o ≡ true → list_any (λ (t : TargetView). true) (option_to_list o) ≡ true
some-last (Some t) h = refl
some-last None h = absurd (false≢true h)

placed-some : (j : ℕ) (t : HalTarget) (targets : List HalTarget) → (t.stream == j) ≡ true → is_some (placed_at j (t ∷ targets)) ≡ true
placed-some j t targets h = rw h refl

last-of-four : (i k : ℕ) → nat_lt i k ≡ true → k ≤ 4 → (i == 0) ≡ false → (i == 1) ≡ false → (i == 2) ≡ false → (i == 3) ≡ true
last-of-four i k h l a b c = grind (arith, nat_tests, h, l, a, b, c)

pub fresh_some : (k : ℕ) (targets : List HalTarget) → k ≤ 4 → (length targets == 0) ≡ false → list_any (λ (t : HalTarget). not (nat_lt t.stream k)) targets ≡ false → is_some_target (four_list (placed targets)) ≡ true
fresh_some k [] few some known = absurd (false≢true (sym some))
fresh_some k (t ∷ targets) few some known =
    let first = not-false (nat_lt t.stream k) (or-first (not (nat_lt t.stream k)) (list_any (λ (u : HalTarget). not (nat_lt u.stream k)) targets) known) in
    let ts = t ∷ targets in
    let a = placed_at 0 ts in
    let b = placed_at 1 ts in
    let c = placed_at 2 ts in
    let d = placed_at 3 ts in
    elim (cases_Bool (t.stream == 0)) [
      | inl at ↦ some-first a (option_to_list b ++ (option_to_list c ++ option_to_list d)) (placed-some 0 t targets at)
      | inr n0 ↦ elim (cases_Bool (t.stream == 1)) [
        | inl at ↦ some-past a (option_to_list b ++ (option_to_list c ++ option_to_list d)) (some-first b (option_to_list c ++ option_to_list d) (placed-some 1 t targets at))
        | inr n1 ↦ elim (cases_Bool (t.stream == 2)) [
          | inl at ↦ some-past a (option_to_list b ++ (option_to_list c ++ option_to_list d)) (some-past b (option_to_list c ++ option_to_list d) (some-first c (option_to_list d) (placed-some 2 t targets at)))
          | inr n2 ↦ some-past a (option_to_list b ++ (option_to_list c ++ option_to_list d)) (some-past b (option_to_list c ++ option_to_list d) (some-past c (option_to_list d) (some-last d (placed-some 3 t targets (last-of-four t.stream k first few n0 n1 n2)))))
        ]
      ]
    ]

few-specs : (plan : Plan) → length (specs_of plan) ≤ 4
few-specs plan = rw (length-map (four_list plan.streams) spec_of) (four-few plan.streams)

pub fresh_some_in : (plan : Plan) (targets : List HalTarget) → (length targets == 0) ≡ false → list_any (λ (t : HalTarget). not (nat_lt t.stream (length (specs_of plan)))) targets ≡ false → is_some_target (four_list (placed targets)) ≡ true
fresh_some_in plan targets some known = fresh_some (length (specs_of plan)) targets (few-specs plan) some known

-- ---- each target's stream is one of the plan, with blocks of its length

within : {X : Type 0} (xs : List X) (j : ℕ) → nat_lt j (length xs) ≡ true → slice_get xs j ≡ None → ⊥
within [] j h at = grind (arith, nat_tests, h)
within (x ∷ xs) zero h at = absurd (cc)
within (x ∷ xs) (suc j) h at = within xs j (grind (arith, nat_tests, h)) at

fits-one : (stream : Option PlanStream) (o : Option HalTarget) (j : ℕ) (spare : Spare) (specs : List StreamSpec) → slice_get specs j ≡ option_map spec_of stream → Known j (length specs) o → is_offered_at stream ≡ true → is_sized stream spare ≡ true → Fits stream (option_map (fresh_target j) o) spare
fits-one (Some stream) (Some h) j spare specs at known offered sized = (offered, eqb-true spare.size (block_length stream.spec.format) sized, refl)
fits-one None (Some h) j spare specs at known offered sized = within specs j (known h refl) at
fits-one (Some stream) None j spare specs at known offered sized = tt
fits-one None None j spare specs at known offered sized = tt

pub fresh_fits : (plan : Plan) (spares : Spares) (targets : List HalTarget) → are_packed plan ≡ true → are_offered plan ≡ true → are_sized plan spares ≡ true → list_any (λ (t : HalTarget). not (nat_lt t.stream (length (specs_of plan)))) targets ≡ false → AreFit plan (placed targets) spares
fresh_fits plan spares targets packed offered sized known =
    let p = plan.streams in
    let k = length (specs_of plan) in
    let ol = and_parts (is_offered_at p.a && is_offered_at p.b) (is_offered_at p.c && is_offered_at p.d) offered in
    let ou = and_parts (is_offered_at p.a) (is_offered_at p.b) ol.0 in
    let ov = and_parts (is_offered_at p.c) (is_offered_at p.d) ol.1 in
    let l = and_parts (is_sized p.a spares.a && is_sized p.b spares.b) (is_sized p.c spares.c && is_sized p.d spares.d) sized in
    let u = and_parts (is_sized p.a spares.a) (is_sized p.b spares.b) l.0 in
    let v = and_parts (is_sized p.c spares.c) (is_sized p.d spares.d) l.1 in
    record {
      a = fits-one p.a (find (λ t. t.stream == 0) targets) 0 spares.a (specs_of plan) (spec_0 p.a p.b p.c p.d packed) (λ h at. known-find 0 k targets h known at) ou.0 u.0;
      b = fits-one p.b (find (λ t. t.stream == 1) targets) 1 spares.b (specs_of plan) (spec_1 p.a p.b p.c p.d packed) (λ h at. known-find 1 k targets h known at) ou.1 u.1;
      c = fits-one p.c (find (λ t. t.stream == 2) targets) 2 spares.c (specs_of plan) (spec_2 p.a p.b p.c p.d packed) (λ h at. known-find 2 k targets h known at) ov.0 v.0;
      d = fits-one p.d (find (λ t. t.stream == 3) targets) 3 spares.d (specs_of plan) (spec_3 p.a p.b p.c p.d packed) (λ h at. known-find 3 k targets h known at) ov.1 v.1;
    }

-- ---- what is kept

pub later : (n next : ℕ) (rows : List RowView) → are_before next rows ≡ true → nat_lt n next ≡ false → are_before n rows ≡ true
later n next rows h new = all-where (λ (r : RowView). nat_lt r.frame.0 next) (λ (r : RowView). nat_lt r.frame.0 n) rows (λ r g. below r.frame.0 g) h
  where
    below : (f : ℕ) → nat_lt f next ≡ true → nat_lt f n ≡ true
    below f g = grind (arith, nat_tests, g, new)

lent-sized : (stream : Option PlanStream) (o : Option TargetView) (spare : Spare) → is_sized stream spare ≡ true → is_sized stream (lent_for o spare) ≡ true
lent-sized (Some stream) (Some t) spare h = h
lent-sized None (Some t) spare h = refl
lent-sized stream None spare h = h

lent-all : (plan : Plan) (targets : Four TargetView) (spares : Spares) → are_sized plan spares ≡ true → are_sized plan (lent_to targets spares) ≡ true
lent-all plan targets spares h =
    let p = plan.streams in
    let l = and_parts (is_sized p.a spares.a && is_sized p.b spares.b) (is_sized p.c spares.c && is_sized p.d spares.d) h in
    let u = and_parts (is_sized p.a spares.a) (is_sized p.b spares.b) l.0 in
    let v = and_parts (is_sized p.c spares.c) (is_sized p.d spares.d) l.1 in
    rw (lent-sized p.a targets.a spares.a u.0, lent-sized p.b targets.b spares.b u.1, lent-sized p.c targets.c spares.c v.0, lent-sized p.d targets.d spares.d v.1) refl

pub kept_requested : (d new : DeviceView) (plan : Plan) (profile : Profile) (spares after : Spares) (next n : ℕ) (row : RowView) → IsKept d plan profile spares next → new ≡ with_rows (d.rows ++ row ∷ []) d → after ≡ lent_to row.targets spares → row.frame.0 ≡ n → nat_lt row.frame.0 next ≡ false → IsKept new plan profile after (n + 1)
kept_requested d new plan profile spares after next n row k is blocks same fresh = rw (is, blocks, ← same) (record {
  plan = k.plan;
  depth = k.depth;
  profile = k.profile;
  offered = k.offered;
  packed = k.packed;
  sized = lent-all plan row.targets spares k.sized;
  before = all-append (λ (r : RowView). nat_lt r.frame.0 (row.frame.0 + 1)) d.rows (row ∷ []) (all-where (λ (r : RowView). nat_lt r.frame.0 next) (λ (r : RowView). nat_lt r.frame.0 (row.frame.0 + 1)) d.rows (λ r g. below r.frame.0 g) k.before) (rw (own row.frame.0) refl);
})
  where
    below : (f : ℕ) → nat_lt f next ≡ true → nat_lt f (row.frame.0 + 1) ≡ true
    below f g = grind (arith, nat_tests, g, fresh)

    own : (f : ℕ) → nat_lt f (f + 1) ≡ true
    own f = grind (arith, nat_tests)

-- ---- all that the device asks of the row

pub record Admitted (d : DeviceView) (plan : Plan) (spares : Spares) (next : ℕ) (row : RowView) : Type 0 where
  pub fit : AreFit plan row.targets spares
  pub room : (length d.rows == d.capacity) ≡ false
  pub later : are_before row.frame.0 d.rows ≡ true
  pub fresh : is_fresh row ≡ true
  pub rest : rests row ≡ true
  pub range : range_fault row.settings ≡ None
  pub streams : rise_from 0 (length (specs_of d.plan)) (four_list row.targets) ≡ true
  pub some : is_some_target (four_list row.targets) ≡ true
  pub new : nat_lt row.frame.0 next ≡ false

pub admitted : (s : HalDeviceState) (plan : Plan) (n : ℕ) (x : Settings) (targets : List HalTarget) (row : RowView) → IsKept s.device plan s.profile s.spares s.next → is_malformed n (Some x) targets s ≡ false → has_to_wait targets s ≡ false → row ≡ fresh_row n x targets → Admitted s.device plan s.spares s.next row
admitted s plan n x targets row k well room is =
    let a = asked n x targets s well in
    let known : list_any (λ (t : HalTarget). not (nat_lt t.stream (length (specs_of plan)))) targets ≡ false = ap (λ (p : Plan). list_any (λ (t : HalTarget). not (nat_lt t.stream (length (specs_of p)))) targets) (sym k.plan) ∙ a.known in
    let rest = or-second s.flushing ((length s.device.rows == s.device.capacity) || lacks_blocks (placed targets) s.spares) room in
    rw is (record {
      fit = fresh_fits plan s.spares targets k.packed k.offered k.sized known;
      room = or-first (length s.device.rows == s.device.capacity) (lacks_blocks (placed targets) s.spares) rest;
      later = later n s.next s.device.rows k.before a.new;
      fresh = fresh_is_fresh n x targets;
      rest = fresh_rests n x targets;
      range = a.range;
      streams = fresh_rises (length (specs_of s.device.plan)) targets a.known;
      some = fresh_some_in plan targets a.some known;
      new = a.new;
    })
