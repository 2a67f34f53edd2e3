-- The target of a stream in a row, and what is parked for it.
use Rattle.std.proofs.Common.{◌≡◌, ℕ, ◌+◌, ◌<◌, ◌==◌, ◌&&◌, Bool, true, false, nat_le, nat_lt, if◌then◌else◌, List, [], ◌∷◌, ◌++◌, map, Option, Some, None, refl, sym, ◌∙◌, ap, inl, inr, arith, option_to_list}
use Rattle.std.specs.List.{find, list_all}
use Rattle.std.proofs.lemmas.Bool.Decides.{nat_tests}
use Rattle.std.proofs.lemmas.List.{map-append}
use Rattle.std.proofs.lemmas.Bool.{and_parts, cases_Bool, eqb-true, false≢true}
use Rattle.cam_types.specs.Four.{four_list}
use Rattle.cam_types.specs.declared.four.Four.{Four}
use Rattle.cam_types.specs.declared.row.TargetView.{TargetView}
use Rattle.device_rows.specs.Marks.{if_of_stream, with_target}
use Rattle.device_rows.specs.TableRows.{are_apart, has_target, is_apart, is_for, parked_at, placed_at}
use Rattle.device_rows.specs.Kept.{rise_from}
use Rattle.device_core.specs.Stored.{rises}

abbrev pub is_of_stream : ℕ → TargetView → Bool
is_of_stream s target = target.stream.0 == s

find-here : (s : ℕ) (o : Option TargetView) (rest : List TargetView) → is_for s o ≡ true → find (is_of_stream s) (option_to_list o ++ rest) ≡ o
find-here s None rest h = absurd (false≢true h)
find-here s (Some t) rest h = rw h refl

find-past : (s : ℕ) (o : Option TargetView) (rest : List TargetView) → is_for s o ≡ false → find (is_of_stream s) (option_to_list o ++ rest) ≡ find (is_of_stream s) rest
find-past s None rest h = refl
find-past s (Some t) rest h = rw h refl

find-last : (s : ℕ) (o : Option TargetView) → is_for s o ≡ true → find (is_of_stream s) (option_to_list o) ≡ o
find-last s None h = absurd (false≢true h)
find-last s (Some t) h = rw h refl

last-none : (s : ℕ) (o : Option TargetView) → is_for s o ≡ false → find (is_of_stream s) (option_to_list o) ≡ None
last-none s None h = refl
last-none s (Some t) h = rw h refl

apart-at : (s : ℕ) (o p : Option TargetView) → is_apart o p ≡ true → is_for s o ≡ true → is_for s p ≡ false
apart-at s None p h is = absurd (false≢true is)
apart-at s (Some t) p h is =
    let same = eqb-true t.stream.0 s is in
    let h' = rw same at h in
    elim (cases_Bool (is_for s p)) [ inl yes' ↦ absurd (false≢true (rw yes' at h')) | inr no' ↦ no' ]

other-target : (s : ℕ) (change : TargetView → TargetView) (o : Option TargetView) → is_for s o ≡ false → if_of_stream s change o ≡ o
other-target s change None h = refl
other-target s change (Some t) h = rw h refl

-- which place has the target of the stream
abbrev pub ByPlace : Type 0 → ℕ → Option TargetView → Option TargetView → Option TargetView → Option TargetView → Option TargetView → Type 0
ByPlace P s all a b c d =
    ((is_for s a ≡ true) → (is_for s b ≡ false) → (is_for s c ≡ false) → (is_for s d ≡ false) → all ≡ a → P)
    × ((is_for s a ≡ false) → (is_for s b ≡ true) → (is_for s c ≡ false) → (is_for s d ≡ false) → all ≡ b → P)
    × ((is_for s a ≡ false) → (is_for s b ≡ false) → (is_for s c ≡ true) → (is_for s d ≡ false) → all ≡ c → P)
    × ((is_for s a ≡ false) → (is_for s b ≡ false) → (is_for s c ≡ false) → (is_for s d ≡ true) → all ≡ d → P)
    × ((is_for s a ≡ false) → (is_for s b ≡ false) → (is_for s c ≡ false) → (is_for s d ≡ false) → P)

abbrev pub find_in : ℕ → Option TargetView → Option TargetView → Option TargetView → Option TargetView → Option TargetView
find_in s a b c d = find (is_of_stream s) (option_to_list a ++ (option_to_list b ++ (option_to_list c ++ option_to_list d)))

by-place : (P : Type 0) (s : ℕ) (a b c d : Option TargetView) → are_apart (record { a = a; b = b; c = c; d = d }) ≡ true → ByPlace P s (find_in s a b c d) a b c d → P
by-place P s a b c d apart each =
    let halves = and_parts (is_apart a b && (is_apart a c && is_apart a d)) ((is_apart b c && is_apart b d) && is_apart c d) apart in
    let first = and_parts (is_apart a b) (is_apart a c && is_apart a d) halves.0 in
    let first' = and_parts (is_apart a c) (is_apart a d) first.1 in
    let second = and_parts (is_apart b c && is_apart b d) (is_apart c d) halves.1 in
    let second' = and_parts (is_apart b c) (is_apart b d) second.0 in
    elim (cases_Bool (is_for s a)) [
      | inl ya ↦ each.0 ya (apart-at s a b first.0 ya) (apart-at s a c first'.0 ya) (apart-at s a d first'.1 ya) (find-here s a (option_to_list b ++ (option_to_list c ++ option_to_list d)) ya)
      | inr na ↦ elim (cases_Bool (is_for s b)) [
        | inl yb ↦ each.1 na yb (apart-at s b c second'.0 yb) (apart-at s b d second'.1 yb) (find-past s a (option_to_list b ++ (option_to_list c ++ option_to_list d)) na ∙ find-here s b (option_to_list c ++ option_to_list d) yb)
        | inr nb ↦ elim (cases_Bool (is_for s c)) [
          | inl yc ↦ each.2 na nb yc (apart-at s c d second.1 yc) (find-past s a (option_to_list b ++ (option_to_list c ++ option_to_list d)) na ∙ (find-past s b (option_to_list c ++ option_to_list d) nb ∙ find-here s c (option_to_list d) yc))
          | inr nc ↦ elim (cases_Bool (is_for s d)) [
            | inl yd ↦ each.3 na nb nc yd (find-past s a (option_to_list b ++ (option_to_list c ++ option_to_list d)) na ∙ (find-past s b (option_to_list c ++ option_to_list d) nb ∙ (find-past s c (option_to_list d) nc ∙ find-last s d yd)))
            | inr nd ↦ each.4 na nb nc nd
          ]
        ]
      ]
    ]

none-found : (s : ℕ) (a b c d : Option TargetView) (t : TargetView) → is_for s a ≡ false → is_for s b ≡ false → is_for s c ≡ false → is_for s d ≡ false → find_in s a b c d ≡ Some t → ⊥
none-found s a b c d t na nb nc nd found =
    let gone = find-past s a (option_to_list b ++ (option_to_list c ++ option_to_list d)) na ∙ (find-past s b (option_to_list c ++ option_to_list d) nb ∙ (find-past s c (option_to_list d) nc ∙ last-none s d nd)) in
    let wrong : None ≡ Some t = sym gone ∙ found in
    absurd (cc)

module _ {B : Type 0} (s : ℕ) (change : TargetView → TargetView) (h : Option TargetView → Option B) where
  at-target : (thing : Option B) (o all : Option TargetView) → all ≡ o → is_for s o ≡ true → ((t : TargetView) → all ≡ Some t → h (Some (change t)) ≡ thing) → h (if_of_stream s change o) ≡ thing
  at-target thing None all same is here = absurd (false≢true is)
  at-target thing (Some t) all same is here = rw is (here t same)

  same-target : (o all : Option TargetView) → all ≡ o → is_for s o ≡ true → ((t : TargetView) → all ≡ Some t → h (Some (change t)) ≡ h (Some t)) → h (if_of_stream s change o) ≡ h o
  same-target None all same is here = absurd (false≢true is)
  same-target (Some t) all same is here = rw is (here t same)

  -- what is parked for the target of the stream, once this is changed, and for the others
  pub placed : (thing : Option B) (a b c d : Option TargetView) → are_apart (record { a = a; b = b; c = c; d = d }) ≡ true → ((t : TargetView) → find_in s a b c d ≡ Some t → h (Some (change t)) ≡ thing) → placed_at s (record { a = a; b = b; c = c; d = d }) thing (record { a = h a; b = h b; c = h c; d = h d }) ≡ record { a = h (if_of_stream s change a); b = h (if_of_stream s change b); c = h (if_of_stream s change c); d = h (if_of_stream s change d) }
  placed thing a b c d apart here =
      by-place _ s a b c d apart (
        (λ ya nb nc nd is. rw (ya, at-target thing a _ is ya here, other-target s change b nb, other-target s change c nc, other-target s change d nd) refl),
        (λ na yb nc nd is. rw (na, yb, at-target thing b _ is yb here, other-target s change a na, other-target s change c nc, other-target s change d nd) refl),
        (λ na nb yc nd is. rw (na, nb, yc, at-target thing c _ is yc here, other-target s change a na, other-target s change b nb, other-target s change d nd) refl),
        (λ na nb nc yd is. rw (na, nb, nc, yd, at-target thing d _ is yd here, other-target s change a na, other-target s change b nb, other-target s change c nc) refl),
        (λ na nb nc nd. rw (na, nb, nc, nd, other-target s change a na, other-target s change b nb, other-target s change c nc, other-target s change d nd) refl),
      )

  -- the same where a change of the target changes nothing of what is parked
  pub placed-same : (a b c d : Option TargetView) → are_apart (record { a = a; b = b; c = c; d = d }) ≡ true → ((t : TargetView) → find_in s a b c d ≡ Some t → h (Some (change t)) ≡ h (Some t)) → ◌≡◌ {A = Four B} (record { a = h a; b = h b; c = h c; d = h d }) (record { a = h (if_of_stream s change a); b = h (if_of_stream s change b); c = h (if_of_stream s change c); d = h (if_of_stream s change d) })
  placed-same a b c d apart here =
      by-place _ s a b c d apart (
        (λ ya nb nc nd is. rw (same-target a _ is ya here, other-target s change b nb, other-target s change c nc, other-target s change d nd) refl),
        (λ na yb nc nd is. rw (same-target b _ is yb here, other-target s change a na, other-target s change c nc, other-target s change d nd) refl),
        (λ na nb yc nd is. rw (same-target c _ is yc here, other-target s change a na, other-target s change b nb, other-target s change d nd) refl),
        (λ na nb nc yd is. rw (same-target d _ is yd here, other-target s change a na, other-target s change b nb, other-target s change c nc) refl),
        (λ na nb nc nd. rw (other-target s change a na, other-target s change b nb, other-target s change c nc, other-target s change d nd) refl),
      )

-- what is parked for the target that is found
pub parked-found : {B : Type 0} (s : ℕ) (h : Option TargetView → Option B) (a b c d : Option TargetView) (t : TargetView) → are_apart (record { a = a; b = b; c = c; d = d }) ≡ true → find_in s a b c d ≡ Some t → parked_at s (record { a = a; b = b; c = c; d = d }) (record { a = h a; b = h b; c = h c; d = h d }) ≡ h (Some t)
parked-found {B} s h a b c d t apart found =
    by-place _ s a b c d apart (
      (λ ya nb nc nd is. rw ya (ap h (sym is ∙ found))),
      (λ na yb nc nd is. rw (na, yb) (ap h (sym is ∙ found))),
      (λ na nb yc nd is. rw (na, nb, yc) (ap h (sym is ∙ found))),
      (λ na nb nc yd is. rw (na, nb, nc, yd) (ap h (sym is ∙ found))),
      (λ na nb nc nd. absurd (none-found s a b c d t na nb nc nd found)),
    )

pub has-found : (s : ℕ) (a b c d : Option TargetView) (t : TargetView) → are_apart (record { a = a; b = b; c = c; d = d }) ≡ true → find_in s a b c d ≡ Some t → has_target s (record { a = a; b = b; c = c; d = d }) ≡ true
has-found s a b c d t apart found =
    by-place _ s a b c d apart (
      (λ ya nb nc nd is. rw ya refl),
      (λ na yb nc nd is. rw (na, yb) refl),
      (λ na nb yc nd is. rw (na, nb, yc) refl),
      (λ na nb nc yd is. rw (na, nb, nc, yd) refl),
      (λ na nb nc nd. absurd (none-found s a b c d t na nb nc nd found)),
    )

-- ---- the targets as a list

mapped-one : (s : ℕ) (change : TargetView → TargetView) (o : Option TargetView) → option_to_list (if_of_stream s change o) ≡ map (λ t. if t.stream.0 == s then change t else t) (option_to_list o)
mapped-one s change None = refl
mapped-one s change (Some t) = refl

pub four-mapped : (s : ℕ) (change : TargetView → TargetView) (targets : Four TargetView) → four_list (with_target s change targets) ≡ map (λ t. if t.stream.0 == s then change t else t) (four_list targets)
four-mapped s change targets =
    let f : TargetView → TargetView = λ t. if t.stream.0 == s then change t else t in
    let a = mapped-one s change targets.a in
    let b = mapped-one s change targets.b in
    let c = mapped-one s change targets.c in
    let d = mapped-one s change targets.d in
    rw (map-append f (option_to_list targets.a) (option_to_list targets.b ++ (option_to_list targets.c ++ option_to_list targets.d)), map-append f (option_to_list targets.b) (option_to_list targets.c ++ option_to_list targets.d), map-append f (option_to_list targets.c) (option_to_list targets.d), a, b, c, d) refl

abbrev pub stream_number : TargetView → ℕ
stream_number t = t.stream.0

above-low : (low m streams : ℕ) (xs : List TargetView) → m < low → rise_from low streams xs ≡ true → list_all (λ y. nat_lt m (stream_number y)) xs ≡ true
above-low low m streams [] less h = refl
above-low low m streams (t ∷ xs) less h =
    let parts = and_parts (nat_le low t.stream.0 && nat_lt t.stream.0 streams) (rise_from (t.stream.0 + 1) streams xs) h in
    let first = and_parts (nat_le low t.stream.0) (nat_lt t.stream.0 streams) parts.0 in
    let here : nat_lt m t.stream.0 ≡ true = grind (arith, nat_tests, first.0, less) in
    let at : m < t.stream.0 + 1 = grind (arith, nat_tests, here) in
    rw (here, above-low (t.stream.0 + 1) m streams xs at parts.1) refl

pub streams-rise : (low streams : ℕ) (xs : List TargetView) → rise_from low streams xs ≡ true → rises stream_number xs ≡ true
streams-rise low streams [] h = refl
streams-rise low streams (t ∷ xs) h =
    let parts = and_parts (nat_le low t.stream.0 && nat_lt t.stream.0 streams) (rise_from (t.stream.0 + 1) streams xs) h in
    rw (above-low (t.stream.0 + 1) t.stream.0 streams xs (omega arith) parts.1, streams-rise (t.stream.0 + 1) streams xs parts.1) refl

-- a change that keeps the stream keeps that they rise
pub rise-mapped : (f : TargetView → TargetView) (low streams : ℕ) (xs : List TargetView) → ((t : TargetView) → (f t).stream.0 ≡ t.stream.0) → rise_from low streams (map f xs) ≡ rise_from low streams xs
rise-mapped f low streams [] same = refl
rise-mapped f low streams (t ∷ xs) same = rw (same t, rise-mapped f (t.stream.0 + 1) streams xs same) refl
