-- A buffer comes back for a request once at most.
use Rattle.std.proofs.Common.{◌≡◌, ◌≤◌, ℕ, ◌==◌, ◌+◌, Bool, true, false, ◌&&◌, ◌||◌, not, List, [], ◌∷◌, Option, Some, None, refl, sym, ap, ◌∙◌, arith, inl, inr, count_by, if◌then◌else◌}
use Rattle.std.specs.List.{list_any}
use Rattle.std.proofs.lemmas.Bool.{and_parts, cases_Bool, eqb-true, false≢true, not-true, or_parts}
use Rattle.basic_lemmas.proofs.Counts.{count-one, count-over, none-counted, one-of, some-counted}
use Rattle.basic_lemmas.proofs.Lists.{all-where}
use Rattle.hal_model.specs.declared.event.HalEvent.{HalEvent}
use Rattle.hal_model.specs.declared.event.HalEvent.TheVariants.{RequestBegin, Results}
use Rattle.hal_model.specs.declared.event.HalTarget.{HalTarget}
use Rattle.hal_model.specs.declared.event.Returned.{Returned}
use Rattle.hal_model.specs.declared.rule.Rule.TheVariants.{NotAtDevice}
use Rattle.hal_model.specs.Callbacks.{astray, is_astray, is_at_device, is_of, is_some_listed, names_idle}
use Rattle.hal_model.specs.Rules.{known}
use Rattle.hal_model.specs.Words.{begins, gives, is_accepted, is_any, is_back, is_ended, is_live, is_metadata_ended, is_all_back, is_number, is_same_number, since, targets_of}
use Rattle.hal_laws.specs.Promised.{EachOnce, KeepsRules, NoneTwice, back_count, given_back}
use Rattle.hal_laws.proofs.Empty.{kept-at, kept-before, known-next}

-- ---- the buffers of one result

same-twice : (b : ℕ) (x y : Option ℕ) → is_number b x ≡ true → is_number b y ≡ true → is_same_number x y ≡ true
same-twice b (Some x) (Some y) h k = rw (eqb-true x b h, eqb-true y b k) (own b)
  where
    own : (n : ℕ) → (n == n) ≡ true
    own n = grind arith
same-twice b (Some x) None h k = absurd (false≢true k)
same-twice b None y h k = absurd (false≢true h)

found-same : (b : ℕ) (r : Returned) (earlier : List Returned) → list_any (λ q. is_number b q.buffer) earlier ≡ true → is_number b r.buffer ≡ true → list_any (λ q. is_same_number q.buffer r.buffer) earlier ≡ true
found-same b r [] h own = absurd (false≢true h)
found-same b r (q ∷ earlier) h own = elim (cases_Bool (is_number b q.buffer)) [
  | inl here ↦ rw (same-twice b q.buffer r.buffer here own) refl
  | inr other ↦ (let h' = rw other at h in by (is_same_number q.buffer r.buffer) (found-same b r earlier h' own))
]
  where
    by : (a : Bool) {c : Bool} → c ≡ true → (a || c) ≡ true
    by true h = refl
    by false h = h

none-astray : (n : ℕ) (past : List HalEvent) (earlier : List Returned) (r : Returned) (buffers : List Returned) → is_some_listed (astray n past earlier (r ∷ buffers)) ≡ false → (is_astray n past earlier r ≡ false) × (is_some_listed (astray n past (r ∷ earlier) buffers) ≡ false)
none-astray n past earlier r buffers h = elim (cases_Bool (is_astray n past earlier r)) [
  | inl here ↦ (let h' = rw here at h in absurd (false≢true (sym h')))
  | inr other ↦ (let h' = rw other at h in (other, h'))
]

-- what came before in the result doesn't come again
come-once : (n b : ℕ) (past : List HalEvent) (earlier buffers : List Returned) → is_some_listed (astray n past earlier buffers) ≡ false → list_any (λ q. is_number b q.buffer) earlier ≡ true → list_any (λ r. is_number b r.buffer) buffers ≡ false
come-once n b past earlier [] h was = refl
come-once n b past earlier (r ∷ buffers) h was =
    let parts = none-astray n past earlier r buffers h in
    let apart = (or_parts (not (is_at_device n past r)) (list_any (λ q. is_same_number q.buffer r.buffer) earlier) parts.0).1 in
    elim (cases_Bool (is_number b r.buffer)) [
      | inl here ↦ absurd (false≢true (sym apart ∙ found-same b r earlier was here))
      | inr other ↦ rw other (come-once n b past (r ∷ earlier) buffers parts.1 (rw other was))
    ]

one-given : (n b : ℕ) (past : List HalEvent) (earlier buffers : List Returned) → is_some_listed (astray n past earlier buffers) ≡ false → count_by (λ r. is_number b r.buffer) buffers ≤ 1
one-given n b past earlier [] h = omega arith
one-given n b past earlier (r ∷ buffers) h =
    let parts = none-astray n past earlier r buffers h in
    elim (cases_Bool (is_number b r.buffer)) [
      | inl here ↦ (
          let rest = none-counted (λ q. is_number b q.buffer) buffers (come-once n b past (r ∷ earlier) buffers parts.1 (rw here refl)) in
          let one = count-one (λ q. is_number b q.buffer) r buffers here in
          omega (arith, rest, one)
          )
      | inr other ↦ (
          let ih = one-given n b past (r ∷ earlier) buffers parts.1 in
          let over = count-over (λ q. is_number b q.buffer) r buffers other in
          omega (arith, ih, over)
          )
    ]

-- what comes back wasn't back
out-target : (n b : ℕ) (past : List HalEvent) (r : Returned) (targets : List HalTarget) → list_any (λ t. is_of t r && not (is_back n t.buffer past)) targets ≡ true → is_number b r.buffer ≡ true → is_back n b past ≡ false
out-target n b past r [] h own = absurd (false≢true h)
out-target n b past r (t ∷ targets) h own = elim (cases_Bool (is_of t r && not (is_back n t.buffer past))) [
  | inl here ↦ (
      let parts = and_parts (is_of t r) (not (is_back n t.buffer past)) here in
      let named = (and_parts (is_number t.stream r.stream) (is_number t.buffer r.buffer) parts.0).1 in
      let same = one-name t.buffer b r.buffer named own in
      ap (λ (i : ℕ). is_back n i past) (sym same) ∙ not-true (is_back n t.buffer past) parts.1
      )
  | inr other ↦ (let h' = rw other at h in out-target n b past r targets h' own)
]
  where
    one-name : (x y : ℕ) (o : Option ℕ) → is_number x o ≡ true → is_number y o ≡ true → x ≡ y
    one-name x y (Some z) h k = sym (eqb-true z x h) ∙ eqb-true z y k
    one-name x y None h k = absurd (false≢true h)

fresh-given : (n b : ℕ) (past : List HalEvent) (earlier buffers : List Returned) → is_some_listed (astray n past earlier buffers) ≡ false → list_any (λ r. is_number b r.buffer) buffers ≡ true → is_back n b past ≡ false
fresh-given n b past earlier [] h some = absurd (false≢true some)
fresh-given n b past earlier (r ∷ buffers) h some =
    let parts = none-astray n past earlier r buffers h in
    elim (cases_Bool (is_number b r.buffer)) [
      | inl here ↦ out-target n b past r (targets_of n past) (at-device (is_at_device n past r) (or_parts (not (is_at_device n past r)) (list_any (λ q. is_same_number q.buffer r.buffer) earlier) parts.0).0) here
      | inr other ↦ (let some' = rw other at some in fresh-given n b past (r ∷ earlier) buffers parts.1 some')
    ]
  where
    at-device : (a : Bool) → not a ≡ false → a ≡ true
    at-device true h = refl
    at-device false h = absurd (false≢true (sym h))

-- ---- all results of a request

gives-counted : (n b : ℕ) (e : HalEvent) → gives is_any n b e ≡ false → given_back n b e ≡ 0
gives-counted n b (Results m j pack buffers input) h = elim (cases_Bool (m == n)) [
  | inl here ↦ (let h' = rw here at h in rw here (none-counted (λ r. is_number b r.buffer) buffers h'))
  | inr other ↦ rw other refl
]
gives-counted n b _ h = refl

counted-gives : (n b : ℕ) (e : HalEvent) → gives is_any n b e ≡ true → 1 ≤ given_back n b e
counted-gives n b (Results m j pack buffers input) h =
    let parts = and_parts (m == n) (list_any (λ r. is_number b r.buffer) buffers) h in
    rw parts.0 (some-counted (λ r. is_number b r.buffer) buffers parts.1)
counted-gives n b _ h = absurd (false≢true h)

none-back : (n b : ℕ) (past : List HalEvent) → is_back n b past ≡ false → back_count n b past ≡ 0
none-back n b [] h = refl
none-back n b (e ∷ past) h = elim (cases_Bool (begins n e)) [
  | inl here ↦ rw here refl
  | inr other ↦ (
      let h' = rw other at h in
      let parts = or_parts (gives is_any n b e) (list_any (gives is_any n b) (since n past)) h' in
      let ih = none-back n b past parts.1 in
      rw (other, gives-counted n b e parts.0) (omega (arith, ih))
      )
]

some-back : (n b : ℕ) (past : List HalEvent) → is_back n b past ≡ true → 1 ≤ back_count n b past
some-back n b [] h = absurd (false≢true h)
some-back n b (e ∷ past) h = elim (cases_Bool (begins n e)) [
  | inl here ↦ (let h' = rw here at h in absurd (false≢true h'))
  | inr other ↦ (
      let h' = rw other at h in
      rw other (elim (cases_Bool (gives is_any n b e)) [
        | inl gave ↦ (let one = counted-gives n b e gave in omega (arith, one))
        | inr not' ↦ (let h'' = rw not' at h' in let ih = some-back n b past h'' in omega (arith, ih))
      ])
      )
]

-- one more event
once-more : (k n b : ℕ) (e : HalEvent) (log : List HalEvent) → KeepsRules k (e ∷ log) → names_idle k e (known k log) ≡ false → back_count n b (known k log) ≤ 1 → back_count n b (e ∷ known k log) ≤ 1
once-more k n b (Results m j pack buffers input) log keeps named before = elim (cases_Bool (m == n)) [
  | inl here ↦ (
      let live = live-of (is_live k m (known k log)) named in
      let kept = kept-at k (Results m j pack buffers input) log 34 NotAtDevice keeps refl in
      let none : is_some_listed (astray m (known k log) [] buffers) ≡ false = rw live at kept in
      let none' = rw (eqb-true m n here) at none in
      let one = one-given n b (known k log) [] buffers none' in
      rw here (elim (cases_Bool (list_any (λ r. is_number b r.buffer) buffers)) [
        | inl some ↦ (let old = none-back n b (known k log) (fresh-given n b (known k log) [] buffers none' some) in omega (arith, one, old))
        | inr no' ↦ (let nothing = none-counted (λ r. is_number b r.buffer) buffers no' in omega (arith, nothing, before))
      ])
      )
  | inr other ↦ rw other (omega (arith, before))
]
  where
    live-of : (a : Bool) → not a ≡ false → a ≡ true
    live-of true h = refl
    live-of false h = absurd (false≢true (sym h))
once-more k n b (RequestBegin m same ts c d) log keeps named before = begun (m == n) (back_count n b (known k log)) before
  where
    begun : (x : Bool) (count : ℕ) → count ≤ 1 → (if x then 0 else 0 + count) ≤ 1
    begun true count few = omega arith
    begun false count few = omega (arith, few)
once-more k n b e log keeps named before = omega (arith, before)

pub none_twice : (k : ℕ) (log : List HalEvent) → NoneTwice k log
none_twice k [] keeps n b = omega arith
none_twice k (e ∷ log) keeps n b =
    let before = none_twice k log (kept-before k e log keeps) n b in
    known-next (λ past. back_count n b past ≤ 1) k e log (omega arith) before (λ other named once. once-more k n b e log keeps named before)

pub each_once : (k : ℕ) (log : List HalEvent) → EachOnce k log
each_once k log keeps n accepted ended =
    let past = known k log in
    let back = (and_parts (is_metadata_ended k n past) (is_all_back n past) (ends (is_accepted n past) (is_ended k n past) accepted ended)).1 in
    all-where (λ t. is_back n t.buffer past) (λ t. back_count n t.buffer past == 1) (targets_of n past) (λ t is. one-of (back_count n t.buffer past) (some-back n t.buffer past is) (none_twice k log keeps n t.buffer)) back
  where
    ends : (a b : Bool) → a ≡ true → (a && not b) ≡ false → b ≡ true
    ends a true h i = refl
    ends true false h i = absurd (false≢true (sym i))
    ends false false h i = absurd (false≢true h)
