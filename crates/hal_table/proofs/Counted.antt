-- Which requests are in call, and how many buffers are held, where a row is changed, goes, or is put.
use Rattle.std.proofs.Common.{◌≡◌, ◌∙◌, ℕ, zero, suc, ◌⊎◌, ◌==◌, ◌+◌, ◌-◌, ◌≤◌, ◌<◌, Bool, true, false, ◌&&◌, ◌||◌, not, List, [], ◌∷◌, Option, Some, None, refl, sym, ap, inl, inr, arith, count_by, get_or, length, sum_by, map, nat_eq, nat_lt, take, if◌then◌else◌}
use Rattle.std.specs.List.{IsDistinct, list_any}
use Rattle.std.specs.Map.{keys_of, lookup, remove_entry, set_value, values_of}
use Rattle.std.specs.Option.{option_map, unwrap_or}
use Rattle.std.specs.BTreeSet.{BTreeSet, contains}
use Rattle.std.specs.Ordering.{nat_cmp}
use Rattle.std.proofs.lemmas.Bool.{and_parts, cases_Bool, eq-eqb, eqb-true, false≢true}
use Rattle.std.proofs.lemmas.Bool.Decides.{nat_tests}
use Rattle.std.proofs.lemmas.List.Sums.{sum_by-cons, sum_by_more}
use Rattle.std.proofs.lemmas.Map.Entries.{sum_by-remove_entry, sum_by-set_value}
use Rattle.hal_model.specs.declared.event.HalEvent.{HalEvent}
use Rattle.hal_model.specs.declared.event.HalEvent.TheVariants.{RequestError, RequestOk}
use Rattle.hal_rows.specs.declared.row.Row.{Row}
use Rattle.hal_rows.specs.declared.row.TargetRow.{TargetRow}
use Rattle.hal_model.specs.Rules.{frame_in}
use Rattle.hal_rows.specs.Judged.{is_holding, is_holding_for, is_row_called_from, of_found}
use Rattle.hal_rows.specs.Row.{is_row_in_call, note_row}
use Rattle.hal_table.specs.declared.held.Held.{Held}
use Rattle.hal_table.specs.Index.{IsAdded, IsCalled, IsCounted, IsTaken, are_keyed, count_in, ends_call, held_by}
use Rattle.hal_table.proofs.Entries.{any_found, found_any, found_frame, found_removed, found_set}
use Rattle.basic_lemmas.proofs.Tests.{and-false, equal-turned}

-- ---- sums

sum_found : (g : Row → ℕ) (n : ℕ) (es : List (ℕ × Row)) (r : Row) → lookup (nat_eq n) es ≡ Some r → sum_by g (values_of (remove_entry (nat_eq n) es)) + g r ≡ sum_by g (values_of es)
sum_found g n es r some = let it = sum_by-remove_entry g (nat_eq n) es in rw some at it

sum_none : (g : Row → ℕ) (n : ℕ) (es : List (ℕ × Row)) → lookup (nat_eq n) es ≡ None → sum_by g (values_of (remove_entry (nat_eq n) es)) ≡ sum_by g (values_of es)
sum_none g n es none = let it = sum_by-remove_entry g (nat_eq n) es in let it' = rw none at it in omega (arith, it')

-- one count, where what the row held is taken, and what it holds is added
recount : (a b c d s t rest : ℕ) → a ≡ s → rest + d ≡ s → b ≡ a - d → t + d ≡ s + c → b + c ≡ t
recount a b c d s t rest = λ is part took sum. omega (arith, is, part, took, sum)

pub counted_set : (n : ℕ) (es : List (ℕ × Row)) (r w : Row) (a b c : Held) → lookup (nat_eq n) es ≡ Some r → IsCounted es a → IsTaken r.targets a b → IsAdded w.targets b c → IsCounted (set_value (nat_eq n) es w) c
counted_set n es r w a b c some counted took added = (
  λ x. added.0 x ∙ recount (count_in a.buffers.entries x) (count_in b.buffers.entries x) (count_by (is_holding x) w.targets) (count_by (is_holding x) r.targets) (held_by (is_holding x) (values_of es)) (held_by (is_holding x) (values_of (set_value (nat_eq n) es w))) (held_by (is_holding x) (values_of (remove_entry (nat_eq n) es))) (counted.0 x) (sum_found (λ q. count_by (is_holding x) q.targets) n es r some) (took.0 x) (sum_by-set_value (λ (q : Row). count_by (is_holding x) q.targets) (nat_eq n) es r w some),
  λ x. added.1 x ∙ recount (count_in a.streams.entries x) (count_in b.streams.entries x) (count_by (is_holding_for x) w.targets) (count_by (is_holding_for x) r.targets) (held_by (is_holding_for x) (values_of es)) (held_by (is_holding_for x) (values_of (set_value (nat_eq n) es w))) (held_by (is_holding_for x) (values_of (remove_entry (nat_eq n) es))) (counted.1 x) (sum_found (λ q. count_by (is_holding_for x) q.targets) n es r some) (took.1 x) (sum_by-set_value (λ (q : Row). count_by (is_holding_for x) q.targets) (nat_eq n) es r w some),
)

-- the row holds what it held
unchanged : (s t d : ℕ) → t + d ≡ s + d → t ≡ s
unchanged s t d = λ sum. omega (arith, sum)

pub counted_same : (n : ℕ) (es : List (ℕ × Row)) (r w : Row) (a : Held) → lookup (nat_eq n) es ≡ Some r → w.targets ≡ r.targets → IsCounted es a → IsCounted (set_value (nat_eq n) es w) a
counted_same n es r w a some same counted = (
  λ x. counted.0 x ∙ sym (unchanged (held_by (is_holding x) (values_of es)) (held_by (is_holding x) (values_of (set_value (nat_eq n) es w))) (count_by (is_holding x) r.targets) (sum_by-set_value (λ (q : Row). count_by (is_holding x) q.targets) (nat_eq n) es r w some ∙ ap (λ z. held_by (is_holding x) (values_of es) + count_by (is_holding x) z) same)),
  λ x. counted.1 x ∙ sym (unchanged (held_by (is_holding_for x) (values_of es)) (held_by (is_holding_for x) (values_of (set_value (nat_eq n) es w))) (count_by (is_holding_for x) r.targets) (sum_by-set_value (λ (q : Row). count_by (is_holding_for x) q.targets) (nat_eq n) es r w some ∙ ap (λ z. held_by (is_holding_for x) (values_of es) + count_by (is_holding_for x) z) same)),
)

left : (a b d s rest : ℕ) → a ≡ s → rest + d ≡ s → b ≡ a - d → b ≡ rest
left a b d s rest = λ is part took. omega (arith, is, part, took)

pub counted_removed : (n : ℕ) (es : List (ℕ × Row)) (r : Row) (a b : Held) → lookup (nat_eq n) es ≡ Some r → IsCounted es a → IsTaken r.targets a b → IsCounted (remove_entry (nat_eq n) es) b
counted_removed n es r a b some counted took = (
  λ x. left (count_in a.buffers.entries x) (count_in b.buffers.entries x) (count_by (is_holding x) r.targets) (held_by (is_holding x) (values_of es)) (held_by (is_holding x) (values_of (remove_entry (nat_eq n) es))) (counted.0 x) (sum_found (λ q. count_by (is_holding x) q.targets) n es r some) (took.0 x),
  λ x. left (count_in a.streams.entries x) (count_in b.streams.entries x) (count_by (is_holding_for x) r.targets) (held_by (is_holding_for x) (values_of es)) (held_by (is_holding_for x) (values_of (remove_entry (nat_eq n) es))) (counted.1 x) (sum_found (λ q. count_by (is_holding_for x) q.targets) n es r some) (took.1 x),
)

pub counted_absent : (n : ℕ) (es : List (ℕ × Row)) (a : Held) → lookup (nat_eq n) es ≡ None → IsCounted es a → IsCounted (remove_entry (nat_eq n) es) a
counted_absent n es a none counted = (
  λ x. counted.0 x ∙ sym (sum_none (λ q. count_by (is_holding x) q.targets) n es none),
  λ x. counted.1 x ∙ sym (sum_none (λ q. count_by (is_holding_for x) q.targets) n es none),
)

swapped : (a b c s : ℕ) → b ≡ s → a ≡ b + c → a ≡ c + s
swapped a b c s = λ is more. omega (arith, is, more)

pub counted_put : (n : ℕ) (row : Row) (es : List (ℕ × Row)) (a b : Held) → IsCounted es a → IsAdded row.targets a b → IsCounted ((n, row) ∷ es) b
counted_put n row es a b counted added = (
  λ x. swapped (count_in b.buffers.entries x) (count_in a.buffers.entries x) (count_by (is_holding x) row.targets) (held_by (is_holding x) (values_of es)) (counted.0 x) (added.0 x) ∙ sym (sum_by-cons (λ (q : Row). count_by (is_holding x) q.targets) row (values_of es)),
  λ x. swapped (count_in b.streams.entries x) (count_in a.streams.entries x) (count_by (is_holding_for x) row.targets) (held_by (is_holding_for x) (values_of es)) (counted.1 x) (added.1 x) ∙ sym (sum_by-cons (λ (q : Row). count_by (is_holding_for x) q.targets) row (values_of es)),
)

-- ---- whether a buffer is held

plus : (n : ℕ) → n ≡ 0 + n
plus n = omega arith

some_more : (n : ℕ) → 0 < n → nat_lt 0 n ≡ true
some_more n h = grind (arith, nat_tests)

any_count : {X : Type 0} (p : X → Bool) (xs : List X) → list_any p xs ≡ nat_lt 0 (count_by p xs)
any_count p [] = refl
any_count p (x ∷ xs) = rw (sum_by-cons (λ z. if p z then 1 else 0) x xs) (by (p x) (any_count p xs))
  where
    by : (b : Bool) → list_any p xs ≡ nat_lt 0 (count_by p xs) → (b || list_any p xs) ≡ nat_lt 0 ((if b then 1 else 0) + count_by p xs)
    by true ih = sym (some_more (1 + count_by p xs) (omega arith))
    by false ih = ih ∙ ap (nat_lt 0) (plus (count_by p xs))

any_sum : {X : Type 0} (p : X → Bool) (f : X → ℕ) (xs : List X) → ((x : X) → p x ≡ nat_lt 0 (f x)) → list_any p xs ≡ nat_lt 0 (sum_by f xs)
any_sum p f [] reads = refl
any_sum p f (x ∷ xs) reads = rw (sum_by-cons f x xs, reads x, any_sum p f xs reads) (by (f x) (sum_by f xs))
  where
    by : (a b : ℕ) → (nat_lt 0 a || nat_lt 0 b) ≡ nat_lt 0 (a + b)
    by zero b = ap (nat_lt 0) (plus b)
    by (suc a) b = rw (some_more (suc a) (omega arith), some_more (suc a + b) (omega arith)) refl

pub held_reads : (test : TargetRow → Bool) (each : List Row) → list_any (λ r. list_any test r.targets) each ≡ nat_lt 0 (held_by test each)
held_reads test each = any_sum (λ (r : Row). list_any test r.targets) (λ (r : Row). count_by test r.targets) each (λ r. any_count test r.targets)

-- ---- requests in call

pub some_is : (m n : ℕ) → Some m ≡ Some n → m ≡ n
some_is m n h = cc

-- an event ends the call of its own request, and no other event does
own_call : (k : ℕ) (fl : Bool) (e : HalEvent) (r : Row) → (ends_call e ≡ true → frame_in e ≡ Some r.frame) → is_row_in_call (note_row k fl e r) ≡ (if ends_call e then false else is_row_in_call r)
own_call k fl (RequestOk m) r own = let hit : (m == r.frame) ≡ true = eq-eqb m r.frame (some_is m r.frame (own refl)) in rw hit refl
own_call k fl (RequestError m error) r own = let hit : (m == r.frame) ≡ true = eq-eqb m r.frame (some_is m r.frame (own refl)) in rw hit (and-false (not r.accepted))
own_call k fl _ r own = refl

one_of : (ends hit : Bool) (x : Bool) → hit ≡ false → (if ends && hit then false else x) ≡ x
one_of true hit x miss = rw miss refl
one_of false hit x miss = refl

pub called_noted : (k : ℕ) (fl : Bool) (e : HalEvent) (n : ℕ) (es : List (ℕ × Row)) (r : Row) (a b : BTreeSet ℕ) → (ends_call e ≡ true → frame_in e ≡ Some r.frame) → lookup (nat_eq n) es ≡ Some r → IsCalled es a → ((q : ℕ) → contains nat_cmp b q ≡ (if ends_call e && (n == q) then false else contains nat_cmp a q)) → IsCalled (set_value (nat_eq n) es (note_row k fl e r)) b
called_noted k fl e n es r a b own some called left' q =
    left' q ∙ (by (cases_Bool (n == q)) ∙ sym (ap (of_found is_row_in_call) (found_set n q es r (note_row k fl e r) some)))
  where
    here : (ends : Bool) → ends_call e ≡ ends → (n == q) ≡ true → (if ends && true then false else contains nat_cmp a q) ≡ is_row_in_call (note_row k fl e r)
    here true is hit = sym (own_call k fl e r own ∙ rw is refl)
    here false is hit =
        called q ∙ (ap (λ z. of_found is_row_in_call (lookup (nat_eq z) es)) (sym (eqb-true n q hit)) ∙ (ap (of_found is_row_in_call) some ∙ sym (own_call k fl e r own ∙ rw is refl)))

    by : ((n == q) ≡ true) ⊎ ((n == q) ≡ false) → (if ends_call e && (n == q) then false else contains nat_cmp a q) ≡ of_found is_row_in_call (if nat_eq n q then Some (note_row k fl e r) else lookup (nat_eq q) es)
    by (inl hit) = rw hit (here (ends_call e) refl hit)
    by (inr miss) = one_of (ends_call e) (n == q) (contains nat_cmp a q) miss ∙ rw miss (called q)

pub called_absent : (e : HalEvent) (n : ℕ) (es : List (ℕ × Row)) (a b : BTreeSet ℕ) → lookup (nat_eq n) es ≡ None → IsCalled es a → ((q : ℕ) → contains nat_cmp b q ≡ (if ends_call e && (n == q) then false else contains nat_cmp a q)) → IsCalled es b
called_absent e n es a b none called left' q = left' q ∙ by (cases_Bool (n == q))
  where
    here : (ends : Bool) → of_found is_row_in_call (lookup (nat_eq q) es) ≡ false → (if ends && true then false else contains nat_cmp a q) ≡ of_found is_row_in_call (lookup (nat_eq q) es)
    here true idle = sym idle
    here false idle = called q

    by : ((n == q) ≡ true) ⊎ ((n == q) ≡ false) → (if ends_call e && (n == q) then false else contains nat_cmp a q) ≡ of_found is_row_in_call (lookup (nat_eq q) es)
    by (inl hit) = rw hit (here (ends_call e) (ap (λ z. of_found is_row_in_call (lookup (nat_eq z) es)) (sym (eqb-true n q hit)) ∙ ap (of_found is_row_in_call) none))
    by (inr miss) = one_of (ends_call e) (n == q) (contains nat_cmp a q) miss ∙ called q

pub called_removed : (n : ℕ) (es : List (ℕ × Row)) (a b : BTreeSet ℕ) → IsDistinct nat_eq (keys_of es) → IsCalled es a → ((q : ℕ) → contains nat_cmp b q ≡ (if n == q then false else contains nat_cmp a q)) → IsCalled (remove_entry (nat_eq n) es) b
called_removed n es a b apart called left' q =
    left' q ∙ (by (cases_Bool (n == q)) ∙ sym (ap (of_found is_row_in_call) (found_removed n q es apart)))
  where
    by : ((n == q) ≡ true) ⊎ ((n == q) ≡ false) → (if n == q then false else contains nat_cmp a q) ≡ of_found is_row_in_call (if nat_eq n q then None else lookup (nat_eq q) es)
    by (inl hit) = rw hit refl
    by (inr miss) = rw miss (called q)

pub called_put : (n : ℕ) (row : Row) (es : List (ℕ × Row)) (a b : BTreeSet ℕ) → IsDistinct nat_eq (keys_of es) → is_row_in_call row ≡ true → IsCalled es a → ((q : ℕ) → contains nat_cmp b q ≡ (if n == q then true else contains nat_cmp a q)) → IsCalled ((n, row) ∷ remove_entry (nat_eq n) es) b
called_put n row es a b apart in-call called entered q = entered q ∙ by (cases_Bool (n == q))
  where
    by : ((n == q) ≡ true) ⊎ ((n == q) ≡ false) → (if n == q then true else contains nat_cmp a q) ≡ of_found is_row_in_call (lookup (nat_eq q) ((n, row) ∷ remove_entry (nat_eq n) es))
    by (inl hit) = let hit' = equal-turned q n ∙ hit in rw (hit, hit', in-call) refl
    by (inr miss) = let miss' = equal-turned q n ∙ miss in rw (miss, miss', found_removed n q es apart) (rw miss (called q))

-- ---- whether a request is in call from a number on

found_is : (p : Row → Bool) (o : Option Row) → of_found p o ≡ true → (r : Row) × (o ≡ Some r) × (p r ≡ true)
found_is p None h = absurd (false≢true h)
found_is p (Some r) h = (r, refl, h)

pub from_reads : (frame : ℕ) (es : List (ℕ × Row)) (called : BTreeSet ℕ) (result : Bool) → are_keyed es ≡ true → IsDistinct nat_eq (keys_of es) → IsCalled es called → ((n : ℕ) → contains nat_cmp called n ≡ true → frame ≤ n → result ≡ true) → (result ≡ true → (n : ℕ) × (contains nat_cmp called n ≡ true) × (frame ≤ n)) → result ≡ list_any (is_row_called_from frame) (values_of es)
from_reads frame es called true keyed apart is above found =
    let it = found refl in
    let row = found_is is_row_in_call (lookup (nat_eq it.0) es) (sym (is it.0) ∙ it.1) in
    let frame-is = found_frame it.0 es row.0 keyed row.1 in
    let high : nat_lt row.0.frame frame ≡ false = rw frame-is (not_below it.0 it.2) in
    let passes : is_row_called_from frame row.0 ≡ true = rw (row.2, high) refl in
    sym (found_any (is_row_called_from frame) it.0 es (ap (of_found (is_row_called_from frame)) row.1 ∙ passes))
  where
    not_below : (n : ℕ) → frame ≤ n → nat_lt n frame ≡ false
    not_below n h = grind (arith, nat_tests)
from_reads frame es called false keyed apart is above found =
    elim (cases_Bool (list_any (is_row_called_from frame) (values_of es))) [
      | inl some ↦ absurd (never (any_found (is_row_called_from frame) es apart some))
      | inr none ↦ sym none
    ]
  where
    not_low : (n : ℕ) → not (nat_lt n frame) ≡ true → frame ≤ n
    not_low n h = grind (arith, nat_tests)

    never : (m : ℕ) × (r : Row) × (lookup (nat_eq m) es ≡ Some r) × (is_row_called_from frame r ≡ true) → ⊥
    never it =
        let parts = and_parts (is_row_in_call it.1) (not (nat_lt it.1.frame frame)) it.3 in
        let frame-is = found_frame it.0 es it.1 keyed it.2 in
        let high : frame ≤ it.0 = not_low it.0 (rw (← frame-is) parts.1) in
        let calls : contains nat_cmp called it.0 ≡ true = is it.0 ∙ (ap (of_found is_row_in_call) it.2 ∙ parts.0) in
        false≢true (above it.0 calls high)

pub calling_reads : (each : List Row) → list_any (is_row_called_from 0) each ≡ list_any is_row_in_call each
calling_reads [] = refl
calling_reads (r ∷ each) =
    let low : nat_lt r.frame 0 ≡ false = grind (arith, nat_tests) in
    rw (low, calling_reads each) (by (is_row_in_call r))
  where
    by : (b : Bool) → ((b && true) || list_any is_row_in_call each) ≡ (b || list_any is_row_in_call each)
    by true = refl
    by false = refl

-- ---- one more target is counted, or counted no more

more : (a b c s t u : ℕ) → c ≡ b + u → b ≡ a + s → t ≡ s + u → c ≡ a + t
more a b c s t u = λ step so next. omega (arith, step, so, next)

less : (a b c s t u : ℕ) → c ≡ b - u → b ≡ a - s → t ≡ s + u → c ≡ a - t
less a b c s t u = λ step so next. omega (arith, step, so, next)

pub added_more : (ts : List TargetRow) (i : ℕ) (d : TargetRow) (a b c : Held) → i < length ts → IsAdded (take i ts) a b → ((x : ℕ) → count_in c.buffers.entries x ≡ count_in b.buffers.entries x + (if is_holding x (get_or ts i d) then 1 else 0)) → ((x : ℕ) → count_in c.streams.entries x ≡ count_in b.streams.entries x + (if is_holding_for x (get_or ts i d) then 1 else 0)) → IsAdded (take (i + 1) ts) a c
added_more ts i d a b c l so buffers streams = (
  λ x. more (count_in a.buffers.entries x) (count_in b.buffers.entries x) (count_in c.buffers.entries x) (count_by (is_holding x) (take i ts)) (count_by (is_holding x) (take (i + 1) ts)) (if is_holding x (get_or ts i d) then 1 else 0) (buffers x) (so.0 x) (sum_by_more (λ t. if is_holding x t then 1 else 0) ts i d l),
  λ x. more (count_in a.streams.entries x) (count_in b.streams.entries x) (count_in c.streams.entries x) (count_by (is_holding_for x) (take i ts)) (count_by (is_holding_for x) (take (i + 1) ts)) (if is_holding_for x (get_or ts i d) then 1 else 0) (streams x) (so.1 x) (sum_by_more (λ t. if is_holding_for x t then 1 else 0) ts i d l),
)

pub taken_more : (ts : List TargetRow) (i : ℕ) (d : TargetRow) (a b c : Held) → i < length ts → IsTaken (take i ts) a b → ((x : ℕ) → count_in c.buffers.entries x ≡ count_in b.buffers.entries x - (if is_holding x (get_or ts i d) then 1 else 0)) → ((x : ℕ) → count_in c.streams.entries x ≡ count_in b.streams.entries x - (if is_holding_for x (get_or ts i d) then 1 else 0)) → IsTaken (take (i + 1) ts) a c
taken_more ts i d a b c l so buffers streams = (
  λ x. less (count_in a.buffers.entries x) (count_in b.buffers.entries x) (count_in c.buffers.entries x) (count_by (is_holding x) (take i ts)) (count_by (is_holding x) (take (i + 1) ts)) (if is_holding x (get_or ts i d) then 1 else 0) (buffers x) (so.0 x) (sum_by_more (λ t. if is_holding x t then 1 else 0) ts i d l),
  λ x. less (count_in a.streams.entries x) (count_in b.streams.entries x) (count_in c.streams.entries x) (count_by (is_holding_for x) (take i ts)) (count_by (is_holding_for x) (take (i + 1) ts)) (if is_holding_for x (get_or ts i d) then 1 else 0) (streams x) (so.1 x) (sum_by_more (λ t. if is_holding_for x t then 1 else 0) ts i d l),
)
