-- What later requests brought back is read of the top and of the rows in call.
use Rattle.std.proofs.Common.{◌≡◌, ℕ, ◌==◌, ◌+◌, Bool, true, false, ◌&&◌, ◌||◌, not, List, [], ◌∷◌, Option, Some, None, refl, sym, ap, ◌∙◌, filter, inl, inr, arith, nat_lt, suc, if◌then◌else◌}
use Rattle.std.specs.List.{list_all, list_any}
use Rattle.std.specs.Option.{option_map}
use Rattle.std.proofs.lemmas.Bool.{and_parts, and_from, cases_Bool, eq-eqb, eqb-true, false≢true, not-true, not-false}
use Rattle.std.proofs.lemmas.Bool.Decides.{nat_tests}
use Rattle.basic_lemmas.proofs.Lists.{any-at, any-or}
use Rattle.basic_lemmas.proofs.Tests.{eq-turned, or-false}
use Rattle.hal_model.specs.declared.event.HalEvent.{HalEvent}
use Rattle.hal_model.specs.declared.event.HalEvent.TheVariants.{RequestBegin, RequestOk, Results}
use Rattle.hal_model.specs.Words.{accepts, before, begins, frames, had_later, has_later, is_begun, is_done, is_flushing, is_in_call, is_later_with, is_live, is_refused, stands}
use Rattle.hal_rows.specs.Judged.{of_found}
use Rattle.hal_rows.specs.Laws.{IsHeard}
use Rattle.hal_rows.specs.declared.row.Row.{Row}
use Rattle.hal_rows.specs.Row.{begun_count, note_row, rank_of, row_for, row_of, rows}
use Rattle.hal_rows.specs.State.{if_accepted, is_later_by, is_later_in_call, raised, settled, top}
use Rattle.hal_rows.proofs.Begun.{row-kept}
use Rattle.hal_rows.proofs.Found.{any-rows, frames-have, row-found, row-none}
use Rattle.hal_rows.proofs.Noted.{row_noted}
use Rattle.hal_rows.proofs.Ranks.{never, rank-below, raised-more, ranked}
use Rattle.hal_rows.proofs.Rows.{frames-begun}
use Rattle.hal_rows.proofs.Stays.{accepted-once, called-live, not-both}

-- the event gives back something of request n
abbrev pub is_given : ℕ → HalEvent → Bool
is_given n (Results m _ _ _ _) = m == n
is_given n _ = false

-- a test of a request that is one of its row; it stays passed, and only a result changes it
pub record IsOfRow (k : ℕ) (test : ℕ → List HalEvent → Bool) (t : Row → Bool) : Type 0 where
  pub reads : (m : ℕ) (past : List HalEvent) → is_begun m past ≡ true → test m past ≡ t (row_of k past m)
  pub grows : (f : Bool) (e : HalEvent) (r : Row) → t r ≡ true → t (note_row k f e r) ≡ true
  pub rests : (f : Bool) (e : HalEvent) (r : Row) → is_given r.frame e ≡ false → t (note_row k f e r) ≡ t r

-- ---- lists

any-within : (b p q : ℕ → Bool) (xs : List ℕ) → list_all b xs ≡ true → ((m : ℕ) → b m ≡ true → p m ≡ q m) → list_any p xs ≡ list_any q xs
any-within b p q [] all same = refl
any-within b p q (x ∷ xs) all same =
    let parts = and_parts (b x) (list_all b xs) all in
    rw (same x parts.0, any-within b p q xs parts.1 same) refl

any-none : (p : ℕ → Bool) (xs : List ℕ) → ((m : ℕ) → p m ≡ false) → list_any p xs ≡ false
any-none p [] none = refl
any-none p (x ∷ xs) none = rw (none x) (any-none p xs none)

-- all but one are the same
any-but : (b p q : ℕ → Bool) (j : ℕ) (xs : List ℕ) → list_all b xs ≡ true → ((m : ℕ) → b m ≡ true → (m == j) ≡ false → q m ≡ p m) → (p j ≡ true → q j ≡ true) → (list_any q xs || q j) ≡ (list_any p xs || q j)
any-but b p q j [] all same grows = refl
any-but b p q j (x ∷ xs) all same grows =
    let parts = and_parts (b x) (list_all b xs) all in
    let ih = any-but b p q j xs parts.1 same grows in
    elim (cases_Bool (x == j)) [
      | inl here ↦ rw (eqb-true x j here) (one (q j) (p j) (list_any q xs) (list_any p xs) grows ih)
      | inr other ↦ rw (same x parts.0 other) (behind (p x) (list_any q xs) (list_any p xs) (q j) ih)
    ]
  where
    one : (a c x y : Bool) → (c ≡ true → a ≡ true) → (x || a) ≡ (y || a) → ((a || x) || a) ≡ ((c || y) || a)
    one true true x y g h = refl
    one true false x true g h = refl
    one true false x false g h = refl
    one false true x y g h = absurd (false≢true (g refl))
    one false false x y g h = h

    behind : (c x y a : Bool) → (x || a) ≡ (y || a) → ((c || x) || a) ≡ ((c || y) || a)
    behind true x y a h = refl
    behind false x y a h = h

any-one : (b p q : ℕ → Bool) (j : ℕ) (xs : List ℕ) → list_all b xs ≡ true → ((m : ℕ) → b m ≡ true → (m == j) ≡ false → q m ≡ p m) → (p j ≡ true → q j ≡ true) → list_any (λ m. m == j) xs ≡ true → list_any q xs ≡ (list_any p xs || q j)
any-one b p q j xs all same grows has = has-it (list_any q xs) (q j) (λ h. any-at q xs j has h) ∙ any-but b p q j xs all same grows
  where
    has-it : (x a : Bool) → (a ≡ true → x ≡ true) → x ≡ (x || a)
    has-it true a h = refl
    has-it false true h = h refl
    has-it false false h = refl

-- one of them apart
any-apart : (p : ℕ → Bool) (j : ℕ) (xs : List ℕ) → list_any p xs ≡ (list_any p (filter (λ m. not (m == j)) xs) || (list_any (λ m. m == j) xs && p j))
any-apart p j [] = refl
any-apart p j (x ∷ xs) =
    elim (cases_Bool (x == j)) [
      | inl here ↦ rw here (rw (eqb-true x j here, any-apart p j xs) (one (p j) (list_any p (filter (λ m. not (m == j)) xs)) (list_any (λ m. m == j) xs)))
      | inr other ↦ rw (other, any-apart p j xs) (behind (p x) (list_any p (filter (λ m. not (m == j)) xs)) (list_any (λ m. m == j) xs && p j))
    ]
  where
    one : (a x y : Bool) → (a || (x || (y && a))) ≡ (x || a)
    one true true y = refl
    one true false y = refl
    one false true y = refl
    one false false true = refl
    one false false false = refl

    behind : (a x y : Bool) → (a || (x || y)) ≡ ((a || x) || y)
    behind true x y = refl
    behind false x y = refl

-- ---- the top

raised-reads : (x : ℕ) (t : Row → Bool) (o : Option Row) (n : ℕ) → nat_lt (suc x) (raised t o n) ≡ (nat_lt (suc x) n || of_found (λ r. t r && nat_lt x r.rank) o)
raised-reads x t None n = sym (or-false (nat_lt (suc x) n))
raised-reads x t (Some r) n =
    elim (cases_Bool (t r)) [
      | inl passes ↦ rw passes (raised-more x r.rank n)
      | inr other ↦ rw other (sym (or-false (nat_lt (suc x) n)))
    ]

-- a row that is settled was begun before

abbrev is_ranked_below : ℕ → Option Row → Bool
is_ranked_below c (Some r) = nat_lt r.rank c
is_ranked_below c None = true

row-below : (k n : ℕ) (past : List HalEvent) → is_ranked_below (begun_count past) (row_for n (rows k past)) ≡ true
row-below k n past =
    elim (cases_Bool (is_live k n past)) [
      | inl live ↦ rw (row-found k n past live) (rank-below n past (and_parts (is_begun n past) _ live).0)
      | inr gone ↦ rw (row-none k n past gone) refl
    ]

noted-below : (k : ℕ) (f : Bool) (e : HalEvent) (c : ℕ) (o : Option Row) → is_ranked_below c o ≡ true → is_ranked_below c (option_map (note_row k f e) o) ≡ true
noted-below k f e c (Some r) h = h
noted-below k f e c None h = refl

accepted-below : (c : ℕ) (o : Option Row) → is_ranked_below c o ≡ true → is_ranked_below c (if_accepted o) ≡ true
accepted-below c None h = refl
accepted-below c (Some r) h = by r.accepted
  where
    by : (a : Bool) → is_ranked_below c (if a then Some r else None) ≡ true
    by true = h
    by false = refl

settled-below : (k : ℕ) (f : Bool) (e : HalEvent) (past : List HalEvent) → is_ranked_below (begun_count past) (settled k f e (rows k past)) ≡ true
settled-below k f (RequestBegin n same ts a b) past = row-below k n past
settled-below k f (RequestOk n) past = noted-below k f (RequestOk n) (begun_count past) (row_for n (rows k past)) (row-below k n past)
settled-below k f (Results n j pack buffers input) past =
    accepted-below (begun_count past) (option_map (note_row k f (Results n j pack buffers input)) (row_for n (rows k past)))
    (noted-below k f (Results n j pack buffers input) (begun_count past) (row_for n (rows k past)) (row-below k n past))
settled-below k f _ past = refl

raised-below : (c : ℕ) (t : Row → Bool) (o : Option Row) (n : ℕ) → is_ranked_below c o ≡ true → nat_lt c n ≡ false → nat_lt c (raised t o n) ≡ false
raised-below c t None n h low = low
raised-below c t (Some r) n h low = by (t r) (nat_lt r.rank n)
  where
    by : (a b : Bool) → nat_lt c (if a then (if b then n else r.rank + 1) else n) ≡ false
    by true true = low
    by true false = grind (arith, nat_tests, h)
    by false b = low

-- a top counts no more than was begun
pub top-next : (t : Row → Bool) (k : ℕ) (e : HalEvent) (past : List HalEvent) → nat_lt (begun_count past) (top t k past) ≡ false → nat_lt (begun_count past) (top t k (e ∷ past)) ≡ false
top-next t k e past low = raised-below (begun_count past) t (settled k (is_flushing past) e (rows k past)) (top t k past) (settled-below k (is_flushing past) e past) low

pub top-below : (t : Row → Bool) (k : ℕ) (past : List HalEvent) → nat_lt (begun_count past) (top t k past) ≡ false
top-below t k [] = grind (arith, nat_tests)
top-below t k (RequestBegin n same ts a b ∷ past) = more (begun_count past) (top t k (RequestBegin n same ts a b ∷ past)) (top-next t k (RequestBegin n same ts a b) past (top-below t k past))
  where
    more : (c x : ℕ) → nat_lt c x ≡ false → nat_lt (suc c) x ≡ false
    more c x h = grind (arith, nat_tests, h)
top-below t k (e ∷ past) = top-next t k e past (top-below t k past)

-- ---- later requests that were accepted, or whose number was begun anew

abbrev pub is_settled_later : (ℕ → List HalEvent → Bool) → ℕ → List HalEvent → ℕ → Bool
is_settled_later test n past m = stands m (accepts m) past && (stands n (begins m) past && test m past)

-- those in call
abbrev pub is_called_later : (ℕ → List HalEvent → Bool) → ℕ → List HalEvent → ℕ → Bool
is_called_later test n past m = is_in_call m past && (stands n (begins m) past && test m past)

test-rests : (k : ℕ) (test : ℕ → List HalEvent → Bool) (t : Row → Bool) → IsOfRow k test t → (m : ℕ) (e : HalEvent) (past : List HalEvent) → begins m e ≡ false → is_begun m past ≡ true → is_given m e ≡ false → test m (e ∷ past) ≡ test m past
test-rests k test t own m e past other begun none =
    own.reads m (e ∷ past) (still (begins m e) begun) ∙ (ap t (row_noted k m e past other begun) ∙ (own.rests (is_flushing past) e (row_of k past m) none ∙ sym (own.reads m past begun)))
  where
    still : (b : Bool) → is_begun m past ≡ true → (b || is_begun m past) ≡ true
    still true h = refl
    still false h = h

test-grows : (k : ℕ) (test : ℕ → List HalEvent → Bool) (t : Row → Bool) → IsOfRow k test t → (m : ℕ) (e : HalEvent) (past : List HalEvent) → begins m e ≡ false → is_begun m past ≡ true → test m past ≡ true → test m (e ∷ past) ≡ true
test-grows k test t own m e past other begun h =
    own.reads m (e ∷ past) (still (begins m e) begun) ∙ (ap t (row_noted k m e past other begun) ∙ own.grows (is_flushing past) e (row_of k past m) (sym (own.reads m past begun) ∙ h))
  where
    still : (b : Bool) → is_begun m past ≡ true → (b || is_begun m past) ≡ true
    still true h = refl
    still false h = h

-- an event that accepts, gives and begins nothing
rest-same : (k : ℕ) (test : ℕ → List HalEvent → Bool) (t : Row → Bool) → IsOfRow k test t → (n : ℕ) (e : HalEvent) (past : List HalEvent) → ((m : ℕ) → begins m e ≡ false) → ((m : ℕ) → accepts m e ≡ false) → ((m : ℕ) → is_given m e ≡ false) → list_any (is_settled_later test n (e ∷ past)) (frames past) ≡ list_any (is_settled_later test n past) (frames past)
rest-same k test t own n e past other free none =
    any-within (λ m. is_begun m past) (is_settled_later test n (e ∷ past)) (is_settled_later test n past) (frames past) (frames-begun past) same
  where
    same : (m : ℕ) → is_begun m past ≡ true → is_settled_later test n (e ∷ past) m ≡ is_settled_later test n past m
    same m begun = rw (other m, other n, free m, test-rests k test t own m e past (other m) begun (none m)) (again (begins m e) (other m))
      where
        again : (b : Bool) → b ≡ false → (stands m (accepts m) past && ((b || stands n (begins m) past) && test m past)) ≡ (stands m (accepts m) past && (stands n (begins m) past && test m past))
        again b h = rw h refl

pub live-begun : (k m : ℕ) (past : List HalEvent) → is_live k m past ≡ true → is_begun m past ≡ true
live-begun k m past live = (and_parts (is_begun m past) (not (is_refused m past) && not (is_done k m past)) live).0

pub live-sound : (k m : ℕ) (past : List HalEvent) → is_live k m past ≡ true → is_refused m past ≡ false
live-sound k m past live = not-true (is_refused m past) (and_parts (not (is_refused m past)) (not (is_done k m past)) (and_parts (is_begun m past) (not (is_refused m past) && not (is_done k m past)) live).1).0

-- an event of request j alone, which is live: of the others all stays
named-same : (k : ℕ) (test : ℕ → List HalEvent → Bool) (t : Row → Bool) → IsOfRow k test t → (n j : ℕ) (e : HalEvent) (past : List HalEvent) → ((m : ℕ) → begins m e ≡ false) → ((m : ℕ) → (m == j) ≡ false → accepts m e ≡ false) → ((m : ℕ) → (m == j) ≡ false → is_given m e ≡ false) → is_begun j past ≡ true → list_any (is_settled_later test n (e ∷ past)) (frames past) ≡ (list_any (is_settled_later test n past) (frames past) || is_settled_later test n (e ∷ past) j)
named-same k test t own n j e past other free none begun =
    any-one (λ m. is_begun m past) (is_settled_later test n past) (is_settled_later test n (e ∷ past)) j (frames past) (frames-begun past) same grows (frames-have j past ∙ begun)
  where
    same : (m : ℕ) → is_begun m past ≡ true → (m == j) ≡ false → is_settled_later test n (e ∷ past) m ≡ is_settled_later test n past m
    same m begun far = rw (other m, other n, free m far, test-rests k test t own m e past (other m) begun (none m far)) (again (begins m e) (other m))
      where
        again : (b : Bool) → b ≡ false → (stands m (accepts m) past && ((b || stands n (begins m) past) && test m past)) ≡ (stands m (accepts m) past && (stands n (begins m) past && test m past))
        again b h = rw h refl

    either : (a b : Bool) → b ≡ true → (a || b) ≡ true
    either true b h = refl
    either false b h = h

    grows : is_settled_later test n past j ≡ true → is_settled_later test n (e ∷ past) j ≡ true
    grows h =
        let parts = and_parts (stands j (accepts j) past) (stands n (begins j) past && test j past) h in
        let both = and_parts (stands n (begins j) past) (test j past) parts.1 in
        let accepted : stands j (accepts j) (e ∷ past) ≡ true = rw (other j) (either (accepts j e) (stands j (accepts j) past) parts.0) in
        let later : stands n (begins j) (e ∷ past) ≡ true = rw (other n) (either (begins j e) (stands n (begins j) past) both.0) in
        and_from _ _ accepted (and_from _ _ later (test-grows k test t own j e past (other j) begun both.1))

found-by : (a : Bool) (r : Row) (t : Row → Bool) (x c : ℕ) → r.rank ≡ c → (a && (nat_lt x c && t r)) ≡ of_found (λ q. t q && nat_lt x q.rank) (if a then Some r else None)
found-by true r t x c same = turned (nat_lt x c) (t r) ∙ ap (λ z. t r && nat_lt x z) (sym same)
  where
    turned : (a b : Bool) → (a && b) ≡ (b && a)
    turned true true = refl
    turned true false = refl
    turned false true = refl
    turned false false = refl
found-by false r t x c same = refl

-- what of it is read of its row after the event
settled-reads : (k : ℕ) (test : ℕ → List HalEvent → Bool) (t : Row → Bool) → IsOfRow k test t → (n j : ℕ) (e : HalEvent) (past : List HalEvent) → ((m : ℕ) → begins m e ≡ false) → is_begun n past ≡ true → is_begun j past ≡ true → is_settled_later test n (e ∷ past) j ≡ of_found (λ r. t r && nat_lt (rank_of n past) r.rank) (if_accepted (Some (row_of k (e ∷ past) j)))
settled-reads k test t own n j e past other begun begun-j =
    let reads = own.reads j (e ∷ past) (still (begins j e) begun-j) in
    let later : stands n (begins j) (e ∷ past) ≡ nat_lt (rank_of n past) (rank_of j past) = rw (other n) (drop-it (begins j e) (other j) ∙ ranked n j past begun begun-j) in
    rw (later, reads) (found-by (stands j (accepts j) (e ∷ past)) (row_of k (e ∷ past) j) t (rank_of n past) (rank_of j past) (rank-same (begins j e) (other j)))
  where
    still : (b : Bool) → is_begun j past ≡ true → (b || is_begun j past) ≡ true
    still true h = refl
    still false h = h

    drop-it : (b : Bool) → b ≡ false → (b || stands n (begins j) past) ≡ stands n (begins j) past
    drop-it b h = rw h refl

    rank-same : (b : Bool) → b ≡ false → begun_count (if b then past else before (begins j) past) ≡ rank_of j past
    rank-same b h = rw h refl

-- the row that is settled by an event of a live request
settled-row : (k j : ℕ) (e : HalEvent) (past : List HalEvent) → begins j e ≡ false → is_live k j past ≡ true → option_map (note_row k (is_flushing past) e) (row_for j (rows k past)) ≡ Some (row_of k (e ∷ past) j)
settled-row k j e past other live = rw (row-found k j past live) (ap (λ r. Some r) (sym (row_noted k j e past other (live-begun k j past live))))

joined : (had now one low found : Bool) → (had || now) ≡ low → one ≡ found → (had || (now || one)) ≡ (low || found)
joined had now one low found h g = rw (← h, g) (by had now found)
  where
    by : (a b c : Bool) → (a || (b || c)) ≡ ((a || b) || c)
    by true b c = refl
    by false b c = refl

accepted-now : (j : ℕ) (past : List HalEvent) → stands j (accepts j) (RequestOk j ∷ past) ≡ true
accepted-now j past = rw (eq-eqb j j refl) refl

-- a number is begun anew, or for the first time
anew : (k : ℕ) (test : ℕ → List HalEvent → Bool) (t : Row → Bool) → IsOfRow k test t → (n j : ℕ) (past : List HalEvent) → IsHeard k past → is_begun n past ≡ true → is_later_with test n past j ≡ ((is_begun j past && is_settled_later test n past j) || of_found (λ r. t r && nat_lt (rank_of n past) r.rank) (row_for j (rows k past)))
anew k test t own n j past heard begun =
    elim (cases_Bool (is_begun j past)) [
      | inr fresh ↦ (
          let gone : is_live k j past ≡ false = absent (is_begun j past) _ fresh in
          let none : stands n (begins j) past ≡ false = never n j past fresh in
          rw (row-none k j past gone, fresh) (first (stands n (begins j) past) (not (is_refused j past)) (test j past) none)
          )
      | inl was ↦ elim (cases_Bool (is_live k j past)) [
        | inl live ↦ (
            rw (row-found k j past live, was)
            (whole (stands j (accepts j) past) (stands n (begins j) past) (is_refused j past) (test j past) (t (row_of k past j)) (nat_lt (rank_of n past) (rank_of j past)) (live-sound k j past live) (ranked n j past begun was) (own.reads j past was))
            )
        | inr gone ↦ rw (row-none k j past gone, was) (ended (stands n (begins j) past) (test j past) (is_refused j past) (stands j (accepts j) past) (λ a. not-both k j past heard a) (λ r. accepted-gone r gone was))
      ]
    ]
  where
    absent : (b c : Bool) → b ≡ false → (b && c) ≡ false
    absent false c h = refl
    absent true c h = absurd (false≢true (sym h))

    first : (s r x : Bool) → s ≡ false → ((s && r) && x) ≡ false
    first false r x h = refl
    first true r x h = absurd (false≢true (sym h))

    whole : (a s r x y c : Bool) → r ≡ false → s ≡ c → x ≡ y → ((s && not r) && x) ≡ ((a && (s && x)) || (y && c))
    whole a s r x y c h i j = rw (h, i, j) (both a c y)
      where
        both : (a s x : Bool) → ((s && true) && x) ≡ ((a && (s && x)) || (x && s))
        both true true true = refl
        both true true false = refl
        both true false true = refl
        both true false false = refl
        both false true true = refl
        both false true false = refl
        both false false true = refl
        both false false false = refl

    ended : (s x r a : Bool) → (a ≡ true → r ≡ false) → (r ≡ false → a ≡ true) → ((s && not r) && x) ≡ ((a && (s && x)) || false)
    ended s x true true f g = absurd (false≢true (sym (f refl)))
    ended true true false true f g = refl
    ended true false false true f g = refl
    ended false x false true f g = refl
    ended true x true false f g = refl
    ended false x true false f g = refl
    ended s x false false f g = absurd (false≢true (g refl))

    accepted-gone : is_refused j past ≡ false → is_live k j past ≡ false → is_begun j past ≡ true → stands j (accepts j) past ≡ true
    accepted-gone sound gone was = by (is_done k j past) refl
      where
        by : (d : Bool) → is_done k j past ≡ d → stands j (accepts j) past ≡ true
        by true done = (and_parts (is_begun j past) (stands j (accepts j) past) (accepted-once k j past done)).1
        by false open' = absurd (false≢true (sym (gone-live (is_begun j past) (is_refused j past) (is_done k j past) was sound open' ∙ gone)))
          where
            gone-live : (a b c : Bool) → a ≡ true → b ≡ false → c ≡ false → true ≡ (a && (not b && not c))
            gone-live true false false h i l = refl
            gone-live false b c h i l = absurd (false≢true h)
            gone-live true true c h i l = absurd (false≢true (sym i))
            gone-live true false true h i l = absurd (false≢true (sym l))

pub settled-later : (k : ℕ) (test : ℕ → List HalEvent → Bool) (t : Row → Bool) → IsOfRow k test t → (n : ℕ) (past : List HalEvent) → IsHeard k past → is_begun n past ≡ true → (had_later test n past || list_any (is_settled_later test n past) (frames past)) ≡ nat_lt (suc (rank_of n past)) (top t k past)
settled-later k test t own n [] heard begun = absurd (false≢true begun)
settled-later k test t own n (RequestOk j ∷ past) heard begun =
    let called = not-false (is_in_call j past) heard.0 in
    let live = called-live k j past called in
    let begun-j = live-begun k j past live in
    let row = settled-row k j (RequestOk j) past refl live in
    let one = settled-reads k test t own n j (RequestOk j) past (λ m. refl) begun begun-j in
    let accepted = accepted-now j past in
    let one' : is_settled_later test n (RequestOk j ∷ past) j ≡ of_found (λ r. t r && nat_lt (rank_of n past) r.rank) (Some (row_of k (RequestOk j ∷ past) j)) = one ∙ ap (of_found (λ r. t r && nat_lt (rank_of n past) r.rank)) (kept-if (row_of k (RequestOk j ∷ past) j) accepted) in
    rw (named-same k test t own n j (RequestOk j) past (λ m. refl) (λ m far. eq-turned j m far) (λ m far. refl) begun-j, raised-reads (rank_of n past) t (option_map (note_row k (is_flushing past) (RequestOk j)) (row_for j (rows k past))) (top t k past), row)
    (joined (had_later test n past) (list_any (is_settled_later test n past) (frames past)) (is_settled_later test n (RequestOk j ∷ past) j) (nat_lt (suc (rank_of n past)) (top t k past)) _ (settled-later k test t own n past heard.1 begun) one')
  where
    kept-if : (r : Row) → r.accepted ≡ true → if_accepted (Some r) ≡ Some r
    kept-if r h = rw h refl
settled-later k test t own n (Results j i pack buffers input ∷ past) heard begun =
    let live = not-false (is_live k j past) (left-false (not (is_live k j past)) heard.0) in
    let begun-j = live-begun k j past live in
    let row = settled-row k j (Results j i pack buffers input) past refl live in
    let one = settled-reads k test t own n j (Results j i pack buffers input) past (λ m. refl) begun begun-j in
    rw (named-same k test t own n j (Results j i pack buffers input) past (λ m. refl) (λ m far. refl) (λ m far. eq-turned j m far) begun-j, raised-reads (rank_of n past) t (if_accepted (option_map (note_row k (is_flushing past) (Results j i pack buffers input)) (row_for j (rows k past)))) (top t k past), row)
    (joined (had_later test n past) (list_any (is_settled_later test n past) (frames past)) (is_settled_later test n (Results j i pack buffers input ∷ past) j) (nat_lt (suc (rank_of n past)) (top t k past)) _ (settled-later k test t own n past heard.1 begun) one)
  where
    left-false : (a : Bool) → (a || false) ≡ false → a ≡ false
    left-false false h = refl
    left-false true h = absurd (false≢true (sym h))
settled-later k test t own n (RequestBegin j same ts a b ∷ past) heard begun = by (j == n) refl (λ was. settled-later k test t own n past heard.1 was)
  where
    low : (c x : ℕ) → nat_lt c x ≡ false → nat_lt (suc c) x ≡ false
    low c x h = grind (arith, nat_tests, h)

    rank-here : (j == n) ≡ true → rank_of n (RequestBegin j same ts a b ∷ past) ≡ begun_count past
    rank-here here = rw here refl

    none-later : (j == n) ≡ true → (m : ℕ) → is_settled_later test n (RequestBegin j same ts a b ∷ past) m ≡ false
    none-later here m = rw here (nothing (stands m (accepts m) (RequestBegin j same ts a b ∷ past)))
      where
        nothing : (c : Bool) → (c && false) ≡ false
        nothing true = refl
        nothing false = refl

    had-none : (j == n) ≡ true → had_later test n (RequestBegin j same ts a b ∷ past) ≡ false
    had-none here = rw here refl

    no-self : is_settled_later test n (RequestBegin j same ts a b ∷ past) j ≡ false
    no-self = rw (eq-eqb j j refl) refl

    others : (j == n) ≡ false → list_any (is_settled_later test n (RequestBegin j same ts a b ∷ past)) (filter (λ m. not (m == j)) (frames past)) ≡ list_any (is_settled_later test n past) (filter (λ m. not (m == j)) (frames past))
    others far = kept-any (frames past) (frames-begun past)
      where
        one : (m : ℕ) → is_begun m past ≡ true → (m == j) ≡ false → is_settled_later test n (RequestBegin j same ts a b ∷ past) m ≡ is_settled_later test n past m
        one m was other =
            let turned = eq-turned j m other in
            let still : is_begun m (RequestBegin j same ts a b ∷ past) ≡ true = rw turned was in
            let tests = own.reads m (RequestBegin j same ts a b ∷ past) still ∙ (ap t (row-kept k j m same ts a b past turned) ∙ sym (own.reads m past was)) in
            rw (far, turned, tests) refl

        kept-any : (ms : List ℕ) → list_all (λ m. is_begun m past) ms ≡ true → list_any (is_settled_later test n (RequestBegin j same ts a b ∷ past)) (filter (λ m. not (m == j)) ms) ≡ list_any (is_settled_later test n past) (filter (λ m. not (m == j)) ms)
        kept-any [] all = refl
        kept-any (m ∷ ms) all =
            let parts = and_parts (is_begun m past) (list_all (λ x. is_begun x past) ms) all in
            elim (cases_Bool (m == j)) [
              | inl here ↦ rw here (kept-any ms parts.1)
              | inr other ↦ rw (other, one m parts.0 other, kept-any ms parts.1) refl
            ]

    last : (l h x a f low : Bool) → l ≡ (a || f) → (h || (x || a)) ≡ low → ((l || h) || (false || x)) ≡ (low || f)
    last l h x a f low e g = rw (e, ← g) (by' a f h x)
      where
        by' : (a f h x : Bool) → (((a || f) || h) || x) ≡ ((h || (x || a)) || f)
        by' true f true x = refl
        by' true f false true = refl
        by' true f false false = refl
        by' false true true x = refl
        by' false true false true = refl
        by' false true false false = refl
        by' false false true x = refl
        by' false false false true = refl
        by' false false false false = refl

    by : (c : Bool) → (j == n) ≡ c → (is_begun n past ≡ true → (had_later test n past || list_any (is_settled_later test n past) (frames past)) ≡ nat_lt (suc (rank_of n past)) (top t k past)) → (had_later test n (RequestBegin j same ts a b ∷ past) || list_any (is_settled_later test n (RequestBegin j same ts a b ∷ past)) (frames (RequestBegin j same ts a b ∷ past))) ≡ nat_lt (suc (rank_of n (RequestBegin j same ts a b ∷ past))) (top t k (RequestBegin j same ts a b ∷ past))
    by true here before' =
        rw (rank-here here, had-none here, any-none (is_settled_later test n (RequestBegin j same ts a b ∷ past)) (frames (RequestBegin j same ts a b ∷ past)) (none-later here))
        (sym (low (begun_count past) (top t k (RequestBegin j same ts a b ∷ past)) (top-next t k (RequestBegin j same ts a b) past (top-below t k past))))
    by false far before' =
        let begun' : is_begun n past ≡ true = rw far at begun in
        let ih = before' begun' in
        let apart = any-apart (is_settled_later test n past) j (frames past) in
        let has = frames-have j past in
        let ih' = rw (apart, has) at ih in
        let rank' : rank_of n (RequestBegin j same ts a b ∷ past) ≡ rank_of n past = rw far refl in
        let had' : had_later test n (RequestBegin j same ts a b ∷ past) ≡ (is_later_with test n past j || had_later test n past) = rw far refl in
        rw (rank', had', no-self, others far, raised-reads (rank_of n past) t (row_for j (rows k past)) (top t k past))
        (last (is_later_with test n past j) (had_later test n past) (list_any (is_settled_later test n past) (filter (λ m. not (m == j)) (frames past))) (is_begun j past && is_settled_later test n past j) (of_found (λ r. t r && nat_lt (rank_of n past) r.rank) (row_for j (rows k past))) (nat_lt (suc (rank_of n past)) (top t k past)) (anew k test t own n j past heard.1 begun') ih')
settled-later k test t own n (e ∷ past) heard begun =
    ap (λ c. had_later test n past || c) (rest-same k test t own n e past (λ m. refl) (λ m. refl) (λ m. refl)) ∙ settled-later k test t own n past heard.1 begun

-- ---- all later requests

is-split : (s r x a b : Bool) → b ≡ true → (a ≡ true → r ≡ false) → ((s && not r) && x) ≡ ((a && (s && x)) || ((b && (not (b && a) && not r)) && (s && x)))
is-split s r x a false h g = absurd (false≢true h)
is-split s true x true true h g = absurd (false≢true (sym (g refl)))
is-split true false true true true h g = refl
is-split true false false true true h g = refl
is-split false false true true true h g = refl
is-split false false false true true h g = refl
is-split true true true false true h g = refl
is-split true true false false true h g = refl
is-split false true true false true h g = refl
is-split false true false false true h g = refl
is-split true false true false true h g = refl
is-split true false false false true h g = refl
is-split false false true false true h g = refl
is-split false false false false true h g = refl

split-later : (k : ℕ) (test : ℕ → List HalEvent → Bool) (n : ℕ) (past : List HalEvent) → IsHeard k past → list_any (is_later_with test n past) (frames past) ≡ (list_any (is_settled_later test n past) (frames past) || list_any (is_called_later test n past) (frames past))
split-later k test n past heard =
    any-within (λ m. is_begun m past) (is_later_with test n past) (λ m. is_settled_later test n past m || is_called_later test n past m) (frames past) (frames-begun past)
    (λ m begun. is-split (stands n (begins m) past) (is_refused m past) (test m past) (stands m (accepts m) past) (is_begun m past) begun (λ a. not-both k m past heard a))
    ∙ any-or (is_settled_later test n past) (is_called_later test n past) (frames past)

called-reads : (k : ℕ) (test : ℕ → List HalEvent → Bool) (t : Row → Bool) → IsOfRow k test t → (n : ℕ) (past : List HalEvent) → is_begun n past ≡ true → list_any (is_called_later test n past) (frames past) ≡ list_any (is_later_in_call t (row_of k past n)) (rows k past)
called-reads k test t own n past begun =
    any-rows k past (is_called_later test n past) (is_later_in_call t (row_of k past n)) gone same
  where
    gone : (m : ℕ) → is_begun m past ≡ true → is_live k m past ≡ false → is_called_later test n past m ≡ false
    gone m was idle = by (is_in_call m past) refl
      where
        by : (c : Bool) → is_in_call m past ≡ c → (c && (stands n (begins m) past && test m past)) ≡ false
        by true called = absurd (false≢true (sym idle ∙ called-live k m past called))
        by false called = refl

    same : (m : ℕ) → is_begun m past ≡ true → is_live k m past ≡ true → is_called_later test n past m ≡ is_later_in_call t (row_of k past n) (row_of k past m)
    same m was live = by (is_begun m past) (stands m (accepts m) past) (is_refused m past) (stands n (begins m) past) (test m past) (nat_lt (rank_of n past) (rank_of m past)) (t (row_of k past m)) was (ranked n m past begun was) (own.reads m past was)
      where
        by : (b a r s x c y : Bool) → b ≡ true → s ≡ c → x ≡ y → ((b && (not (b && a) && not r)) && (s && x)) ≡ ((not a && not r) && (c && y))
        by b a r s x c y h i j = rw (h, i, j) refl

pub later-reads : (k : ℕ) (test : ℕ → List HalEvent → Bool) (t : Row → Bool) → IsOfRow k test t → (n : ℕ) (past : List HalEvent) → IsHeard k past → is_begun n past ≡ true → has_later test n past ≡ is_later_by t (row_of k past n) (top t k past) (rows k past)
later-reads k test t own n past heard begun =
    rw (split-later k test n past heard)
    (turned (list_any (is_settled_later test n past) (frames past)) (list_any (is_called_later test n past) (frames past)) (had_later test n past) (nat_lt (suc (rank_of n past)) (top t k past)) (list_any (is_later_in_call t (row_of k past n)) (rows k past))
    (settled-later k test t own n past heard begun) (called-reads k test t own n past begun))
  where
    turned : (a b h low c : Bool) → (h || a) ≡ low → b ≡ c → ((a || b) || h) ≡ (low || c)
    turned a b h low c e g = rw (← e, g) (by a c h)
      where
        by : (a c h : Bool) → ((a || c) || h) ≡ ((h || a) || c)
        by true c true = refl
        by true c false = refl
        by false true true = refl
        by false true false = refl
        by false false true = refl
        by false false false = refl
