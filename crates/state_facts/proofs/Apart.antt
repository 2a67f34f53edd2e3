-- No two of the items that were ever put into the queue have one name, so that taking the first leaves the others.
use Rattle.std.proofs.Common.{◌≡◌, ℕ, ◌==◌, ◌+◌, ◌<◌, Bool, true, false, ◌&&◌, ◌||◌, not, List, [], ◌∷◌, ◌++◌, refl, arith, inl, inr, filter, nat_lt, append-nil}
use Rattle.std.specs.List.{list_any, list_all}
use Rattle.std.proofs.lemmas.Bool.{and_parts, cases_Bool, lt-ltb, ltb-true, ne_eqb}
use Rattle.std.proofs.lemmas.List.Folds.{list_any-append}
use Rattle.cam_types.specs.declared.item.Item.{Item}
use Rattle.cam_types.specs.declared.number.RequestId.{RequestId}
use Rattle.cam_types.specs.declared.reply.Reply.TheVariants.{Submitted}
use Rattle.cam_types.specs.declared.script.Script.{Script}
use Rattle.trace_model.specs.declared.entry.Entry.{Entry}
use Rattle.trace_model.specs.declared.entry.Entry.TheVariants.{Call}
use Rattle.trace_model.specs.Calls.{command_at, is_repeating, request_count}
use Rattle.trace_model.specs.Legal.{IsLegal}
use Rattle.trace_model.specs.Queue.{named, queued_items, submitted}
use Rattle.cam_types.specs.declared.request.WaitingItem.{WaitingItem}
use Rattle.trace_laws.proofs.Submitted.{is_settled, request-number, settled}
use Rattle.basic_lemmas.proofs.Lists.{all-where, filter-same}

abbrev pub is_named : ℕ → ℕ → WaitingItem → Bool
is_named r i w = (r == w.request.0) && (i == w.index)

abbrev pub AreApart : List WaitingItem → Type 0
AreApart [] = Unit {0}
AreApart (w ∷ ws) = (list_any (is_named w.request.0 w.index) ws ≡ false) × AreApart ws

later-apart : (r : RequestId) (i j : ℕ) (items : List Item) → i < j → list_any (is_named r.0 i) (named r j items) ≡ false
later-apart r i j [] less = refl
later-apart r i j (item ∷ items) less =
    let other : (i == j) ≡ false = ne_eqb i j (λ at. absurd (omega (arith, less, at))) in
    let rest = later-apart r i (j + 1) items (omega (arith, less)) in
    grind (arith, other, rest)

other-apart : (q : ℕ) (r : RequestId) (i j : ℕ) (items : List Item) → q < r.0 → list_any (is_named q i) (named r j items) ≡ false
other-apart q r i j [] less = refl
other-apart q r i j (item ∷ items) less =
    let other : (q == r.0) ≡ false = ne_eqb q r.0 (λ at. absurd (omega (arith, less, at))) in
    rw other (other-apart q r i (j + 1) items less)

named-apart : (r : RequestId) (j : ℕ) (items : List Item) → AreApart (named r j items)
named-apart r j [] = tt
named-apart r j (item ∷ items) = (later-apart r j (j + 1) items (omega arith), named-apart r (j + 1) items)

abbrev pub is_below : ℕ → WaitingItem → Bool
is_below r w = nat_lt w.request.0 r

apart-append : (r : RequestId) (items : List Item) (xs : List WaitingItem) → list_all (is_below r.0) xs ≡ true → AreApart xs → AreApart (xs ++ named r 0 items)
apart-append r items [] below apart = named-apart r 0 items
apart-append r items (x ∷ xs) below apart =
    let parts = and_parts (is_below r.0 x) (list_all (is_below r.0) xs) below in
    let less = ltb-true x.request.0 r.0 parts.0 in
    (rw (list_any-append (is_named x.request.0 x.index) xs (named r 0 items), apart.0) (other-apart x.request.0 r x.index 0 items less), apart-append r items xs parts.1 apart.1)

pub submitted-apart : (script : Script) (past : List Entry) → IsLegal script past → AreApart (submitted script past)
submitted-apart script [] legal = tt
submitted-apart script (Call i word (Submitted q) ∷ past) legal =
    let number = request-number script past i word q legal.0 in
    let below = all-where (is_settled script past) (is_below q.0) (submitted script past)
    (λ w h.
    let less = ltb-true w.request.0 (request_count past) (and_parts (nat_lt w.request.0 (request_count past)) (not (is_repeating script past w.request.0)) h).0 in
    lt-ltb w.request.0 q.0 (omega (arith, less, number)))
    (settled script past legal.1) in
    apart-append q (queued_items (command_at script i)) (submitted script past) below (submitted-apart script past legal.1)
submitted-apart script (e ∷ past) legal = rw (append-nil (submitted script past)) (submitted-apart script past legal.1)

self-named : (w : WaitingItem) → is_named w.request.0 w.index w ≡ true
self-named w = grind arith

-- of what a filter keeps, leaving out the first's name leaves the rest
pub filter-tail : (t : WaitingItem → Bool) (w : WaitingItem) (rest xs : List WaitingItem) → AreApart xs → filter (λ x. not (t x)) xs ≡ w ∷ rest → filter (λ x. not (is_named w.request.0 w.index x || t x)) xs ≡ rest
filter-tail t w rest [] apart h = absurd (cc)
filter-tail t w rest (x ∷ xs) apart h =
    elim (cases_Bool (t x)) [
      | inl gone ↦ (
          let h' = rw gone at h in
          let out : not (is_named w.request.0 w.index x || t x) ≡ false = grind arith in
          rw out (filter-tail t w rest xs apart.1 h')
          )
      | inr free ↦ (
          let h' = rw free at h in
          let first : x ≡ w = cc in
          let others : filter (λ y. not (t y)) xs ≡ rest = cc in
          let none = rw first at apart.0 in
          rw (first, self-named w) (rw (filter-same t (is_named w.request.0 w.index) xs none) others)
          )
    ]
