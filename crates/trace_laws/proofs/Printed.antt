-- What a past of printable entries says of its frames and buffers.
use Rattle.std.proofs.Common.{◌≡◌, ℕ, ◌==◌, Bool, true, ◌&&◌, not, List, [], ◌∷◌, Option, Some, None, refl, arith, inl, inr, find, nat_lt, ◌^◌}
use Rattle.std.specs.Prelude.{is_some}
use Rattle.std.specs.List.{list_all, list_any}
use Rattle.std.proofs.lemmas.Bool.{cases_Bool, false≢true, and_parts, and_from}
use Rattle.std.proofs.lemmas.Bool.Decides.{nat_tests}
use Rattle.cam_types.specs.Four.{four_list}
use Rattle.trace_model.specs.declared.entry.Entry.{Entry}
use Rattle.trace_model.specs.declared.entry.Entry.TheVariants.{Send, Shutter, Filled, Failed, Release, Early}
use Rattle.trace_model.specs.declared.entry.Sent.{Sent}
use Rattle.trace_model.specs.Entry.{is_shutter, names, sends}
use Rattle.trace_model.specs.Fence.{fence_after, fence_of}
use Rattle.trace_model.specs.Frames.{frames, has_shutter, has_target, is_sent, send_of, target_of, targets_in}
use Rattle.trace_model.specs.Place.{Client, is_at, last_naming, place, place_after}
use Rattle.trace_model.specs.Printable.{fence_fits, is_byte, is_digest, is_filled, is_printable, is_small, sent_fits}
use Rattle.basic_lemmas.proofs.Lists.{found-passes, all-found}

-- ---- lists

-- of a list of which all pass a test and one passes another, one passes both
pub one-of-all : {X : Type 0} (C : Type 0) (p q : X → Bool) (xs : List X) → ((x : X) → p x ≡ true → q x ≡ true → C) → list_all p xs ≡ true → list_any q xs ≡ true → C
one-of-all C p q [] each all any = absurd (false≢true any)
one-of-all C p q (x ∷ xs) each all any =
    let parts = and_parts (p x) (list_all p xs) all in
    elim (cases_Bool (q x)) [
      | inl here ↦ each x parts.0 here
      | inr no' ↦ (let any' = rw no' at any in one-of-all C p q xs each parts.1 any')
    ]

pub small-same : (n m : ℕ) → is_small n ≡ true → (n == m) ≡ true → is_small m ≡ true
small-same n m h e = let same : n ≡ m = grind (arith, nat_tests) in rw (← same) h

byte-same : (n m : ℕ) → is_byte n ≡ true → (n == m) ≡ true → is_byte m ≡ true
byte-same n m h e = let same : n ≡ m = grind (arith, nat_tests) in rw (← same) h

-- ---- frames

sender_small : (n : ℕ) (e : Entry) → is_printable e ≡ true → sends n e ≡ true → is_small n ≡ true
sender_small n (Send m r i same targets) h k =
    let numbers = and_parts (is_small m.0 && (is_small r.0 && is_small i)) (is_filled targets && list_all sent_fits (four_list targets)) h in
    small-same m.0 n (and_parts (is_small m.0) (is_small r.0 && is_small i) numbers.0).0 k
sender_small n e h k = absurd (false≢true k)

pub sent-small : (n : ℕ) (past : List Entry) → list_all is_printable past ≡ true → is_sent n past ≡ true → is_small n ≡ true
sent-small n past printed h = one-of-all (is_small n ≡ true) is_printable (sends n) past (sender_small n) printed h

exposed_small : (n : ℕ) (e : Entry) → is_printable e ≡ true → is_shutter n e ≡ true → is_small n ≡ true
exposed_small n (Shutter m time) h k = small-same m.0 n (and_parts (is_small m.0) (nat_lt time (2 ^ 64)) h).0 k
exposed_small n e h k = absurd (false≢true k)

pub exposed-small : (n : ℕ) (past : List Entry) → list_all is_printable past ≡ true → has_shutter n past ≡ true → is_small n ≡ true
exposed-small n past printed h = one-of-all (is_small n ≡ true) is_printable (is_shutter n) past (exposed_small n) printed h

pub frames-small : (past : List Entry) → list_all is_printable past ≡ true → list_all is_small (frames past) ≡ true
frames-small [] printed = refl
frames-small (Send n r i same targets ∷ past) printed =
    let parts = and_parts (is_printable (Send n r i same targets)) (list_all is_printable past) printed in
    let numbers = and_parts (is_small n.0 && (is_small r.0 && is_small i)) (is_filled targets && list_all sent_fits (four_list targets)) parts.0 in
    let small = (and_parts (is_small n.0) (is_small r.0 && is_small i) numbers.0).0 in
    and_from (is_small n.0) (list_all is_small (frames past)) small (frames-small past parts.1)
frames-small (e ∷ past) printed = frames-small past (and_parts (is_printable e) (list_all is_printable past) printed).1

-- ---- targets

targets_fit : (o : Option Entry) → ((e : Entry) → o ≡ Some e → is_printable e ≡ true) → list_all sent_fits (targets_in o) ≡ true
targets_fit None each = refl
targets_fit (Some (Send n r i same targets)) each =
    let buffers = (and_parts (is_small n.0 && (is_small r.0 && is_small i)) (is_filled targets && list_all sent_fits (four_list targets)) (each _ refl)).1 in
    (and_parts (is_filled targets) (list_all sent_fits (four_list targets)) buffers).1
targets_fit (Some e) each = refl

pub targets-fit : (n : ℕ) (past : List Entry) → list_all is_printable past ≡ true → list_all sent_fits (targets_in (send_of n past)) ≡ true
targets-fit n past printed = targets_fit (send_of n past) (λ e h. all-found is_printable (sends n) past e printed h)

stream_byte : (s : ℕ) (t : Sent) → sent_fits t ≡ true → (t.stream.0 == s) ≡ true → is_byte s ≡ true
stream_byte s t h k = byte-same t.stream.0 s (and_parts (is_byte t.stream.0) (is_small t.buffer.0 && fence_fits t.fence) h).0 k

-- a target of a frame fits, and so does its stream
pub target-fits : (n s : ℕ) (past : List Entry) (t : Sent) → list_all is_printable past ≡ true → target_of n s past ≡ Some t → (sent_fits t ≡ true) × (is_byte s ≡ true)
target-fits n s past t printed h =
    let all = targets-fit n past printed in
    let fits = all-found sent_fits (λ u. u.stream.0 == s) (targets_in (send_of n past)) t all h in
    let own = found-passes (λ (u : Sent). u.stream.0 == s) (targets_in (send_of n past)) t h in
    (fits, stream_byte s t fits own)

pub stream-byte : (n s : ℕ) (past : List Entry) → list_all is_printable past ≡ true → has_target n s past ≡ true → is_byte s ≡ true
stream-byte n s past printed h = one-of-all (is_byte s ≡ true) sent_fits (λ t. t.stream.0 == s) (targets_in (send_of n past)) (stream_byte s) (targets-fit n past printed) h

found_sends : (n : ℕ) (o : Option Entry) (s : ℕ) → ((e : Entry) → o ≡ Some e → (sends n e ≡ true) × (is_printable e ≡ true)) → list_any (λ t. t.stream.0 == s) (targets_in o) ≡ true → is_small n ≡ true
found_sends n None s each h = absurd (false≢true h)
found_sends n (Some e) s each h = let is = each e refl in sender_small n e is.1 is.0

-- a frame with a target was sent
pub target-small : (n s : ℕ) (past : List Entry) → list_all is_printable past ≡ true → has_target n s past ≡ true → is_small n ≡ true
target-small n s past printed h =
    found_sends n (send_of n past) s (λ e k. (found-passes (sends n) past e k, all-found is_printable (sends n) past e printed k)) h

-- ---- buffers and fences

-- the fence of a buffer at home fits
pub fence-fits : (b : ℕ) (past : List Entry) → list_all is_printable past ≡ true → fence_fits (fence_of b past) ≡ true
fence-fits b past printed = after (find (names b) past) (λ e h. all-found is_printable (names b) past e printed h)
  where
    after : (o : Option Entry) → ((e : Entry) → o ≡ Some e → is_printable e ≡ true) → fence_fits (fence_after o) ≡ true
    after (Some (Release c f)) h = (and_parts (is_small c.0) (is_small f.0) (h _ refl)).1
    after (Some (Failed n s c f)) h = (and_parts (is_small n.0 && (is_byte s.0 && is_small c.0)) (fence_fits f) (h _ refl)).1
    after _ h = refl

-- a buffer at the client has a number that fits
pub client-small : (b : ℕ) (past : List Entry) → list_all is_printable past ≡ true → is_at (place b past) Client ≡ true → is_small b ≡ true
client-small b past printed client = after (last_naming b past) (λ e h. (all-found is_printable (names b) past e printed h, found-passes (names b) past e h)) client
  where
    after : (o : Option Entry) → ((e : Entry) → o ≡ Some e → (is_printable e ≡ true) × (names b e ≡ true)) → is_at (place_after o) Client ≡ true → is_small b ≡ true
    after (Some (Filled n s c f d)) each h =
        let is = each _ refl in
        let numbers = and_parts (is_small n.0 && (is_byte s.0 && is_small c.0)) (not (is_some f) && is_digest d) is.0 in
        let others = and_parts (is_small n.0) (is_byte s.0 && is_small c.0) numbers.0 in
        small-same c.0 b (and_parts (is_byte s.0) (is_small c.0) others.1).1 is.1
    after (Some (Early n s c d)) each h =
        let is = each _ refl in
        let numbers = and_parts (is_small n.0 && (is_byte s.0 && is_small c.0)) (is_small d.0) is.0 in
        let others = and_parts (is_small n.0) (is_byte s.0 && is_small c.0) numbers.0 in
        small-same c.0 b (and_parts (is_byte s.0) (is_small c.0) others.1).1 is.1
    after (Some (Send n r i same targets)) each h = absurd (false≢true h)
    after _ each h = absurd (false≢true h)
