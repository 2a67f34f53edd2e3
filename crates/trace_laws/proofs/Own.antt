-- A buffer at the device is one of the configuration's.
use Rattle.std.proofs.Common.{◌≡◌, ℕ, zero, suc, ◌==◌, ◌+◌, ◌<◌, ◌≤◌, true, ◌&&◌, List, [], ◌∷◌, Option, Some, None, refl, arith, inl, inr, slice_get}
use Rattle.std.specs.List.{list_any}
use Rattle.std.proofs.lemmas.Bool.{cases_Bool, false≢true, and_from}
use Rattle.std.proofs.lemmas.Bool.Decides.{nat_tests}
use Rattle.cam_types.specs.Four.{four_list}
use Rattle.cam_types.specs.declared.reply.Made.{Made}
use Rattle.cam_types.specs.declared.script.Script.{Script}
use Rattle.trace_model.specs.declared.entry.Entry.{Entry}
use Rattle.trace_model.specs.declared.entry.Entry.TheVariants.{Send}
use Rattle.trace_model.specs.declared.entry.Sent.{Sent}
use Rattle.trace_model.specs.Configuration.{is_buffer, is_made, made, numbers_of}
use Rattle.trace_model.specs.Entry.{names}
use Rattle.trace_model.specs.Legal.{IsLegal}
use Rattle.trace_model.specs.Place.{Device, is_at, is_at_device_by, last_naming, place, place_after, sends_with}
use Rattle.trace_laws.proofs.StreamLemmas.{at-device-own}
use Rattle.basic_lemmas.proofs.Lists.{any-behind, found-passes}
use Rattle.basic_lemmas.proofs.Ranges.{in-range}

-- ---- the numbers of what was made

pub made_by_range : (m : Made) (b : ℕ) → (m.first.0 ≤ b) × (b < m.first.0 + m.count) → is_made b m ≡ true
made_by_range m b l =
    let low = l.0 in
    let high = l.1 in
    grind (arith, nat_tests, low, high)

made_at : (ms : List Made) (s b : ℕ) (o : Option Made) → slice_get ms s ≡ o → list_any (λ c. c == b) (numbers_of o) ≡ true → list_any (is_made b) ms ≡ true
made_at ms s b None at h = absurd (false≢true h)
made_at [] s b (Some m) at h = absurd (cc)
made_at (x ∷ ms) zero b (Some m) at h =
    let same : x ≡ m = cc in
    let own : is_made b m ≡ true = made_by_range m b (in-range m.first.0 m.count b h) in
    rw (same, own) refl
made_at (x ∷ ms) (suc s) b (Some m) at h =
    let ih = made_at ms s b (Some m) at h in
    elim (cases_Bool (is_made b x)) [ inl here ↦ rw here refl | inr no' ↦ rw no' ih ]

-- a buffer of a stream is one of the configuration's
pub stream-buffer : (past : List Entry) (s b : ℕ) → list_any (λ c. c == b) (numbers_of (slice_get (made past) s)) ≡ true → is_buffer past b ≡ true
stream-buffer past s b h = made_at (made past) s b (slice_get (made past) s) refl h

-- ---- the send by which a buffer is at the device

abbrev pub AtDeviceBySome : List Entry → ℕ → Type 0
AtDeviceBySome past b = (n : ℕ) × (s : ℕ) × (is_at_device_by n s b past ≡ true)

-- the stream that a buffer was sent for
for_stream : (b : ℕ) (targets : List Sent) → list_any (λ t. t.buffer.0 == b) targets ≡ true → (s : ℕ) × (list_any (λ t. (t.stream.0 == s) && (t.buffer.0 == b)) targets ≡ true)
for_stream b [] h = absurd (false≢true h)
for_stream b (t ∷ targets) h =
    elim (cases_Bool (t.buffer.0 == b)) [
      | inl here ↦ (let same : (t.stream.0 == t.stream.0) ≡ true = grind (arith, nat_tests) in (t.stream.0, rw (same, here) refl))
      | inr no' ↦ (
          let h' = rw no' at h in
          let ih = for_stream b targets h' in
          let rest : list_any (λ u. (u.stream.0 == ih.0) && (u.buffer.0 == b)) targets ≡ true = ih.1 in
          (ih.0, any-behind (λ u. (u.stream.0 == ih.0) && (u.buffer.0 == b)) t targets rest)
          )
    ]

sent_by : (b : ℕ) (o : Option Entry) → is_at (place_after o) Device ≡ true → ((e : Entry) → o ≡ Some e → names b e ≡ true) → (n : ℕ) × (s : ℕ) × (sends_with n s b o ≡ true)
sent_by b None at named = absurd (false≢true at)
sent_by b (Some (Send n r i same targets)) at named =
    let stream = for_stream b (four_list targets) (named (Send n r i same targets) refl) in
    let number : (n.0 == n.0) ≡ true = grind (arith, nat_tests) in
    let by : list_any (λ t. (t.stream.0 == stream.0) && (t.buffer.0 == b)) (four_list targets) ≡ true = stream.1 in
    (n.0, stream.0, and_from (n.0 == n.0) (list_any (λ t. (t.stream.0 == stream.0) && (t.buffer.0 == b)) (four_list targets)) number by)
sent_by b (Some _) at named = absurd (false≢true at)

pub at-device-by-some : (past : List Entry) (b : ℕ) → is_at (place b past) Device ≡ true → AtDeviceBySome past b
at-device-by-some past b at = sent_by b (last_naming b past) at (λ e found. found-passes (names b) past e found)

pub device-buffer : (script : Script) (past : List Entry) (b : ℕ) → IsLegal script past → is_at (place b past) Device ≡ true → is_buffer past b ≡ true
device-buffer script past b legal at =
    let by = at-device-by-some past b at in
    stream-buffer past by.1 b (at-device-own script past by.0 by.1 b legal by.2)
