-- The buffers of a configuration, and that a buffer at the device is one of its stream's.
use Rattle.std.proofs.Common.{◌≡◌, ℕ, zero, suc, ◌==◌, ◌+◌, ◌*◌, ◌<◌, ◌≤◌, Bool, true, false, ◌&&◌, ◌||◌, not, List, [], ◌∷◌, Option, Some, None, refl, sym, ◌∙◌, arith, inl, inr, length, slice_get, nat_le}
use Rattle.std.specs.Prelude.{is_some}
use Rattle.std.specs.List.{list_all, list_any, range_with_len}
use Rattle.std.proofs.lemmas.Nat.{mul-le}
use Rattle.std.proofs.lemmas.Bool.{cases_Bool, false≢true, and_parts}
use Rattle.std.proofs.lemmas.Bool.Decides.{nat_tests}
use Rattle.cam_types.specs.Four.{four_list, four_of}
use Rattle.cam_types.specs.declared.reply.Made.{Made}
use Rattle.cam_types.specs.declared.reply.Reply.{Reply}
use Rattle.cam_types.specs.declared.reply.Reply.TheVariants.{Ok, Submitted, Configured, Refused}
use Rattle.cam_types.specs.declared.script.Command.{Command}
use Rattle.cam_types.specs.declared.script.Command.TheVariants.{Configure}
use Rattle.cam_types.specs.declared.profile.Profile.{Profile}
use Rattle.cam_types.specs.declared.script.Script.{Script}
use Rattle.cam_types.specs.declared.script.Word.{Word}
use Rattle.cam_types.specs.declared.stream.Format.{Format}
use Rattle.cam_types.specs.declared.stream.StreamSpec.{StreamSpec}
use Rattle.trace_model.specs.declared.entry.Entry.{Entry}
use Rattle.trace_model.specs.declared.entry.Entry.TheVariants.{Call, Send, Filled, Failed, Release, Early}
use Rattle.trace_model.specs.declared.entry.Sent.{Sent}
use Rattle.trace_model.specs.Calls.{begun, command_at, is_waiting_command, word_of}
use Rattle.trace_model.specs.Client.{call_due, is_idle, is_over, may_answer}
use Rattle.trace_model.specs.Configuration.{buffers_of, made, made_count, numbers_of, streams}
use Rattle.cam_types.specs.Profile.{max_buffers}
use Rattle.trace_model.specs.Entry.{is_refusal, names}
use Rattle.trace_model.specs.Fence.{fence_of, is_same_fence}
use Rattle.trace_model.specs.Legal.{IsLegal}
use Rattle.trace_model.specs.Numbers.{call_count}
use Rattle.trace_model.specs.Place.{Pool, Device, all_in_pool, is_at, is_at_device_by, place}
use Rattle.trace_model.specs.Printable.{is_small, made_fits}
use Rattle.trace_model.specs.Reply.{acceptance, made_for, refusal, reply, reply_with}
use Rattle.trace_model.specs.Send.{takes_from_pool}
use Rattle.trace_model.proofs.LawLemmas.{at-device, sends-from-pool}
use Rattle.trace_laws.specs.Bounds.{configuration_bound}
use Rattle.trace_laws.proofs.BufferLemmas.{few-at-device, made-by-calls, most}
use Rattle.trace_laws.proofs.Calls.{by-answer, by-call, calls_bounded}
use Rattle.trace_laws.proofs.Printed.{one-of-all}
use Rattle.trace_laws.proofs.RefusedFits.{small}
use Rattle.trace_laws.proofs.Refusals.{refuses, refusal-refuses}
use Rattle.trace_laws.proofs.ValidLemmas.{Valid, at-most}
use Rattle.basic_lemmas.proofs.Counts.{place-within}
use Rattle.trace_laws.proofs.BufferSends.{out-before}

-- ---- numbers of buffers

-- the buffers end below a number that any field holds
abbrev pub is_low : Made → Bool
is_low m = nat_le (m.first.0 + m.count) 40000

few-on : (p : Profile) (f : Format) → most p ≤ 16 → max_buffers p f ≤ 16
few-on p f few = let l = few-at-device p f in steps _ _ l few
  where
    steps : (a b : ℕ) → a ≤ b → b ≤ 16 → a ≤ 16
    steps a b one two = omega (arith, one, two)

pub made-low : (p : Profile) (m : ℕ) (specs : List StreamSpec) → most p ≤ 16 → m ≤ 36864 → list_all is_low (four_list (four_of (made_for p m specs))) ≡ true
made-low p m [] few l = refl
made-low p m (a ∷ []) few l =
    let fa = few-on p a.format few in
    grind (arith, nat_tests)
made-low p m (a ∷ b ∷ []) few l =
    let fa = few-on p a.format few in
    let fb = few-on p b.format few in
    grind (arith, nat_tests)
made-low p m (a ∷ b ∷ c ∷ []) few l =
    let fa = few-on p a.format few in
    let fb = few-on p b.format few in
    let fc = few-on p c.format few in
    grind (arith, nat_tests)
made-low p m (a ∷ b ∷ c ∷ d ∷ specs) few l =
    let fa = few-on p a.format few in
    let fb = few-on p b.format few in
    let fc = few-on p c.format few in
    let fd = few-on p d.format few in
    grind (arith, nat_tests)

call_low : (script : Script) (past : List Entry) (i : ℕ) (c : Command) (e : Option Reply) → refuses e ≡ true → most script.profile ≤ 16 → made_count past ≤ 36864 → list_all is_low (made past) ≡ true → list_all is_low (made (Call i (word_of c) (reply_with e (acceptance script past c)) ∷ past)) ≡ true
call_low script past i c (Some (Refused code first second)) h few l before = before
call_low script past i c (Some Ok) h few l before = absurd (false≢true h)
call_low script past i c (Some (Submitted r)) h few l before = absurd (false≢true h)
call_low script past i c (Some (Configured each)) h few l before = absurd (false≢true h)
call_low script past i (Configure specs) None h few l before = made-low script.profile (made_count past) specs few l
call_low script past i c None h few l before = before

pub few-made : (script : Script) (past : List Entry) → Valid script → IsLegal script past → made_count past ≤ 36864
few-made script past v legal =
    let made' = made-by-calls script past legal in
    let few = calls_bounded script past legal in
    let each = v.profile in
    let all = mul-le (configuration_bound script) (call_count past) 72 512 (omega (arith, each)) (omega (arith, few, v.commands)) in
    steps _ _ made' all
  where
    steps : (a b : ℕ) → a ≤ b → b ≤ 72 * 512 → a ≤ 36864
    steps a b one two = omega (arith, one, two)

-- the buffers of a configuration have numbers that fit
pub made-all-low : (script : Script) (past : List Entry) → Valid script → IsLegal script past → list_all is_low (made past) ≡ true
made-all-low script [] v legal = refl
made-all-low script (Call i w r ∷ past) v legal =
    let ih = made-all-low script past v legal.1 in
    by-call (λ e. list_all is_low (made (e ∷ past)) ≡ true) script past i w r legal.0
    (λ c at. call_low script past (call_count past) c (refusal script past c) (refusal-refuses script past c) v.profile (few-made script past v legal.1) ih)
made-all-low script (e ∷ past) v legal = made-all-low script past v legal.1

pub low-fits : (ms : List Made) → list_all is_low ms ≡ true → list_all made_fits ms ≡ true
low-fits [] h = refl
low-fits (m ∷ ms) h =
    let parts = and_parts (is_low m) (list_all is_low ms) h in
    let l = at-most (m.first.0 + m.count) 40000 parts.0 in
    let first = small m.first.0 40000 (omega (arith, l)) (omega arith) in
    let count = small m.count 40000 (omega (arith, l)) (omega arith) in
    rw (first, count, low-fits ms parts.1) refl

in_range : (a n b : ℕ) → list_any (λ c. c == b) (range_with_len a n) ≡ true → b < a + n
in_range a zero b h = absurd (false≢true h)
in_range a (suc n) b h =
    elim (cases_Bool (a == b)) [
      | inl here ↦ (let same : a ≡ b = grind (arith, nat_tests) in omega (arith, same))
      | inr no' ↦ (let h' = rw no' at h in let ih = in_range (a + 1) n b h' in omega (arith, ih))
    ]

place_low : (ms : List Made) (s : ℕ) (o : Option Made) (b : ℕ) → slice_get ms s ≡ o → list_all is_low ms ≡ true → list_any (λ c. c == b) (numbers_of o) ≡ true → is_small b ≡ true
place_low ms s None b at all h = absurd (false≢true h)
place_low [] s (Some m) b at all h = absurd (cc)
place_low (x ∷ ms) zero (Some m) b at all h =
    let same : x ≡ m = cc in
    let low : is_low m ≡ true = rw same at (and_parts (is_low x) (list_all is_low ms) all).0 in
    let l = at-most (m.first.0 + m.count) 40000 low in
    let within = in_range m.first.0 m.count b h in
    small b 40000 (omega (arith, l, within)) (omega arith)
place_low (x ∷ ms) (suc s) (Some m) b at all h = place_low ms s (Some m) b at (and_parts (is_low x) (list_all is_low ms) all).1 h

-- a buffer of a stream has a number that fits
pub buffer-small : (past : List Entry) (s b : ℕ) → list_all is_low (made past) ≡ true → list_any (λ c. c == b) (buffers_of past s) ≡ true → is_small b ≡ true
buffer-small past s b all h = place_low (made past) s (slice_get (made past) s) b refl all h

-- ---- a buffer at the device is one of its stream's

of_stream : (past : List Entry) (s b : ℕ) (t : Sent) → takes_from_pool past t ≡ true → ((t.stream.0 == s) && (t.buffer.0 == b)) ≡ true → list_any (λ c. c == b) (buffers_of past s) ≡ true
of_stream past s b t h k =
    let stream = (and_parts (t.stream.0 == s) (t.buffer.0 == b) k).0 in
    let buffer = (and_parts (t.stream.0 == s) (t.buffer.0 == b) k).1 in
    let one : t.stream.0 ≡ s = grind (arith, nat_tests, stream) in
    let two : t.buffer.0 ≡ b = grind (arith, nat_tests, buffer) in
    let own = (and_parts (list_any (λ c. c == t.buffer.0) (buffers_of past t.stream.0)) (is_at (place t.buffer.0 past) Pool && is_same_fence t.fence (fence_of t.buffer.0 past)) h).0 in
    by_numbers past t.stream.0 s t.buffer.0 b one two own
  where
    by_numbers : (past : List Entry) (u s c b : ℕ) → u ≡ s → c ≡ b → list_any (λ x. x == c) (buffers_of past u) ≡ true → list_any (λ x. x == b) (buffers_of past s) ≡ true
    by_numbers past u s c b e f h = rw (← e, ← f) h

number_home : (b : ℕ) (past : List Entry) (xs : List ℕ) → list_all (λ c. is_at (place c past) Pool) xs ≡ true → list_any (λ c. c == b) xs ≡ true → is_at (place b past) Pool ≡ true
number_home b past xs all any = one-of-all (is_at (place b past) Pool ≡ true) (λ c. is_at (place c past) Pool) (λ c. c == b) xs (λ c h k. let same : c ≡ b = grind (arith, nat_tests, k) in rw (← same) h) all any

made_home : (b : ℕ) (past : List Entry) (ms : List Made) (s : ℕ) (o : Option Made) → slice_get ms s ≡ o → list_all (λ m. list_all (λ c. is_at (place c past) Pool) (numbers_of (Some m))) ms ≡ true → list_any (λ c. c == b) (numbers_of o) ≡ true → is_at (place b past) Pool ≡ true
made_home b past ms s None at all h = absurd (false≢true h)
made_home b past [] s (Some m) at all h = absurd (cc)
made_home b past (x ∷ ms) zero (Some m) at all h =
    let same : x ≡ m = cc in
    let home = (and_parts (list_all (λ c. is_at (place c past) Pool) (numbers_of (Some x))) (list_all (λ m'. list_all (λ c. is_at (place c past) Pool) (numbers_of (Some m'))) ms) all).0 in
    number_home b past (numbers_of (Some m)) (rw same at home) h
made_home b past (x ∷ ms) (suc s) (Some m) at all h =
    made_home b past ms s (Some m) at (and_parts (list_all (λ c. is_at (place c past) Pool) (numbers_of (Some x))) (list_all (λ m'. list_all (λ c. is_at (place c past) Pool) (numbers_of (Some m'))) ms) all).1 h

-- where all are in the pool none is out of it
pub none_out : (past : List Entry) (s b : ℕ) → all_in_pool past ≡ true → is_at (place b past) Pool ≡ false → list_any (λ c. c == b) (buffers_of past s) ≡ true → ⊥
none_out past s b home out own =
    let pool : is_at (place b past) Pool ≡ true = made_home b past (made past) s (slice_get (made past) s) refl home own in
    absurd (false≢true (sym out ∙ pool))

pub waits-for-pool : (script : Script) (past : List Entry) (specs : List StreamSpec) → may_answer script past (Configure specs) ≡ true → is_refusal (reply script past (Configure specs)) ≡ false → all_in_pool past ≡ true
waits-for-pool script past specs may accepted =
    let c = Configure specs in
    let over = (and_parts (not (is_waiting_command c) || is_some (begun past)) (is_refusal (reply script past c) || is_over script past c) may).1 in
    let over' : is_over script past c ≡ true = rw accepted at over in
    (and_parts (is_idle script past) (all_in_pool past) over').1

abbrev pub IsOwn : List Entry → ℕ → ℕ → Type 0
IsOwn past s b = list_any (λ c. c == b) (buffers_of past s) ≡ true

call_own : (script : Script) (past : List Entry) (i : ℕ) (c : Command) (e : Option Reply) (s b : ℕ) → refuses e ≡ true → (is_refusal (reply_with e (acceptance script past c)) ≡ false → (specs : List StreamSpec) → c ≡ Configure specs → all_in_pool past ≡ true) → is_at (place b past) Pool ≡ false → IsOwn past s b → IsOwn (Call i (word_of c) (reply_with e (acceptance script past c)) ∷ past) s b
call_own script past i c (Some (Refused code first second)) s b h home out before = before
call_own script past i c (Some Ok) s b h home out before = absurd (false≢true h)
call_own script past i c (Some (Submitted r)) s b h home out before = absurd (false≢true h)
call_own script past i c (Some (Configured each)) s b h home out before = absurd (false≢true h)
call_own script past i (Configure specs) None s b h home out before = absurd (none_out past s b (home refl specs refl) out before)
call_own script past i c None s b h home out before = before

-- a buffer that isn't in the pool stays one of the configuration's
pub kept-own : (script : Script) (past : List Entry) (i : ℕ) (w : Word) (r : Reply) (s b : ℕ) → call_due script past ≡ Some (Call i w r) → is_at (place b past) Pool ≡ false → IsOwn past s b → IsOwn (Call i w r ∷ past) s b
kept-own script past i w r s b may out own =
    by-answer (λ e. IsOwn (e ∷ past) s b) script past i w r may
    (λ c at may'. call_own script past (call_count past) c (refusal script past c) s b (refusal-refuses script past c) (λ accepted specs is. waits-for-pool script past specs (rw is at may') (rw is at accepted)) out own)

pub at-device-own : (script : Script) (past : List Entry) (n s b : ℕ) → IsLegal script past → is_at_device_by n s b past ≡ true → IsOwn past s b
at-device-own script [] n s b legal h = absurd (false≢true h)
at-device-own script (Call i w r ∷ past) n s b legal h =
    let ih = at-device-own script past n s b legal.1 h in
    let device : place b past ≡ Device = at-device n s b past h in
    kept-own script past i w r s b legal.0 (rw device refl) ih
at-device-own script (Send m r i same targets ∷ past) n s b legal h =
    elim (cases_Bool (names b (Send m r i same targets))) [
      | inl named ↦ (
          let h' = rw named at h in
          let by = (and_parts (m.0 == n) (list_any (λ t. (t.stream.0 == s) && (t.buffer.0 == b)) (four_list targets)) h').1 in
          let pool = sends-from-pool script past m.0 r.0 i same targets legal.0 in
          one-of-all (IsOwn past s b) (takes_from_pool past) (λ t. (t.stream.0 == s) && (t.buffer.0 == b)) (four_list targets) (of_stream past s b) pool by
          )
      | inr other ↦ at-device-own script past n s b legal.1 (out-before past (Send m r i same targets) n s b other h)
    ]
at-device-own script (Filled m u c f d ∷ past) n s b legal h =
    elim (cases_Bool (c.0 == b)) [
      | inl named ↦ (let h' = rw named at h in absurd (false≢true h'))
      | inr other ↦ at-device-own script past n s b legal.1 (out-before past (Filled m u c f d) n s b other h)
    ]
at-device-own script (Failed m u c f ∷ past) n s b legal h =
    elim (cases_Bool (c.0 == b)) [
      | inl named ↦ (let h' = rw named at h in absurd (false≢true h'))
      | inr other ↦ at-device-own script past n s b legal.1 (out-before past (Failed m u c f) n s b other h)
    ]
at-device-own script (Early m u c d ∷ past) n s b legal h =
    elim (cases_Bool (c.0 == b)) [
      | inl named ↦ (let h' = rw named at h in absurd (false≢true h'))
      | inr other ↦ at-device-own script past n s b legal.1 (out-before past (Early m u c d) n s b other h)
    ]
at-device-own script (Release c f ∷ past) n s b legal h =
    elim (cases_Bool (c.0 == b)) [
      | inl named ↦ (let h' = rw named at h in absurd (false≢true h'))
      | inr other ↦ at-device-own script past n s b legal.1 (out-before past (Release c f) n s b other h)
    ]
at-device-own script (e ∷ past) n s b legal h = at-device-own script past n s b legal.1 h

-- ---- a stream with buffers is one of the configuration's

four_made_few : (p : Profile) (m : ℕ) (specs : List StreamSpec) → length (four_list (four_of (made_for p m specs))) ≤ length specs
four_made_few p m [] = omega arith
four_made_few p m (a ∷ []) = omega arith
four_made_few p m (a ∷ b ∷ []) = omega arith
four_made_few p m (a ∷ b ∷ c ∷ []) = omega arith
four_made_few p m (a ∷ b ∷ c ∷ d ∷ specs) = omega arith

abbrev pub IsMadeFor : Script → List Entry → Type 0
IsMadeFor script past = length (made past) ≤ length (streams script past)

call_made : (script : Script) (past : List Entry) (i : ℕ) (c : Command) (e : Option Reply) → refuses e ≡ true → command_at script i ≡ Some c → IsMadeFor script past → IsMadeFor script (Call i (word_of c) (reply_with e (acceptance script past c)) ∷ past)
call_made script past i c (Some (Refused code first second)) h at before = before
call_made script past i c (Some Ok) h at before = absurd (false≢true h)
call_made script past i c (Some (Submitted r)) h at before = absurd (false≢true h)
call_made script past i c (Some (Configured each)) h at before = absurd (false≢true h)
call_made script past i (Configure specs) None h at before = rw at (four_made_few script.profile (made_count past) specs)
call_made script past i c None h at before = before

made-for-streams : (script : Script) (past : List Entry) → IsLegal script past → IsMadeFor script past
made-for-streams script [] legal = omega arith
made-for-streams script (Call i w r ∷ past) legal =
    let ih = made-for-streams script past legal.1 in
    by-call (λ e. IsMadeFor script (e ∷ past)) script past i w r legal.0
    (λ c at. call_made script past (call_count past) c (refusal script past c) (refusal-refuses script past c) at ih)
made-for-streams script (e ∷ past) legal = made-for-streams script past legal.1

some-within : {X : Type 0} (xs : List X) (i : ℕ) → i < length xs → is_some (slice_get xs i) ≡ true
some-within [] i l = absurd (omega (arith, l))
some-within (x ∷ xs) zero l = refl
some-within (x ∷ xs) (suc i) l = some-within xs i (omega (arith, l))

by_made : (ms : List Made) (specs : List StreamSpec) (s b : ℕ) (o : Option Made) → slice_get ms s ≡ o → length ms ≤ length specs → list_any (λ c. c == b) (numbers_of o) ≡ true → is_some (slice_get specs s) ≡ true
by_made ms specs s b None at few h = absurd (false≢true h)
by_made ms specs s b (Some m) at few h = let within = place-within ms s m at in some-within specs s (omega (arith, few, within))

-- a stream with buffers is one of the configuration's
pub own-stream : (script : Script) (past : List Entry) (s b : ℕ) → IsLegal script past → IsOwn past s b → is_some (slice_get (streams script past) s) ≡ true
own-stream script past s b legal own = by_made (made past) (streams script past) s b (slice_get (made past) s) refl (made-for-streams script past legal) own

-- a buffer at the device is for a stream of the configuration
pub stream-there : (script : Script) (past : List Entry) (n s b : ℕ) → IsLegal script past → is_at_device_by n s b past ≡ true → is_some (slice_get (streams script past) s) ≡ true
stream-there script past n s b legal h =
    by_made (made past) (streams script past) s b (slice_get (made past) s) refl (made-for-streams script past legal) (at-device-own script past n s b legal h)
