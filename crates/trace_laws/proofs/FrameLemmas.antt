-- The bound on frames: what was numbered, what waits in the queue and what the commands to come cost at most never sum up
-- to more than all commands cost and the repeating frames since the last call.
use Rattle.std.proofs.Common.{◌≡◌, ℕ, ◌+◌, ◌%◌, ◌<◌, ◌≤◌, Bool, true, false, ◌&&◌, ◌||◌, not, List, [], ◌∷◌, Option, Some, None, refl, arith, inl, inr, ◌⊎◌, length, drop, slice_get, sum_by, nat_lt, if◌then◌else◌, length-append, append-nil}
use Rattle.std.specs.List.{list_any}
use Rattle.std.proofs.lemmas.Bool.{false≢true, and_parts}
use Rattle.std.proofs.lemmas.Bool.Decides.{nat_tests}
use Rattle.std.proofs.lemmas.List.Elements.{filter-append}
use Rattle.cam_types.specs.Script.{awaited_by}
use Rattle.cam_types.specs.declared.four.Four.{Four}
use Rattle.cam_types.specs.declared.item.Item.{Item}
use Rattle.cam_types.specs.declared.number.FrameNo.{FrameNo}
use Rattle.cam_types.specs.declared.number.RequestId.{RequestId}
use Rattle.cam_types.specs.declared.reply.Reply.{Reply}
use Rattle.cam_types.specs.declared.reply.Reply.TheVariants.{Submitted}
use Rattle.cam_types.specs.declared.script.Command.{Command}
use Rattle.cam_types.specs.declared.script.Command.TheVariants.{Await}
use Rattle.cam_types.specs.declared.script.Script.{Script}
use Rattle.cam_types.specs.declared.script.Word.{Word}
use Rattle.cam_types.specs.declared.script.Word.TheVariants.{Await as WordAwait}
use Rattle.trace_model.specs.declared.entry.Entry.{Entry}
use Rattle.trace_model.specs.declared.entry.Entry.TheVariants.{Call, Send, Dropped}
use Rattle.trace_model.specs.declared.entry.Sent.{Sent}
use Rattle.trace_model.specs.Calls.{begun, command_at, is_repeating, next_command, word_of}
use Rattle.trace_model.specs.Client.{is_empty}
use Rattle.trace_model.specs.Drop.{drop_due, drop_of}
use Rattle.trace_model.specs.Entry.{is_call, is_numbering, takes}
use Rattle.trace_model.specs.Frames.{frames}
use Rattle.trace_model.specs.Legal.{IsLegal}
use Rattle.trace_model.specs.Numbers.{call_count, next_number}
use Rattle.trace_model.specs.Queue.{first_in, is_taken, named, next_at, next_from, next_repeating, puts, queued, queued_items, repeating, sent_for, submitted}
use Rattle.cam_types.specs.Requests.{Repeating}
use Rattle.cam_types.specs.declared.request.Queued.{Queued}
use Rattle.cam_types.specs.declared.request.WaitingItem.{WaitingItem}
use Rattle.trace_model.specs.Reply.{reply}
use Rattle.trace_model.specs.Send.{awaited, awaited_in, fits_next, has_capacity, holds_back, may_go, may_repeat, may_send, repeated_since_call, targets_in_order}
use Rattle.trace_model.specs.Stopping.{is_stopping}
use Rattle.trace_model.proofs.LawLemmas.{goes}
use Rattle.trace_laws.specs.Bounds.{frame_bound, queued_by}
use Rattle.trace_laws.proofs.Calls.{by-call}
use Rattle.trace_laws.proofs.RepeatLemmas.{repeating-stands}
use Rattle.basic_lemmas.proofs.Counts.{filter-less, filter-fewer, filter-short, count-cons, drop-at, sum-both}

-- ---- the queue gets shorter

-- the entry takes the item
abbrev pub takes_it : Entry → WaitingItem → Bool
takes_it e w = takes w.request.0 w.index e

stays_taken : (e : Entry) (past : List Entry) (w : WaitingItem) → not (is_taken past w) ≡ false → not (is_taken (e ∷ past) w) ≡ false
stays_taken e past w h = grind arith

now_taken : (e : Entry) (past : List Entry) (w : WaitingItem) → takes_it e w ≡ true → not (is_taken (e ∷ past) w) ≡ false
now_taken e past w h = rw h refl

-- what puts nothing in makes the queue no longer
pub queue-no-longer : (script : Script) (past : List Entry) (e : Entry) → puts script e ≡ [] → length (queued script (e ∷ past)) ≤ length (queued script past)
queue-no-longer script past e h =
    let all : submitted script (e ∷ past) ≡ submitted script past = rw h (append-nil (submitted script past)) in
    let less = filter-less (λ w. not (is_taken past w)) (λ w. not (is_taken (e ∷ past) w)) (stays_taken e past) (submitted script past) in
    rw all less

-- what takes one of the queue makes it shorter
pub queue-shorter : (script : Script) (past : List Entry) (e : Entry) → puts script e ≡ [] → list_any (takes_it e) (queued script past) ≡ true → length (queued script (e ∷ past)) + 1 ≤ length (queued script past)
queue-shorter script past e h any =
    let all : submitted script (e ∷ past) ≡ submitted script past = rw h (append-nil (submitted script past)) in
    let less = filter-fewer (λ w. not (is_taken past w)) (λ w. not (is_taken (e ∷ past) w)) (takes_it e) (stays_taken e past) (now_taken e past) (submitted script past) any in
    rw all less

pub named-length : (r : RequestId) (i : ℕ) (items : List Item) → length (named r i items) ≡ length items
named-length r i [] = refl
named-length r i (item ∷ items) = let ih = named-length r (i + 1) items in omega (arith, ih)

puts_few : (script : Script) (i : ℕ) (c : Command) (w : Word) (r : Reply) → command_at script i ≡ Some c → length (puts script (Call i w r)) ≤ queued_by c
puts_few script i c w (Submitted r) at = rw at (let l = named-length r 0 (queued_items (Some c)) in omega (arith, l))
puts_few script i c w _ at = omega arith

-- a call puts in what its command holds at most
pub queue-after-call : (script : Script) (past : List Entry) (i : ℕ) (c : Command) (w : Word) (r : Reply) → command_at script i ≡ Some c → length (queued script (Call i w r ∷ past)) ≤ length (queued script past) + queued_by c
queue-after-call script past i c w r at =
    let p : WaitingItem → Bool = λ v. not (is_taken (Call i w r ∷ past) v) in
    let both = filter-append p (submitted script past) (puts script (Call i w r)) in
    let short = filter-short p (puts script (Call i w r)) in
    let few = puts_few script i c w r at in
    let less = filter-less (λ v. not (is_taken past v)) p (stays_taken (Call i w r) past) (submitted script past) in
    rw (both, length-append) (omega (arith, short, few, less))

-- ---- a send is of the first of the queue, or of the repeating list

first_passes : (t : WaitingItem → Bool) (xs : List WaitingItem) (w : WaitingItem) → first_in xs ≡ Some w → t w ≡ true → list_any t xs ≡ true
first_passes t [] w h k = absurd (cc)
first_passes t (x ∷ xs) w h k = let same : x ≡ w = cc in rw (same, k) refl

taken_by_send : (n : FrameNo) (r : RequestId) (i : ℕ) (same : Bool) (targets : Four Sent) (w : WaitingItem) → r.0 ≡ w.request.0 → i ≡ w.index → takes_it (Send n r i same targets) w ≡ true
taken_by_send n r i same targets w a b = grind (arith, nat_tests)

-- by which of the two a send is
abbrev pub OfQueue : Script → List Entry → Entry → Type 0
OfQueue script past e = (is_empty (queued script past) ≡ false) × (list_any (takes_it e) (queued script past) ≡ true)

abbrev pub OfRepeating : Script → List Entry → ℕ → Type 0
OfRepeating script past r = (is_empty (queued script past) ≡ true) × (is_repeating script past r ≡ true) × (repeated_since_call script past < 64 + awaited script past)

may-repeat : (script : Script) (past : List Entry) (w : Queued) → w.repeating ≡ true → may_go script past w ≡ true → repeated_since_call script past < 64 + awaited script past
may-repeat script past w repeats h =
    let first = and_parts (not (is_stopping past)) (has_capacity script past (targets_in_order w.item) && (not w.repeating || may_repeat script past)) h in
    let second = and_parts (has_capacity script past (targets_in_order w.item)) (not w.repeating || may_repeat script past) first.1 in
    let may : may_repeat script past ≡ true = rw repeats at second.1 in
    let third = and_parts (not (holds_back (begun past))) (nat_lt (repeated_since_call script past) (64 + awaited script past)) may in
    let less : nat_lt (repeated_since_call script past) (64 + awaited script past) ≡ true = third.1 in
    grind (arith, nat_tests, less)

send_by_cycle : (script : Script) (past : List Entry) (q : Repeating) (k : ℕ) (o : Option Item) (n : FrameNo) (r : RequestId) (i : ℕ) (same : Bool) (targets : Four Sent) → queued script past ≡ [] → repeating script past ≡ Some q → IsLegal script past → fits_next script past (next_at q.request k o) n.0 r.0 i same targets ≡ true → OfRepeating script past r.0
send_by_cycle script past q k None n r i same targets at list legal h = absurd (false≢true h)
send_by_cycle script past q k (Some item) n r i same targets at list legal h =
    let w : Queued = record { request = q.request; index = k; item = item; repeating = true } in
    let g = goes script past w n.0 r.0 i same targets h in
    let stands = repeating-stands script past q legal list in
    let number : r.0 ≡ q.request.0 = g.request in
    let repeats : is_repeating script past r.0 ≡ true = rw (number, stands.0) refl in
    (rw at refl, repeats, may-repeat script past w refl g.now)

send_by_queue : (script : Script) (past : List Entry) (xs : List WaitingItem) (q : Option Repeating) (n : FrameNo) (r : RequestId) (i : ℕ) (same : Bool) (targets : Four Sent) → queued script past ≡ xs → repeating script past ≡ q → IsLegal script past → fits_next script past (next_from (first_in xs) (next_repeating q past)) n.0 r.0 i same targets ≡ true → OfQueue script past (Send n r i same targets) ⊎ OfRepeating script past r.0
send_by_queue script past [] None n r i same targets at list legal h = absurd (false≢true h)
send_by_queue script past [] (Some q) n r i same targets at list legal h =
    let k = sent_for q.request.0 past % length q.items in
    inr (send_by_cycle script past q k (slice_get q.items k) n r i same targets at list legal h)
send_by_queue script past (v ∷ xs) q n r i same targets at list legal h =
    let w : Queued = record { request = v.request; index = v.index; item = v.item; repeating = false } in
    let g = goes script past w n.0 r.0 i same targets h in
    inl (rw at (refl, first_passes (takes_it (Send n r i same targets)) (v ∷ xs) v refl (taken_by_send n r i same targets v g.request g.index)))

pub send-of : (script : Script) (past : List Entry) (n : FrameNo) (r : RequestId) (i : ℕ) (same : Bool) (targets : Four Sent) → IsLegal script past → may_send script past n.0 r.0 i same targets ≡ true → OfQueue script past (Send n r i same targets) ⊎ OfRepeating script past r.0
send-of script past n r i same targets legal h = send_by_queue script past (queued script past) (repeating script past) n r i same targets refl refl legal h

-- a drop is of the first of the queue
drop_by_first : (past : List Entry) (xs : List WaitingItem) (stopping : Bool) (n : FrameNo) (r : RequestId) (i : ℕ) → (if stopping then drop_of past (first_in xs) else None) ≡ Some (Dropped n r i) → list_any (takes_it (Dropped n r i)) xs ≡ true
drop_by_first past [] true n r i h = absurd (cc)
drop_by_first past [] false n r i h = absurd (cc)
drop_by_first past (w ∷ xs) false n r i h = absurd (cc)
drop_by_first past (w ∷ xs) true n r i h =
    let request : w.request ≡ r = cc in
    let index : w.index ≡ i = cc in
    let request' : r.0 ≡ w.request.0 = rw (← request) refl in
    let takes' : takes_it (Dropped n r i) w ≡ true = grind (arith, nat_tests) in
    rw takes' refl

pub drop-of : (script : Script) (past : List Entry) (n : FrameNo) (r : RequestId) (i : ℕ) → drop_due script past ≡ Some (Dropped n r i) → list_any (takes_it (Dropped n r i)) (queued script past) ≡ true
drop-of script past n r i h = drop_by_first past (queued script past) (is_stopping past) n r i h

-- ---- repeating frames since the last call

-- how many sends since the last call weren't of the queue
abbrev pub repeats : Script → List Entry → ℕ
repeats script [] = 0
repeats script (Call _ _ _ ∷ past) = 0
repeats script (Send _ _ _ _ _ ∷ past) = (if is_empty (queued script past) then 1 else 0) + repeats script past
repeats script (_ ∷ past) = repeats script past

repeats_are_counted : (script : Script) (past : List Entry) → IsLegal script past → repeats script past ≤ repeated_since_call script past
repeats_are_counted script [] legal = omega arith
repeats_are_counted script (Call i w r ∷ past) legal = omega arith
repeats_are_counted script (Send n r i same targets ∷ past) legal =
    let ih = repeats_are_counted script past legal.1 in
    elim (send-of script past n r i same targets legal.1 legal.0) [
      | inl queue ↦ rw (queue.0) (omega (arith, ih))
      | inr list ↦ rw (list.0, list.1) (omega (arith, ih))
    ]
repeats_are_counted script (e ∷ past) legal = repeats_are_counted script past legal.1

-- how many frames the next command waits for
abbrev pub awaited_next : Option Command → ℕ
awaited_next (Some c) = awaited_by c
awaited_next None = 0

awaited_few : (w : Option Word) (o : Option Command) → awaited_in w o ≤ awaited_next o
awaited_few (Some WordAwait) (Some (Await k)) = omega arith
awaited_few w o = omega arith

repeats-few : (script : Script) (past : List Entry) → IsLegal script past → repeats script past ≤ 64 + awaited_next (next_command script past)
repeats-few script [] legal = omega arith
repeats-few script (Call i w r ∷ past) legal = omega arith
repeats-few script (Send n r i same targets ∷ past) legal =
    let ih = repeats-few script past legal.1 in
    elim (send-of script past n r i same targets legal.1 legal.0) [
      | inl queue ↦ rw (queue.0) (omega (arith, ih))
      | inr list ↦ (
          let counted = repeats_are_counted script past legal.1 in
          let few = awaited_few (begun past) (next_command script past) in
          let less : repeated_since_call script past < 64 + awaited_in (begun past) (next_command script past) = list.2 in
          rw (list.0) (omega (arith, counted, few, less))
          )
    ]
repeats-few script (e ∷ past) legal = repeats-few script past legal.1

-- ---- the bound

-- what a command costs at most: its repeating frames and its items
abbrev pub cost : Command → ℕ
cost c = 64 + (awaited_by c + queued_by c)

-- what the commands to come cost at most
abbrev pub cost_to_come : Script → ℕ → ℕ
cost_to_come script i = sum_by cost (drop i script.commands)

sum_grows : (a q d q' d' t r k b : ℕ) → a + (q + d) ≤ t + r → r ≤ 64 + k → q' ≤ q + b → d ≡ (64 + (k + b)) + d' → a + (q' + d') ≤ t + 0
sum_grows a q d q' d' t r k b h few queue cost' = omega (arith, h, few, queue, cost')

frames_and_costs : (script : Script) (past : List Entry) → IsLegal script past → next_number past + (length (queued script past) + cost_to_come script (call_count past)) ≤ sum_by cost script.commands + repeats script past
frames_and_costs script [] legal = omega arith
frames_and_costs script (Call i w r ∷ past) legal =
    let ih = frames_and_costs script past legal.1 in
    let few = repeats-few script past legal.1 in
    by-call (λ e. next_number (e ∷ past) + (length (queued script (e ∷ past)) + cost_to_come script (call_count (e ∷ past))) ≤ sum_by cost script.commands + repeats script (e ∷ past)) script past i w r legal.0
    (λ c at.
    let few' : repeats script past ≤ 64 + awaited_by c = rw at at few in
    let queue = queue-after-call script past (call_count past) c (word_of c) (reply script past c) at in
    let calls : call_count (Call (call_count past) (word_of c) (reply script past c) ∷ past) ≡ call_count past + 1 = omega (arith, count-cons is_call (Call (call_count past) (word_of c) (reply script past c)) past) in
    let less = drop-at cost script.commands (call_count past) c at in
    rw calls (sum_grows (next_number past) (length (queued script past)) (cost_to_come script (call_count past)) _ (cost_to_come script (call_count past + 1)) (sum_by cost script.commands) (repeats script past) (awaited_by c) (queued_by c) ih few' queue less))
frames_and_costs script (Send n r i same targets ∷ past) legal =
    let ih = frames_and_costs script past legal.1 in
    let number = count-cons is_numbering (Send n r i same targets) past in
    elim (send-of script past n r i same targets legal.1 legal.0) [
      | inl queue ↦ (let less = queue-shorter script past (Send n r i same targets) refl queue.1 in rw (queue.0) (omega (arith, ih, number, less)))
      | inr list ↦ (let less = queue-no-longer script past (Send n r i same targets) refl in rw (list.0) (omega (arith, ih, number, less)))
    ]
frames_and_costs script (Dropped n r i ∷ past) legal =
    let ih = frames_and_costs script past legal.1 in
    let number = count-cons is_numbering (Dropped n r i) past in
    let less = queue-shorter script past (Dropped n r i) refl (drop-of script past n r i legal.0) in
    omega (arith, ih, number, less)
frames_and_costs script (e ∷ past) legal =
    let ih = frames_and_costs script past legal.1 in
    let less = queue-no-longer script past e refl in
    omega (arith, ih, less)

next_costs : (script : Script) (i : ℕ) (o : Option Command) → command_at script i ≡ o → awaited_next o ≤ cost_to_come script i
next_costs script i None at = omega arith
next_costs script i (Some c) at = let less = drop-at cost script.commands i c at in omega (arith, less)

pub frames_bounded : (script : Script) (past : List Entry) → IsLegal script past → next_number past ≤ frame_bound script
frames_bounded script past legal =
    let sum = frames_and_costs script past legal in
    let few = repeats-few script past legal in
    let next = next_costs script (call_count past) (next_command script past) refl in
    let parts = sum-both awaited_by queued_by 64 script.commands in
    omega (arith, sum, few, next, parts)

frames_are_numbered : (past : List Entry) → length (frames past) ≤ next_number past
frames_are_numbered [] = omega arith
frames_are_numbered (Send n r i same targets ∷ past) = let ih = frames_are_numbered past in let number = count-cons is_numbering (Send n r i same targets) past in omega (arith, ih, number)
frames_are_numbered (Dropped n r i ∷ past) = let ih = frames_are_numbered past in let number = count-cons is_numbering (Dropped n r i) past in omega (arith, ih, number)
frames_are_numbered (e ∷ past) = frames_are_numbered past

pub sends_bounded : (script : Script) (past : List Entry) → IsLegal script past → length (frames past) ≤ frame_bound script
sends_bounded script past legal = let few = frames_bounded script past legal in let numbered = frames_are_numbered past in omega (arith, few, numbered)
