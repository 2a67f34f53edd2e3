-- The state after an entry is what the entry makes of the state before it.
use Rattle.std.proofs.Common.{◌≡◌, ℕ, ◌+◌, Bool, true, false, if◌then◌else◌, List, ◌∷◌, ◌++◌, Option, Some, None, refl, arith, length, append-nil}
use Rattle.std.proofs.Math.Nat.{zero-mod}
use Rattle.std.proofs.lemmas.Bool.{both_ways, false≢true}
use Rattle.cam_types.specs.declared.four.Four.{Four}
use Rattle.cam_types.specs.declared.number.FrameNo.{FrameNo}
use Rattle.cam_types.specs.declared.number.RequestId.{RequestId}
use Rattle.cam_types.specs.declared.reply.Reply.{Reply}
use Rattle.cam_types.specs.declared.reply.Reply.TheVariants.{Submitted}
use Rattle.cam_types.specs.declared.script.Command.{Command}
use Rattle.cam_types.specs.declared.script.Command.TheVariants.{Configure, Once, Burst, Repeat, Stop, Wait, Await, Flush, Close, Disconnect}
use Rattle.cam_types.specs.declared.script.Script.{Script}
use Rattle.cam_types.specs.declared.script.Word.{Word}
use Rattle.trace_model.specs.declared.entry.Entry.{Entry}
use Rattle.trace_model.specs.declared.entry.Entry.TheVariants.{Call, Send, Dropped}
use Rattle.trace_model.specs.declared.entry.Sent.{Sent}
use Rattle.trace_model.specs.Calls.{command_at, is_submission, request_count, word_of}
use Rattle.trace_model.specs.Client.{call_due}
use Rattle.trace_model.specs.Drop.{drop_due, drop_of}
use Rattle.trace_model.specs.Entry.{is_numbering, is_refusal}
use Rattle.trace_model.specs.Legal.{IsLegal}
use Rattle.trace_model.specs.Numbers.{call_count, next_number}
use Rattle.trace_model.specs.Queue.{first_in, is_clearing_word, is_repeat_word, puts, queued, repeating, repeating_of, request_in, sent_for, submitted}
use Rattle.cam_types.specs.Requests.{Repeating}
use Rattle.cam_types.specs.declared.request.WaitingItem.{WaitingItem}
use Rattle.trace_model.specs.Reply.{acceptance, refusal, reply_with}
use Rattle.trace_model.specs.Send.{may_send}
use Rattle.trace_model.specs.Stopping.{is_stopping}
use Rattle.trace_laws.proofs.Calls.{by-call}
use Rattle.trace_laws.proofs.Refusals.{refuses, refusal-refuses}
use Rattle.trace_laws.proofs.Submitted.{request-number}
use Rattle.state_facts.specs.Turns.{Turn, Turns, turns_after, placed, request_after, turn_called, turn_of, turns}
use Rattle.state_facts.proofs.Names.{unsent}
use Rattle.state_facts.proofs.Sends.{dropped-kept, queue-submitted, sent-kept}
use Rattle.basic_lemmas.proofs.Counts.{count-one}
use Rattle.trace_laws.proofs.BufferSends.{send-number}

same-turns : (a b : List WaitingItem) (p q : Option Turn) (n m r s : ℕ) → a ≡ b → p ≡ q → n ≡ m → r ≡ s → ◌≡◌ {A = Turns} (record { waiting = a; turn = p; numbers = n; requests = r }) (record { waiting = b; turn = q; numbers = m; requests = s })
same-turns a b p q n m r s w x y z = rw (w, x, y, z) refl

-- ---- what a call does to the turn

new-turn : (past : List Entry) (e : Entry) (o : Option Command) (r : RequestId) → sent_for r.0 (e ∷ past) ≡ 0 → placed (e ∷ past) (repeating_of o r) ≡ turn_of o r
new-turn past e (Some (Repeat items)) r none = rw (none, zero-mod (length items)) refl
new-turn past e _ r none = refl

same-turn : (past : List Entry) (i : ℕ) (word : Word) (reply : Reply) (q : Option Repeating) → placed (Call i word reply ∷ past) q ≡ placed past q
same-turn past i word reply None = refl
same-turn past i word reply (Some q) = refl

-- an accepted repeat has a new number
abbrev pub IsNewRepeat : List Entry → Entry → Type 0
IsNewRepeat past (Call i word reply) = is_refusal reply ≡ false → is_repeat_word word ≡ true → (request_in reply).0 ≡ request_count past
IsNewRepeat past _ = Unit {0}

new-repeat : (script : Script) (past : List Entry) (i : ℕ) (c : Command) (o : Option Reply) → refuses o ≡ true → IsNewRepeat past (Call i (word_of c) (reply_with o (acceptance script past c)))
new-repeat script past i c (Some r) no' accepted repeats = absurd (both_ways (is_refusal r) accepted no')
new-repeat script past i (Repeat items) None no' accepted repeats = refl
new-repeat script past i (Configure specs) None no' accepted repeats = absurd (false≢true repeats)
new-repeat script past i (Once item) None no' accepted repeats = absurd (false≢true repeats)
new-repeat script past i (Burst items) None no' accepted repeats = absurd (false≢true repeats)
new-repeat script past i Stop None no' accepted repeats = absurd (false≢true repeats)
new-repeat script past i Wait None no' accepted repeats = absurd (false≢true repeats)
new-repeat script past i (Await k) None no' accepted repeats = absurd (false≢true repeats)
new-repeat script past i Flush None no' accepted repeats = absurd (false≢true repeats)
new-repeat script past i Close None no' accepted repeats = absurd (false≢true repeats)
new-repeat script past i Disconnect None no' accepted repeats = absurd (false≢true repeats)

by-tests : (past : List Entry) (e : Entry) (a b c : Bool) (p q : Option Repeating) (x : Option Turn) → (a ≡ false → b ≡ true → placed (e ∷ past) p ≡ x) → placed (e ∷ past) q ≡ placed past q → placed (e ∷ past) (if a then q else (if b then p else (if c then None else q))) ≡ (if a then placed past q else (if b then x else (if c then None else placed past q)))
by-tests past e true b c p q x new old = old
by-tests past e false true c p q x new old = new refl refl
by-tests past e false false true p q x new old = refl
by-tests past e false false false p q x new old = old

called-turn : (script : Script) (past : List Entry) (i : ℕ) (word : Word) (reply : Reply) → IsLegal script past → call_due script past ≡ Some (Call i word reply) → placed (Call i word reply ∷ past) (repeating script (Call i word reply ∷ past)) ≡ turn_called script i word reply (placed past (repeating script past))
called-turn script past i word reply legal may =
    let is-new = by-call (IsNewRepeat past) script past i word reply may (λ c at. new-repeat script past (call_count past) c (refusal script past c) (refusal-refuses script past c)) in
    by-tests past (Call i word reply) (is_refusal reply) (is_repeat_word word) (is_clearing_word word) (repeating_of (command_at script i) (request_in reply)) (repeating script past) (turn_of (command_at script i) (request_in reply))
    (λ accepted repeats. new-turn past (Call i word reply) (command_at script i) (request_in reply) (unsent script past (request_in reply).0 legal (omega (arith, is-new accepted repeats))))
    (same-turn past i word reply (repeating script past))

-- ---- what a call does to the queue and to the count of requests

called-queue : (script : Script) (past : List Entry) (i : ℕ) (word : Word) (reply : Reply) → IsLegal script past → call_due script past ≡ Some (Call i word reply) → queued script (Call i word reply ∷ past) ≡ queued script past ++ puts script (Call i word reply)
called-queue script past i word (Submitted q) legal may = queue-submitted script past i word q legal may
called-queue script past i word _ legal may = rw (append-nil (submitted script past), append-nil (queued script past)) refl

called-count : (script : Script) (past : List Entry) (i : ℕ) (word : Word) (reply : Reply) → call_due script past ≡ Some (Call i word reply) → request_count (Call i word reply ∷ past) ≡ request_after reply (request_count past)
called-count script past i word (Submitted q) may =
    let number = request-number script past i word q may in
    let one = count-one is_submission (Call i word (Submitted q)) past refl in
    omega (arith, number, one)
called-count script past i word _ may = refl

-- ---- the number of a send and of a drop is the next

sent-count : (script : Script) (past : List Entry) (n : FrameNo) (r : RequestId) (i : ℕ) (same : Bool) (targets : Four Sent) → may_send script past n.0 r.0 i same targets ≡ true → next_number (Send n r i same targets ∷ past) ≡ n.0 + 1
sent-count script past n r i same targets may =
    let number = send-number script past n.0 r.0 i same targets may in
    let one = count-one is_numbering (Send n r i same targets) past refl in
    omega (arith, number, one)

drop-number : (past : List Entry) (stopping : Bool) (o : Option WaitingItem) (n : FrameNo) (r : RequestId) (i : ℕ) → (if stopping then drop_of past o else None) ≡ Some (Dropped n r i) → n.0 ≡ next_number past
drop-number past true (Some w) n r i h = let same : n ≡ record { 0 = next_number past } = cc in rw same refl
drop-number past true None n r i h = absurd (cc)
drop-number past false o n r i h = absurd (cc)

dropped-count : (script : Script) (past : List Entry) (n : FrameNo) (r : RequestId) (i : ℕ) → drop_due script past ≡ Some (Dropped n r i) → next_number (Dropped n r i ∷ past) ≡ n.0 + 1
dropped-count script past n r i may =
    let number = drop-number past (is_stopping past) (first_in (queued script past)) n r i may in
    let one = count-one is_numbering (Dropped n r i) past refl in
    omega (arith, number, one)

-- ---- each entry

pub noted_is : (script : Script) (past : List Entry) (e : Entry) → IsLegal script (e ∷ past) → turns script (e ∷ past) ≡ turns_after script e (turns script past)
noted_is script past (Call i word reply) legal =
    same-turns _ _ _ _ _ _ _ _ (called-queue script past i word reply legal.1 legal.0) (called-turn script past i word reply legal.1 legal.0) refl (called-count script past i word reply legal.0)
noted_is script past (Send n r i same targets) legal =
    let kept = sent-kept script past n r i same targets legal.1 legal.0 in
    same-turns _ _ _ _ _ _ _ _ kept.0 kept.1 (sent-count script past n r i same targets legal.0) refl
noted_is script past (Dropped n r i) legal =
    same-turns _ _ _ _ _ _ _ _ (dropped-kept script past n r i legal.1 legal.0) refl (dropped-count script past n r i legal.0) refl
noted_is script past _ legal = rw (append-nil (submitted script past)) refl
