-- An entry of the client is allowed where it meets its conditions.
use Rattle.std.proofs.Common.{◌≡◌, ◌↔◌, ℕ, ◌==◌, Bool, true, false, ◌&&◌, ◌||◌, not, List, Option, Some, None, IsTrue, refl, sym, ◌∙◌, ap, arith, rules}
use Rattle.std.specs.Prelude.{is_some, nat_lt}
use Rattle.std.specs.Bool.{Decides}
use Rattle.std.specs.List.{list_all}
use Rattle.std.proofs.lemmas.Bool.Decides.{Decides-and, Decides-eqb, Decides-like}
use Rattle.cam_types.proofs.Decided.{Decides-reply_eq}
use Rattle.cam_types.specs.contracts.reply.ReplyPartialEq.TheImpl.{eq-value as is_same_reply}
use Rattle.cam_types.specs.contracts.script.WordPartialEq.TheImpl.{eq-value as is_same_word}
use Rattle.cam_types.specs.declared.number.BufferId.{BufferId}
use Rattle.cam_types.specs.declared.number.FenceNo.{FenceNo}
use Rattle.cam_types.specs.declared.reply.Reply.{Reply}
use Rattle.cam_types.specs.declared.script.Command.{Command}
use Rattle.cam_types.specs.declared.script.Command.TheVariants.{Configure, Once, Burst, Repeat, Stop, Wait, Await, Flush, Close, Disconnect}
use Rattle.cam_types.specs.declared.script.Script.{Script}
use Rattle.cam_types.specs.declared.script.Word.{Word}
use Rattle.trace_model.specs.declared.entry.Entry.{Entry}
use Rattle.trace_model.specs.declared.entry.Entry.TheVariants.{Begin, Call, Release, Signal}
use Rattle.trace_model.specs.Calls.{begun, is_waiting_command, next_command, word_of}
use Rattle.trace_model.specs.Client.{begin_due, begin_of, call_due, call_of, is_empty, is_over, may_answer}
use Rattle.trace_model.specs.Entry.{is_refusal}
use Rattle.trace_model.specs.Fence.{early_fence_of, is_signalled, is_there}
use Rattle.trace_model.specs.Numbers.{call_count, next_fence}
use Rattle.trace_model.specs.Open.{is_quiet}
use Rattle.trace_model.specs.Place.{Client, place, is_at, all_in_pool}
use Rattle.trace_model.specs.Queue.{queued}
use Rattle.trace_model.specs.Release.{release_due, signal_due}
use Rattle.trace_model.specs.Reply.{reply}
use Rattle.rule_conditions.specs.Client.{begin_conditions, begin_holds, call_conditions, call_holds, has_awaited, has_reply, has_word, release_conditions, release_holds, signal_conditions, signal_holds, waits, waits_for_idle, waits_for_pool, where_accepted}
use Rattle.rule_conditions.proofs.Tests.{by_test, no_entry, when_due, where_test}

-- ---- releases and signals

release_same : (a : ℕ) (b : BufferId) (f : FenceNo) → f.0 ≡ a → Release b (record { 0 = a }) ≡ Release b f
release_same a b f x =
    let k : Release b (record { 0 = a }) ≡ Release b (record { 0 = f.0 }) = rw x refl in k

fence_number : (a : ℕ) (f : FenceNo) → record { 0 = a } ≡ f → f.0 ≡ a
fence_number a f e = sym (ap (λ (z : FenceNo). z.0) e)

release_bools : (client there fence : Bool) → (client && (there && (fence && true))) ≡ ((client && there) && fence)
release_bools client there fence = grind arith

pub release_meets : (past : List Entry) (b : BufferId) (f : FenceNo) → IsTrue (list_all (λ c. release_holds c past b.0 f.0) release_conditions) ↔ (release_due past b.0 ≡ Some (Release b f))
release_meets past b f =
    by_test _ _ (release_bools (is_at (place b.0 past) Client) (is_there (early_fence_of b.0 past) past) (f.0 == next_fence past)) (where_test (is_at (place b.0 past) Client && is_there (early_fence_of b.0 past) past) (f.0 == next_fence past) (Release b (record { 0 = next_fence past })) (Release b f) (Decides-like _ (λ h. release_same (next_fence past) b f h) (λ e. fence_number (next_fence past) f (cc)) (Decides-eqb f.0 (next_fence past))))

signal_bools : (released signalled : Bool) → (released && (not signalled && true)) ≡ (released && not signalled)
signal_bools released signalled = grind arith

pub signal_meets : (past : List Entry) (f : FenceNo) → IsTrue (list_all (λ c. signal_holds c past f.0) signal_conditions) ↔ (signal_due past f.0 ≡ Some (Signal f))
signal_meets past f =
    by_test _ _ (signal_bools (nat_lt f.0 (next_fence past)) (is_signalled f.0 past)) (when_due (nat_lt f.0 (next_fence past) && not (is_signalled f.0 past)) (Signal f))

-- ---- begins

Decides-word : (a b : Word) → Decides (is_same_word.it a b) (a ≡ b)
Decides-word a b = search rules

begin_bools : (waits word begun : Bool) → (waits && (word && (not begun && true))) ≡ ((waits && not begun) && word)
begin_bools waits word begun = grind arith

begin_by : (past : List Entry) (o : Option Command) (word : Word) → IsTrue (waits o && (has_word o word && (not (is_some (begun past)) && true))) ↔ (begin_of past o ≡ Some (Begin word))
begin_by past None word = no_entry (Begin word)
begin_by past (Some c) word =
    by_test _ _ (begin_bools (is_waiting_command c) (is_same_word.it (word_of c) word) (is_some (begun past))) (where_test (is_waiting_command c && not (is_some (begun past))) _ _ _ (Decides-like (is_same_word.it (word_of c) word) (λ h. ap Begin h) (λ e. cc) (Decides-word (word_of c) word)))

pub begin_meets : (script : Script) (past : List Entry) (word : Word) → IsTrue (list_all (λ c. begin_holds c script past word) begin_conditions) ↔ (begin_due script past ≡ Some (Begin word))
begin_meets script past word = begin_by past (next_command script past) word

-- ---- calls

wait_bools : (refused quiet empty pool : Bool) → ((refused || (not true || quiet)) && ((refused || (not true || empty)) && ((refused || pool) && ((refused || true) && true)))) ≡ (refused || ((quiet && empty) && pool))
wait_bools refused quiet empty pool = grind arith

await_bools : (refused awaited : Bool) → ((refused || true) && ((refused || true) && ((refused || true) && ((refused || awaited) && true)))) ≡ (refused || awaited)
await_bools refused awaited = grind arith

idle_bools : (refused quiet empty : Bool) → ((refused || quiet) && ((refused || empty) && ((refused || true) && ((refused || true) && true)))) ≡ (refused || (quiet && empty))
idle_bools refused quiet empty = grind arith

over_by : (script : Script) (past : List Entry) (c : Command) (refused : Bool) → ((refused || (not (waits_for_idle c) || is_quiet past)) && ((refused || (not (waits_for_idle c) || is_empty (queued script past))) && ((refused || (not (waits_for_pool c) || all_in_pool past)) && ((refused || has_awaited script past c) && true)))) ≡ (refused || is_over script past c)
over_by script past (Configure specs) refused = wait_bools refused (is_quiet past) (is_empty (queued script past)) (all_in_pool past)
over_by script past (Once item) refused = await_bools refused true
over_by script past (Burst items) refused = await_bools refused true
over_by script past (Repeat items) refused = await_bools refused true
over_by script past Stop refused = await_bools refused true
over_by script past Wait refused = wait_bools refused (is_quiet past) (is_empty (queued script past)) (all_in_pool past)
over_by script past (Await k) refused = await_bools refused (has_awaited script past (Await k))
over_by script past Flush refused = idle_bools refused (is_quiet past) (is_empty (queued script past))
over_by script past Close refused = wait_bools refused (is_quiet past) (is_empty (queued script past)) (all_in_pool past)
over_by script past Disconnect refused = idle_bools refused (is_quiet past) (is_empty (queued script past))

call_is : (a : ℕ) (w : Word) (r : Reply) (i : ℕ) (word : Word) (other : Reply) → IsTrue ((i == a) && (is_same_word.it w word && is_same_reply.it r other)) ↔ (Call a w r ≡ Call i word other)
call_is a w r i word other =
    Decides-like _ (λ h. rw (h.0, h.1.0, h.1.1) refl) (λ e. (sym (cc), (cc, cc))) (Decides-and _ _ (Decides-eqb i a) (Decides-and _ _ (Decides-word w word) (Decides-reply_eq r other)))

call_bools : (index word begun same over : Bool) → (index && (word && (begun && (same && over)))) ≡ ((begun && over) && (index && (word && same)))
call_bools index word begun same over = grind arith

no_command : (index rest : Bool) → (index && (false && rest)) ≡ false
no_command true rest = refl
no_command false rest = refl

call_by : (script : Script) (past : List Entry) (o : Option Command) (i : ℕ) (word : Word) (r : Reply) → IsTrue ((i == call_count past) && (has_word o word && ((not (waits o) || is_some (begun past)) && (has_reply script past o r && (where_accepted script past o (λ c. not (waits_for_idle c) || is_quiet past) && (where_accepted script past o (λ c. not (waits_for_idle c) || is_empty (queued script past)) && (where_accepted script past o (λ c. not (waits_for_pool c) || all_in_pool past) && (where_accepted script past o (has_awaited script past) && true)))))))) ↔ (call_of script past o ≡ Some (Call i word r))
call_by script past None i word r = by_test _ false (no_command (i == call_count past) true) (no_entry (Call i word r))
call_by script past (Some c) i word r =
    by_test _ _ (ap (λ (over : Bool). (i == call_count past) && (is_same_word.it (word_of c) word && ((not (is_waiting_command c) || is_some (begun past)) && (is_same_reply.it (reply script past c) r && over)))) (over_by script past c (is_refusal (reply script past c))) ∙ call_bools (i == call_count past) (is_same_word.it (word_of c) word) (not (is_waiting_command c) || is_some (begun past)) (is_same_reply.it (reply script past c) r) (is_refusal (reply script past c) || is_over script past c)) (where_test (may_answer script past c) _ _ _ (call_is (call_count past) (word_of c) (reply script past c) i word r))

pub call_meets : (script : Script) (past : List Entry) (i : ℕ) (word : Word) (r : Reply) → IsTrue (list_all (λ c. call_holds c script past i word r) call_conditions) ↔ (call_due script past ≡ Some (Call i word r))
call_meets script past i word r = call_by script past (next_command script past) i word r
