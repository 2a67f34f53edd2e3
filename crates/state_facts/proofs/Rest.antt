-- What is due while no frame is open and each buffer is in the pool.
use Rattle.std.proofs.Common.{◌≡◌, ◌<◌, ◌≤◌, ℕ, zero, suc, ◌==◌, ◌+◌, ◌%◌, Bool, true, false, ◌&&◌, ◌||◌, not, List, [], ◌∷◌, Option, Some, None, refl, sym, ap, ◌∙◌, arith, inl, inr, is_some, length, nat_le, nat_lt, slice_get, if◌then◌else◌}
use Rattle.std.specs.List.{list_all}
use Rattle.std.proofs.lemmas.Bool.{and_from, and_parts, cases_Bool, false≢true}
use Rattle.std.proofs.lemmas.Bool.Decides.{nat_tests}
use Rattle.std.proofs.lemmas.Nat.{mod_below}
use Rattle.cam_types.specs.declared.reply.Reply.{Reply}
use Rattle.cam_types.specs.declared.script.Command.{Command}
use Rattle.cam_types.specs.declared.script.Command.TheVariants.{Configure, Once, Burst, Repeat, Stop, Wait, Await, Flush, Close, Disconnect}
use Rattle.cam_types.specs.declared.script.Script.{Script}
use Rattle.cam_types.specs.declared.script.Word.{Word}
use Rattle.cam_types.specs.declared.script.Word.TheVariants.{Await as WordAwait}
use Rattle.trace_model.specs.declared.entry.Entry.{Entry}
use Rattle.trace_model.specs.Calls.{begun, is_closed, is_waiting_command, next_command}
use Rattle.trace_model.specs.Client.{begin_due, call_due, done_since_begin, is_empty, is_idle, is_over, may_answer}
use Rattle.trace_model.specs.Complete.{is_all_called}
use Rattle.trace_model.specs.Drop.{drop_due}
use Rattle.trace_model.specs.Entry.{is_refusal}
use Rattle.trace_model.specs.Legal.{IsLegal}
use Rattle.trace_model.specs.Numbers.{call_count}
use Rattle.trace_model.specs.Open.{is_quiet}
use Rattle.trace_model.specs.Place.{all_in_pool}
use Rattle.trace_model.specs.Queue.{queued, repeating, sent_for}
use Rattle.cam_types.specs.Requests.{Repeating}
use Rattle.cam_types.specs.declared.request.Queued.{Queued}
use Rattle.cam_types.specs.declared.request.WaitingItem.{WaitingItem}
use Rattle.trace_model.specs.Reply.{own_refusal, refusal, reply, state_refusal}
use Rattle.cam_types.specs.Refusals.{refused, where_true}
use Rattle.trace_model.specs.Send.{may_repeat, repeated_since_call, send_due}
use Rattle.trace_model.specs.Stopping.{has_failed, is_stopping}
use Rattle.trace_laws.proofs.Calls.{calls_bounded}
use Rattle.trace_laws.proofs.Refusals.{refuses, refusal-refuses}
use Rattle.state_facts.proofs.Awaited.{await-few, begun-word}
use Rattle.state_facts.proofs.Listed.{list-served, queue-served}
use Rattle.state_facts.proofs.Sending.{send-goes}
use Rattle.state_facts.proofs.Served.{IsAble, is_served}
use Rattle.basic_lemmas.proofs.Lists.{all-at}
use Rattle.cam_types.proofs.RefusalLemmas.{or-none}

-- what comes next: a drop, a send, the client, or the end
pub data RestOf (script : Script) (past : List Entry) : Type 0 where
  Drops : is_some (drop_due script past) ≡ true → RestOf script past
  Sends : is_some (send_due script past) ≡ true → RestOf script past
  Begins : is_some (begin_due script past) ≡ true → RestOf script past
  Answers : is_some (call_due script past) ≡ true → RestOf script past
  Over : is_empty (queued script past) ≡ true → is_all_called script past ≡ true → RestOf script past

within_some : {X : Type 0} (xs : List X) (i : ℕ) → i < length xs → (x : X) × (slice_get xs i ≡ Some x)
within_some [] i l = absurd (omega (arith, l))
within_some (x ∷ xs) zero l = (x, refl)
within_some (x ∷ xs) (suc i) l = within_some xs i (omega (arith, l))

none_past : {X : Type 0} (xs : List X) (i : ℕ) → slice_get xs i ≡ None → length xs ≤ i
none_past [] i h = omega arith
none_past (x ∷ xs) zero h = absurd (cc)
none_past (x ∷ xs) (suc i) h = let ih = none_past xs i h in omega (arith, ih)

begun_or : (a b : Bool) → (a && not b) ≡ false → (not a || b) ≡ true
begun_or true true h = refl
begun_or true false h = absurd (false≢true (sym h))
begun_or false b h = refl

not_failed : (closed failed : Bool) (r s : Reply) (o : Option Reply) → (if closed then Some r else (if failed then Some s else o)) ≡ None → failed ≡ false
not_failed true failed r s o h = absurd (cc)
not_failed false true r s o h = absurd (cc)
not_failed false false r s o h = refl

some_repeats : (o : Option Repeating) → where_true (not (is_some o)) (refused 9) ≡ None → is_some o ≡ true
some_repeats None h = absurd (cc)
some_repeats (Some q) h = refl

pub none_waits : (xs : List WaitingItem) → is_empty xs ≡ true → xs ≡ []
none_waits [] h = refl
none_waits (x ∷ xs) h = absurd (false≢true h)

module _ (script : Script) (past : List Entry) (able : IsAble script.profile) (legal : IsLegal script past) (quiet : is_quiet past ≡ true) (home : all_in_pool past ≡ true) where
  -- ---- an item is queued
  queue_goes : (v : WaitingItem) (vs : List WaitingItem) → queued script past ≡ v ∷ vs → RestOf script past
  queue_goes v vs at =
      elim (cases_Bool (is_stopping past)) [
        | inl stopping ↦ Drops (rw (stopping, at) refl)
        | inr on ↦ (
            let all = rw at at (queue-served script past legal) in
            let served = (and_parts (is_served script past v.item) (list_all (λ w. is_served script past w.item) vs) all).0 in
            let w : Queued = record { request = v.request; index = v.index; item = v.item; repeating = false } in
            Sends (send-goes script past able legal quiet home w (rw at refl) served on refl)
            )
      ]

  -- ---- the repeating list
  list_goes : (q : Repeating) → queued script past ≡ [] → repeating script past ≡ Some q → is_stopping past ≡ false → may_repeat script past ≡ true → RestOf script past
  list_goes q none list on may =
      let all = list-served script past legal q list in
      let i = sent_for q.request.0 past % length q.items in
      let there = within_some q.items i (mod_below (sent_for q.request.0 past) (length q.items) all.0) in
      let served = all-at (is_served script past) q.items i there.0 all.1 there.1 in
      let w : Queued = record { request = q.request; index = i; item = there.0; repeating = true } in
      Sends (send-goes script past able legal quiet home w (rw (none, list, there.1) refl) served on may)

  await_repeats : (k : ℕ) → begun past ≡ Some WordAwait → next_command script past ≡ Some (Await k) → nat_le k (done_since_begin script past) ≡ false → may_repeat script past ≡ true
  await_repeats k word at lacks =
      let few = await-few script past WordAwait legal quiet word in
      let less = by (repeated_since_call script past) (done_since_begin script past) k few lacks in
      rw (word, at) less
    where
      by : (r d k : ℕ) → r ≤ 64 + d → nat_le k d ≡ false → nat_lt r (64 + k) ≡ true
      by r d k few lacks = grind (arith, nat_tests, few, lacks)

  await_goes : (k : ℕ) → queued script past ≡ [] → next_command script past ≡ Some (Await k) → refusal script past (Await k) ≡ None → (o : Option Word) → begun past ≡ o → is_some o ≡ true → nat_le k (done_since_begin script past) ≡ false → RestOf script past
  await_goes k none at accepted None word some lacks = absurd (false≢true some)
  await_goes k none at accepted (Some v) word some lacks =
      let same = begun-word script past v (Await k) legal word at in
      let word' : begun past ≡ Some WordAwait = word ∙ ap Some same in
      let parts = or-none (state_refusal past (Await k)) (own_refusal script past (Await k)) accepted in
      let failed = not_failed (is_closed past) (has_failed past) _ _ _ parts.0 in
      by (repeating script past) refl (some_repeats (repeating script past) parts.1) (rw (word', failed) refl) (await_repeats k word' at lacks)
    where
      by : (o : Option Repeating) → repeating script past ≡ o → is_some o ≡ true → is_stopping past ≡ false → may_repeat script past ≡ true → RestOf script past
      by None list some on may = absurd (false≢true some)
      by (Some q) list some on may = list_goes q none list on may

  -- ---- the client
  answers : (c : Command) → next_command script past ≡ Some c → (not (is_waiting_command c) || is_some (begun past)) ≡ true → (is_refusal (reply script past c) || is_over script past c) ≡ true → RestOf script past
  answers c at turn over = let may : may_answer script past c ≡ true = and_from _ _ turn over in Answers (rw (at, may) refl)

  over_answers : (c : Command) → next_command script past ≡ Some c → (not (is_waiting_command c) || is_some (begun past)) ≡ true → is_over script past c ≡ true → RestOf script past
  over_answers c at turn over = answers c at turn (or_right (is_refusal (reply script past c)) (is_over script past c) over)
    where
      or_right : (a b : Bool) → b ≡ true → (a || b) ≡ true
      or_right true b h = refl
      or_right false b h = h

  idle_now : is_empty (queued script past) ≡ true → is_idle script past ≡ true
  idle_now empty = rw (quiet, empty) refl

  home_now : is_empty (queued script past) ≡ true → (is_idle script past && all_in_pool past) ≡ true
  home_now empty = rw (quiet, empty, home) refl

  accepted_goes : (c : Command) → is_empty (queued script past) ≡ true → next_command script past ≡ Some c → (not (is_waiting_command c) || is_some (begun past)) ≡ true → refusal script past c ≡ None → RestOf script past
  accepted_goes (Await k) empty at turn none =
      elim (cases_Bool (nat_le k (done_since_begin script past))) [
        | inl enough ↦ over_answers (Await k) at turn enough
        | inr lacks ↦ await_goes k (none_waits (queued script past) empty) at none (begun past) refl turn lacks
      ]
  accepted_goes (Configure specs) empty at turn none = over_answers (Configure specs) at turn (home_now empty)
  accepted_goes Wait empty at turn none = over_answers Wait at turn (home_now empty)
  accepted_goes Close empty at turn none = over_answers Close at turn (home_now empty)
  accepted_goes Flush empty at turn none = over_answers Flush at turn (idle_now empty)
  accepted_goes Disconnect empty at turn none = over_answers Disconnect at turn (idle_now empty)
  accepted_goes (Once item) empty at turn none = over_answers (Once item) at turn refl
  accepted_goes (Burst items) empty at turn none = over_answers (Burst items) at turn refl
  accepted_goes (Repeat items) empty at turn none = over_answers (Repeat items) at turn refl
  accepted_goes Stop empty at turn none = over_answers Stop at turn refl

  by_refusal : (c : Command) (o : Option Reply) → is_empty (queued script past) ≡ true → next_command script past ≡ Some c → (not (is_waiting_command c) || is_some (begun past)) ≡ true → refusal script past c ≡ o → refuses o ≡ true → RestOf script past
  by_refusal c None empty at turn is h = accepted_goes c empty at turn is
  by_refusal c (Some r) empty at turn is h = let refusal' : is_refusal (reply script past c) ≡ true = rw is h in answers c at turn (rw refusal' refl)

  command_goes : (c : Command) → is_empty (queued script past) ≡ true → next_command script past ≡ Some c → RestOf script past
  command_goes c empty at =
      elim (cases_Bool (is_waiting_command c && not (is_some (begun past)))) [
        | inl begins ↦ Begins (rw (at, begins) refl)
        | inr turn ↦ by_refusal c (refusal script past c) empty at (begun_or (is_waiting_command c) (is_some (begun past)) turn) refl (refusal-refuses script past c)
      ]

  empty_goes : (o : Option Command) → is_empty (queued script past) ≡ true → next_command script past ≡ o → RestOf script past
  empty_goes (Some c) empty at = command_goes c empty at
  empty_goes None empty at =
      let over = none_past script.commands (call_count past) at in
      let few = calls_bounded script past legal in
      Over empty (by (call_count past) (length script.commands) over few)
    where
      by : (a b : ℕ) → b ≤ a → a ≤ b → (a == b) ≡ true
      by a b h k = grind (arith, nat_tests, h, k)

  by_queue : (xs : List WaitingItem) → queued script past ≡ xs → RestOf script past
  by_queue [] at = empty_goes (next_command script past) (rw at refl) refl
  by_queue (v ∷ vs) at = queue_goes v vs at

  pub rest-of : RestOf script past
  rest-of = by_queue (queued script past) refl
