-- A call is of its command, and what it submits can be taken.
use Rattle.std.proofs.Common.{◌≡◌, ◌≤◌, ◌+◌, ℕ, Bool, true, false, List, [], ◌∷◌, Option, Some, None, refl, sym, ap, ◌∙◌, arith, length, nat_le, nat_lt}
use Rattle.std.specs.List.{list_all}
use Rattle.std.proofs.lemmas.Bool.{and_parts, false≢true}
use Rattle.std.proofs.lemmas.Bool.Decides.{nat_tests}
use Rattle.cam_types.specs.Refusals.{items_refusal, list_refusal, refused, where_true}
use Rattle.cam_types.specs.Script.{command_fits, is_valid, item_fits}
use Rattle.cam_types.specs.declared.item.Item.{Item}
use Rattle.cam_types.specs.declared.reply.Reply.{Reply}
use Rattle.cam_types.specs.declared.reply.Reply.TheVariants.{Configured, Ok, Refused, Submitted}
use Rattle.cam_types.specs.declared.script.Command.{Command}
use Rattle.cam_types.specs.declared.script.Command.TheVariants.{Once, Burst, Repeat}
use Rattle.cam_types.specs.declared.script.Script.{Script}
use Rattle.cam_types.specs.declared.script.Word.{Word}
use Rattle.trace_model.specs.declared.entry.Entry.{Entry}
use Rattle.trace_model.specs.declared.entry.Entry.TheVariants.{Call}
use Rattle.trace_model.specs.Calls.{command_at, word_of}
use Rattle.trace_model.specs.Configuration.{streams}
use Rattle.trace_model.specs.Legal.{IsLegal}
use Rattle.trace_model.specs.Numbers.{call_count}
use Rattle.trace_model.specs.Queue.{queued}
use Rattle.trace_model.specs.Reply.{acceptance, own_refusal, queue_refusal, refusal, reply, reply_with, state_refusal}
use Rattle.trace_laws.proofs.Calls.{call-is}
use Rattle.trace_laws.proofs.Refusals.{refuses, refusal-refuses}
use Rattle.trace_laws.proofs.ValidLemmas.{at-most, valid}
use Rattle.state_facts.proofs.Served.{list-none, or-none}
use Rattle.state_facts.specs.Turns.{turns}
use Rattle.client_calls.specs.Captures.{CanTake}
use Rattle.basic_lemmas.proofs.Lists.{all-at}

-- ---- no refusal held

-- the queue has room for the items
within-limit : (limit n : ℕ) (r : Reply) → where_true (nat_lt limit n) r ≡ None → n ≤ limit
within-limit limit n r h = by (nat_lt limit n) refl h
  where
    by : (b : Bool) → nat_lt limit n ≡ b → where_true b r ≡ None → n ≤ limit
    by true is h = absurd (cc)
    by false is h = grind (arith, nat_tests, is)

queue-room : (script : Script) (past : List Entry) (items : List Item) → queue_refusal script past items ≡ None → length (queued script past) + length items ≤ 256
queue-room script past items h = within-limit 256 (length (queued script past) + length items) (refused 11) h

has-place : (script : Script) (past : List Entry) (c : Command) → command_fits c ≡ true → refusal script past c ≡ None → CanTake (turns script past) c (acceptance script past c)
has-place script past (Once item) fits none =
    let own = (or-none (state_refusal past (Once item)) (own_refusal script past (Once item)) none).1 in
    let queue = (or-none (items_refusal (length (streams script past)) 0 (item ∷ [])) (queue_refusal script past (item ∷ [])) own).1 in
    (refl, queue-room script past (item ∷ []) queue)
has-place script past (Burst items) fits none =
    let own = (or-none (state_refusal past (Burst items)) (own_refusal script past (Burst items)) none).1 in
    let queue = (or-none (list_refusal (length (streams script past)) items) (queue_refusal script past items) own).1 in
    (refl, queue-room script past items queue)
has-place script past (Repeat items) fits none =
    let own = (or-none (state_refusal past (Repeat items)) (own_refusal script past (Repeat items)) none).1 in
    let some = (list-none (length (streams script past)) items own).0 in
    let few = at-most (length items) 8 (and_parts (nat_le (length items) 8) (list_all item_fits items) fits).0 in
    (refl, (omega (arith, some), few))
has-place script past c fits none = refl

can-take : (script : Script) (past : List Entry) (c : Command) (o : Option Reply) → command_fits c ≡ true → refuses o ≡ true → refusal script past c ≡ o → CanTake (turns script past) c (reply_with o (acceptance script past c))
can-take script past c None fits refused' at = has-place script past c fits at
can-take script past c (Some (Submitted r)) fits refused' at = absurd (false≢true refused')
can-take script past c (Some Ok) fits refused' at = absurd (false≢true refused')
can-take script past c (Some (Configured _)) fits refused' at = absurd (false≢true refused')
can-take script past c (Some (Refused _ _ _)) fits refused' at = tt

-- ---- the call of a legal past

pub call_taken : (script : Script) (past : List Entry) (i : ℕ) (word : Word) (reply : Reply) (c : Command) → is_valid script ≡ true → IsLegal script (Call i word reply ∷ past) → command_at script i ≡ Some c → (word ≡ word_of c) × CanTake (turns script past) c reply
call_taken script past i word answer c ok legal at =
    let is = call-is script past i word answer legal.0 in
    by is.0 (ap (λ (j : ℕ). command_at script j) (sym is.2) ∙ at) is.1 is.3 is.4
  where
    by : (d : Command) → command_at script (call_count past) ≡ Some c → command_at script (call_count past) ≡ Some d → word ≡ word_of d → answer ≡ reply script past d → (word ≡ word_of c) × CanTake (turns script past) c answer
    by d own next of is =
        let same : d ≡ c = cc in
        let fits = all-at command_fits script.commands i c (valid script ok).fit at in
        (of ∙ ap word_of same, rw (is, same) (can-take script past c (refusal script past c) fits (refusal-refuses script past c) refl))
