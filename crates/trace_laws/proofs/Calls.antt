-- What a legal past says of its calls: each is the command in turn, with the reply that the past before it gives.
use Rattle.std.proofs.Common.{◌≡◌, ℕ, ◌≤◌, Bool, true, false, List, [], ◌∷◌, Option, Some, None, refl, arith, length, if◌then◌else◌}
use Rattle.cam_types.specs.declared.reply.Reply.{Reply}
use Rattle.cam_types.specs.declared.reply.Reply.TheVariants.{Submitted}
use Rattle.trace_model.specs.Entry.{is_call}
use Rattle.trace_model.specs.Legal.{IsLegal}
use Rattle.cam_types.specs.declared.script.Command.{Command}
use Rattle.cam_types.specs.declared.script.Script.{Script}
use Rattle.cam_types.specs.declared.script.Word.{Word}
use Rattle.trace_model.specs.declared.entry.Entry.{Entry}
use Rattle.trace_model.specs.declared.entry.Entry.TheVariants.{Call}
use Rattle.trace_model.specs.Calls.{is_submission, next_command, request_count, word_of}
use Rattle.trace_model.specs.Client.{call_due, call_of, may_answer}
use Rattle.trace_model.specs.Numbers.{call_count}
use Rattle.trace_model.specs.Reply.{reply}
use Rattle.basic_lemmas.proofs.Counts.{count-cons, place-within}

call_parts : (b : Bool) (i j : ℕ) (w v : Word) (r q : Reply) → (if b then Some (Call j v q) else None) ≡ Some (Call i w r) → (i ≡ j) × (w ≡ v) × (r ≡ q)
call_parts true i j w v r q h = (cc, cc, cc)
call_parts false i j w v r q h = absurd (cc)

called : (script : Script) (past : List Entry) (o : Option Command) (i : ℕ) (w : Word) (r : Reply) → call_of script past o ≡ Some (Call i w r) → (c : Command) × (o ≡ Some c) × (i ≡ call_count past) × (w ≡ word_of c) × (r ≡ reply script past c)
called script past None i w r h = absurd (cc)
called script past (Some c) i w r h =
    let parts = call_parts (may_answer script past c) i (call_count past) w (word_of c) r (reply script past c) h in
    (c, refl, parts.0, parts.1, parts.2)

-- the command that a call answers
pub call-is : (script : Script) (past : List Entry) (i : ℕ) (w : Word) (r : Reply) → call_due script past ≡ Some (Call i w r) → (c : Command) × (next_command script past ≡ Some c) × (i ≡ call_count past) × (w ≡ word_of c) × (r ≡ reply script past c)
call-is script past = called script past (next_command script past)

by_parts : (P : Entry → Type 0) (i j : ℕ) (w v : Word) (r q : Reply) → i ≡ j → w ≡ v → r ≡ q → P (Call j v q) → P (Call i w r)
by_parts P i j w v r q x y z p = rw (x, y, z) p

-- what holds of each call that may be due holds of the one that stands
pub by-call : (P : Entry → Type 0) (script : Script) (past : List Entry) (i : ℕ) (w : Word) (r : Reply) → call_due script past ≡ Some (Call i w r) → ((c : Command) → next_command script past ≡ Some c → P (Call (call_count past) (word_of c) (reply script past c))) → P (Call i w r)
by-call P script past i w r h each =
    let c = call-is script past i w r h in
    by_parts P i (call_count past) w (word_of c.0) r (reply script past c.0) c.2 c.3 c.4 (each c.0 c.1)

-- ---- how many calls there are

pub calls_bounded : (script : Script) (past : List Entry) → IsLegal script past → call_count past ≤ length script.commands
calls_bounded script [] legal = omega arith
calls_bounded script (Call i w r ∷ past) legal =
    let c = call-is script past i w r legal.0 in
    let within = place-within script.commands (call_count past) c.0 c.1 in
    let one = count-cons is_call (Call i w r) past in
    omega (arith, within, one)
calls_bounded script (e ∷ past) legal = calls_bounded script past legal.1

pub submissions-called : (past : List Entry) → request_count past ≤ call_count past
submissions-called [] = omega arith
submissions-called (Call i w (Submitted r) ∷ past) =
    let ih = submissions-called past in
    let one = count-cons is_call (Call i w (Submitted r)) past in
    let two = count-cons is_submission (Call i w (Submitted r)) past in
    omega (arith, ih, one, two)
submissions-called (Call i w r ∷ past) =
    let ih = submissions-called past in
    let one = count-cons is_call (Call i w r) past in
    let two = count-cons is_submission (Call i w r) past in
    omega (arith, ih, one, two)
submissions-called (e ∷ past) = submissions-called past

pub requests_bounded : (script : Script) (past : List Entry) → IsLegal script past → request_count past ≤ length script.commands
requests_bounded script past legal = let few = calls_bounded script past legal in let called' = submissions-called past in omega (arith, few, called')

answered : (script : Script) (past : List Entry) (o : Option Command) (i : ℕ) (w : Word) (r : Reply) → call_of script past o ≡ Some (Call i w r) → (c : Command) → o ≡ Some c → may_answer script past c ≡ true
answered script past None i w r h c at = absurd (cc)
answered script past (Some d) i w r h c at =
    let same : d ≡ c = cc in
    rw (← same) (given (may_answer script past d) (Call (call_count past) (word_of d) (reply script past d)) (Call i w r) h)
  where
    given : (b : Bool) (x y : Entry) → (if b then Some x else None) ≡ Some y → b ≡ true
    given true x y h = refl
    given false x y h = absurd (cc)

-- the same, where the command may be answered
pub by-answer : (P : Entry → Type 0) (script : Script) (past : List Entry) (i : ℕ) (w : Word) (r : Reply) → call_due script past ≡ Some (Call i w r) → ((c : Command) → next_command script past ≡ Some c → may_answer script past c ≡ true → P (Call (call_count past) (word_of c) (reply script past c))) → P (Call i w r)
by-answer P script past i w r h each =
    by-call P script past i w r h (λ c at. each c at (answered script past (next_command script past) i w r h c at))
