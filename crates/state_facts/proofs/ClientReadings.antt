-- What the definitions ask of a past is read from the states.
use Rattle.std.proofs.Common.{◌≡◌, ℕ, Bool, ◌&&◌, ◌||◌, not, List, Option, Some, None, refl, ap, ◌∙◌, if◌then◌else◌}
use Rattle.std.specs.Prelude.{is_some}
use Rattle.cam_types.specs.declared.reply.Reply.{Reply}
use Rattle.cam_types.specs.declared.reply.Reply.TheVariants.{Configured}
use Rattle.cam_types.specs.declared.script.Command.{Command}
use Rattle.cam_types.specs.declared.script.Command.TheVariants.{Configure, Stop, Wait, Await, Close}
use Rattle.cam_types.specs.declared.script.Script.{Script}
use Rattle.trace_model.specs.declared.entry.Entry.{Entry}
use Rattle.trace_model.specs.declared.entry.Entry.TheVariants.{Call}
use Rattle.trace_model.specs.Calls.{begun, is_waiting_command, next_command, word_of}
use Rattle.trace_model.specs.Client.{begin_due, begin_of, call_due, call_of, is_idle, is_over, may_answer}
use Rattle.trace_model.specs.Entry.{is_refusal}
use Rattle.trace_model.specs.Legal.{IsLegal}
use Rattle.trace_model.specs.Numbers.{call_count}
use Rattle.trace_model.specs.Open.{is_quiet}
use Rattle.trace_model.specs.Queue.{repeating}
use Rattle.cam_types.specs.Requests.{Repeating}
use Rattle.trace_model.specs.Reply.{acceptance, made_for, own_refusal, reply, reply_with, state_refusal}
use Rattle.cam_types.specs.Refusals.{refused, or_else, where_true}
use Rattle.trace_model.specs.Send.{may_repeat}
use Rattle.cam_types.specs.Four.{four_of}
use Rattle.state_facts.specs.Turns.{placed, turns}
use Rattle.state_facts.specs.Homes.{homes}
use Rattle.state_facts.proofs.BufferReadings.{made_is, pool_is}
use Rattle.state_facts.specs.Clients.{clients}
use Rattle.state_facts.specs.Replies.{acceptance_in, begin_in, begin_with, call_in, call_with, may_answer_in, may_repeat_in, over_in, own_refusal_in, reply_in}

begin-with : (past : List Entry) (o : Option Command) → begin_of past o ≡ begin_with (begun past) o
begin-with past (Some c) = refl
begin-with past None = refl

pub begin_is : (script : Script) (past : List Entry) → begin_due script past ≡ begin_in script (clients script past)
begin_is script past = begin-with past (next_command script past)

pub may_repeat_is : (script : Script) (past : List Entry) → may_repeat script past ≡ may_repeat_in script (clients script past)
may_repeat_is script past = refl

some-turn : (past : List Entry) (q : Option Repeating) → is_some q ≡ is_some (placed past q)
some-turn past None = refl
some-turn past (Some q) = refl

own-is : (script : Script) (past : List Entry) (c : Command) → own_refusal script past c ≡ own_refusal_in (clients script past) (turns script past) c
own-is script past Stop = ap (λ b. where_true (not b) (refused 9)) (some-turn past (repeating script past))
own-is script past (Await k) = ap (λ b. where_true (not b) (refused 9)) (some-turn past (repeating script past))
own-is script past Wait = ap (λ b. where_true b (refused 10)) (some-turn past (repeating script past))
own-is script past _ = refl

acceptance-is : (script : Script) (past : List Entry) (c : Command) → acceptance script past c ≡ acceptance_in script (turns script past) (homes past) c
acceptance-is script past (Configure specs) = ap (λ (n : ℕ). Configured (four_of (made_for script.profile n specs))) (made_is past)
acceptance-is script past _ = refl

pub reply_is : (script : Script) (past : List Entry) (c : Command) → reply script past c ≡ reply_in script (clients script past) (turns script past) (homes past) c
reply_is script past c =
    ap (λ (o : Option Reply). reply_with (or_else (state_refusal past c) o) (acceptance script past c)) (own-is script past c)
    ∙ ap (λ (r : Reply). reply_with (or_else (state_refusal past c) (own_refusal_in (clients script past) (turns script past) c)) r) (acceptance-is script past c)

over-is : (script : Script) (past : List Entry) (c : Command) → IsLegal script past → is_over script past c ≡ over_in (is_quiet past) (clients script past) (turns script past) (homes past) c
over-is script past (Configure specs) legal = ap (λ b. is_idle script past && b) (pool_is script past legal)
over-is script past Wait legal = ap (λ b. is_idle script past && b) (pool_is script past legal)
over-is script past Close legal = ap (λ b. is_idle script past && b) (pool_is script past legal)
over-is script past _ legal = refl

answer-is : (script : Script) (past : List Entry) (c : Command) → IsLegal script past → may_answer script past c ≡ may_answer_in script (is_quiet past) (clients script past) (turns script past) (homes past) c
answer-is script past c legal =
    ap (λ (r : Reply). (not (is_waiting_command c) || is_some (begun past)) && (is_refusal r || is_over script past c)) (reply_is script past c)
    ∙ ap (λ b. (not (is_waiting_command c) || is_some (begun past)) && (is_refusal (reply_in script (clients script past) (turns script past) (homes past) c) || b)) (over-is script past c legal)

call-by : (i : ℕ) (c : Command) (a b : Bool) (r q : Reply) → a ≡ b → r ≡ q → ◌≡◌ {A = Option Entry} (if a then Some (Call i (word_of c) r) else None) (if b then Some (Call i (word_of c) q) else None)
call-by i c a b r q x y = rw (x, y) refl

call-is : (script : Script) (past : List Entry) (o : Option Command) → IsLegal script past → call_of script past o ≡ call_with script (is_quiet past) (clients script past) (turns script past) (homes past) o
call-is script past (Some c) legal = call-by (call_count past) c _ _ _ _ (answer-is script past c legal) (reply_is script past c)
call-is script past None legal = refl

pub call_is : (script : Script) (past : List Entry) → IsLegal script past → call_due script past ≡ call_in script (is_quiet past) (clients script past) (turns script past) (homes past)
call_is script past legal = call-is script past (next_command script past) legal
