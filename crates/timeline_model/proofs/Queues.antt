-- How many items wait after an entry of a legal trace.
use Rattle.std.proofs.Common.{◌≡◌, ℕ, suc, ◌+◌, ◌-◌, List, [], ◌∷◌, ◌++◌, length, refl, ap, sym, ◌∙◌, arith, length-append}
use Rattle.cam_types.specs.declared.item.Item.{Item}
use Rattle.cam_types.specs.declared.reply.Reply.TheVariants.{Ok, Submitted, Configured, Refused}
use Rattle.cam_types.specs.declared.request.WaitingItem.{WaitingItem}
use Rattle.cam_types.specs.declared.script.Script.{Script}
use Rattle.trace_model.specs.Calls.{command_at}
use Rattle.trace_model.specs.Legal.{IsLegal}
use Rattle.trace_model.specs.Queue.{named, puts, queued, queued_items}
use Rattle.trace_model.specs.declared.entry.Entry.{Entry}
use Rattle.trace_model.specs.declared.entry.Entry.TheVariants.{Call, Send, Dropped}
use Rattle.state_facts.specs.Turns.{Turns, turns_after, tail, turns}
use Rattle.state_facts.proofs.Steps.{noted_is}
use Rattle.timeline_model.specs.Walks.{queued_by}
use Rattle.trace_laws.proofs.FrameLemmas.{named-length}

tail-length : (ws : List WaitingItem) → length (tail ws) ≡ length ws - 1
tail-length [] = refl
tail-length (w ∷ ws) = omega arith

by-entry : (script : Script) (e : Entry) (t : Turns) → length (turns_after script e t).waiting ≡ queued_by script e (length t.waiting)
by-entry script (Call i w Ok) t = omega (arith, length-append t.waiting [])
by-entry script (Call i w (Submitted r)) t = length-append t.waiting (puts script (Call i w (Submitted r))) ∙ ap (λ n. length t.waiting + n) (named-length r 0 (queued_items (command_at script i)))
by-entry script (Call i w (Configured m)) t = omega (arith, length-append t.waiting [])
by-entry script (Call i w (Refused c f s)) t = omega (arith, length-append t.waiting [])
by-entry script (Send n r i same ts) t = tail-length t.waiting
by-entry script (Dropped n r i) t = tail-length t.waiting
by-entry script _ t = refl

pub queued_after : (script : Script) (past : List Entry) (e : Entry) → IsLegal script (e ∷ past) → length (queued script (e ∷ past)) ≡ queued_by script e (length (queued script past))
queued_after script past e legal = ap (λ (t : Turns). length t.waiting) (noted_is script past e legal) ∙ by-entry script e (turns script past)
