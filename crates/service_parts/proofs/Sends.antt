-- The send that is due is read from the parts: of the rows it asks their number alone.
use Rattle.std.proofs.Common.{◌≡◌, ℕ, Bool, ◌&&◌, ◌||◌, not, List, [], ◌∷◌, Option, Some, None, refl, sym, ap, ◌∙◌, length, nat_lt, if◌then◌else◌}
use Rattle.std.specs.List.{list_all}
use Rattle.cam_types.specs.declared.request.Queued.{Queued}
use Rattle.cam_types.specs.declared.script.Script.{Script}
use Rattle.trace_model.specs.declared.entry.Entry.{Entry}
use Rattle.trace_model.specs.declared.entry.Sent.{Sent}
use Rattle.trace_model.specs.Legal.{IsLegal}
use Rattle.trace_model.specs.Send.{send_due, targets_in_order, with_target}
use Rattle.run_model.specs.declared.step.Move.{Move}
use Rattle.run_model.specs.History.{trace_of}
use Rattle.run_model.specs.Run.{IsRun}
use Rattle.basic_lemmas.proofs.Lists.{all-agree}
use Rattle.run_model.proofs.Legal.{runs_legally}
use Rattle.state_facts.specs.Replies.{may_repeat_in, stopping_in}
use Rattle.state_facts.specs.Turns.{next_of}
use Rattle.state_facts.proofs.OpenRows.{count_reads}
use Rattle.run_rows.proofs.Counted.{count_is}
use Rattle.state_facts.specs.States.{has_room_in, may_go_in, send_next_in, send_of, state, target_in, targets_in}
use Rattle.state_facts.proofs.StateSends.{send_is}
use Rattle.service_parts.specs.Moves.{may_go_by, send_by, send_next_by}
use Rattle.service_parts.specs.Parts.{base, parts}

-- ---- targets and the send

target-same : (script : Script) (h : List Move) (s : ℕ) (o : Option ℕ) → target_in (state script (trace_of h)) s o ≡ target_in (base (parts script h)) s o
target-same script h s None = refl
target-same script h s (Some b) = refl

targets-same : (script : Script) (h : List Move) (streams : List ℕ) → targets_in (state script (trace_of h)) streams ≡ targets_in (base (parts script h)) streams
targets-same script h [] = refl
targets-same script h (s ∷ streams) =
    two _ _ _ _ (target-same script h s _) (targets-same script h streams)
  where
    two : (a b : Option Sent) (x y : Option (List Sent)) → a ≡ b → x ≡ y → with_target a x ≡ with_target b y
    two a b x y e f = rw (e, f) refl

send-same : (script : Script) (h : List Move) (w : Queued) (o : Option (List Sent)) → send_of (state script (trace_of h)) w o ≡ send_of (base (parts script h)) w o
send-same script h w None = refl
send-same script h w (Some targets) = refl

-- ---- whether an item may go

go-same : (script : Script) (h : List Move) (w : Queued) → IsLegal script (trace_of h) → may_go_in script (state script (trace_of h)) w ≡ may_go_by script (parts script h) w
go-same script h w legal =
    let p = parts script h in
    let s = state script (trace_of h) in
    let count : length s.rows ≡ length p.rows = sym (count_reads script (trace_of h) legal) ∙ count_is script h in
    let room = all-agree (has_room_in script s) (has_room_in script (base p)) (targets_in_order w.item) (λ t. refl) in
    ap (λ n. not (stopping_in p.client) && ((nat_lt n script.profile.depth && list_all (has_room_in script s) (targets_in_order w.item)) && (not w.repeating || may_repeat_in script p.client))) count
    ∙ ap (λ b. not (stopping_in p.client) && ((nat_lt (length p.rows) script.profile.depth && b) && (not w.repeating || may_repeat_in script p.client))) room

-- ---- the send that is due

next-same : (script : Script) (h : List Move) (o : Option Queued) → IsLegal script (trace_of h) → send_next_in script (state script (trace_of h)) o ≡ send_next_by script (parts script h) o
next-same script h None legal = refl
next-same script h (Some w) legal =
    let streams = targets_in_order w.item in
    by _ _ _ _ (go-same script h w legal)
    (send-same script h w (targets_in (state script (trace_of h)) streams)
    ∙ ap (λ (o : Option (List Sent)). send_of (base (parts script h)) w o) (targets-same script h streams))
  where
    by : (a b : Bool) (x y : Option Entry) → a ≡ b → x ≡ y → (if a then x else None) ≡ (if b then y else None)
    by a b x y e f = rw (e, f) refl

pub send-read : (script : Script) (h : List Move) → IsRun script h → send_due script (trace_of h) ≡ send_by script (parts script h)
send-read script h run =
    let legal = runs_legally script h run in
    send_is script (trace_of h) legal ∙ next-same script h (next_of (parts script h).queue) legal
