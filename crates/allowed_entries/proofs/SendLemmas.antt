-- A send, whatever buffers it takes.
use Rattle.std.proofs.Common.{◌≡◌, ℕ, Bool, true, false, ◌&&◌, List, [], ◌∷◌, Option, Some, None, refl, sym, ap, ◌∙◌, is_some, if◌then◌else◌}
use Rattle.std.specs.List.{list_all}
use Rattle.cam_types.specs.declared.request.Queued.{Queued}
use Rattle.cam_types.specs.declared.script.Script.{Script}
use Rattle.trace_model.specs.declared.entry.Sent.{Sent}
use Rattle.trace_model.specs.Send.{are_last, targets_in_order, with_target}
use Rattle.state_facts.specs.Homes.{least_in}
use Rattle.state_facts.specs.States.{State, may_go_in, send_next_in, send_of, target_in, targets_in}
use Rattle.allowed_entries.specs.declared.entry.AllowedEntry.TheVariants as known
use Rattle.allowed_entries.specs.Known.{shown}

both : (s : State) (t : ℕ) (b : Option ℕ) (o : Option (List Sent)) → is_some (with_target (target_in s t b) o) ≡ (is_some b && is_some o)
both s t (Some b) (Some targets) = refl
both s t (Some b) None = refl
both s t None (Some targets) = refl
both s t None None = refl

-- there are targets where each stream has a buffer in the pool
targets-there : (s : State) (streams : List ℕ) → is_some (targets_in s streams) ≡ list_all (λ t. is_some (least_in s.buffers t)) streams
targets-there s [] = refl
targets-there s (t ∷ streams) =
    rw (both s t (least_in s.buffers t) (targets_in s streams), targets-there s streams) refl

-- what is told of the send doesn't depend on them
told : (s : State) (next : Queued) (o : Option (List Sent)) → shown (send_of s next o) ≡ (if is_some o then known.Send (record { 0 = s.queue.numbers }) next.request next.index (are_last s.last next.item.settings) ∷ [] else [])
told s next (Some targets) = refl
told s next None = refl

if-both : {X : Type 0} (a b : Bool) (x y : List X) → x ≡ (if b then y else []) → (if a && b then y else []) ≡ (if a then x else [])
if-both true b x y h = rw h refl
if-both false b x y h = refl

in-if : (a : Bool) (s : State) (next : Queued) (o : Option (List Sent)) → shown (if a then send_of s next o else None) ≡ (if a then shown (send_of s next o) else [])
in-if true s next o = refl
in-if false s next o = refl

-- the send is told of where it may go and each of its streams has a buffer in the pool
pub send_told : (script : Script) (s : State) (next : Queued) → shown (send_next_in script s (Some next)) ≡ (if may_go_in script s next && list_all (λ t. is_some (least_in s.buffers t)) (targets_in_order next.item) then known.Send (record { 0 = s.queue.numbers }) next.request next.index (are_last s.last next.item.settings) ∷ [] else [])
send_told script s next =
    let o = targets_in s (targets_in_order next.item) in
    let go = may_go_in script s next in
    let one = known.Send (record { 0 = s.queue.numbers }) next.request next.index (are_last s.last next.item.settings) ∷ [] in
    in-if go s next o
    ∙ (sym (if-both go (is_some o) (shown (send_of s next o)) one (told s next o))
    ∙ ap (λ (b : Bool). if go && b then one else []) (targets-there s (targets_in_order next.item)))
