-- Each call of the queue is the step of the state for one kind of entry.
use Rattle.std.proofs.Common.{◌≡◌, ℕ, ◌+◌, Bool, true, false, List, [], ◌∷◌, ◌++◌, Option, Some, None, refl, ap, ◌∙◌, drop, slice_get, append-nil}
use Rattle.cam_types.specs.declared.item.Item.{Item}
use Rattle.cam_types.specs.declared.number.RequestId.{RequestId}
use Rattle.cam_types.specs.declared.request.WaitingItem.{WaitingItem}
use Rattle.cam_types.specs.declared.script.Command.TheVariants.{Repeat}
use Rattle.cam_types.specs.Requests.{Repeating}
use Rattle.trace_model.specs.Queue.{named, next_at}
use Rattle.client_calls.specs.Requests.{Requests, as_repeated, next_item, repeated_at}
use Rattle.client_calls.specs.Requests as own
use Rattle.std.specs.Option.{option_map}
use Rattle.state_facts.specs.Turns.{Turn, Turns, next_in_turn, next_of}
use Rattle.client_calls.specs.Views.{turn_in, turns_of}

-- ---- the next item

by-item : (r : RequestId) (i : ℕ) (o : Option Item) → option_map (as_repeated r i) o ≡ next_at r i o
by-item r i (Some item) = refl
by-item r i None = refl

in-turn : (place : ℕ) (o : Option Repeating) → repeated_at place o ≡ next_in_turn (turn_in o place)
in-turn place None = refl
in-turn place (Some r) = by-item r.request place (slice_get r.items place)

by-queue : (ws : List WaitingItem) (o : Option Repeating) (place n m : ℕ) → next_item (record { queued = ws; repeating = o; place = place }) ≡ next_of (turns_of (record { queued = ws; repeating = o; place = place }) n m)
by-queue [] o place n m = in-turn place o
by-queue (w ∷ ws) o place n m = refl

pub next_is : (q : Requests) (n m : ℕ) → next_item q ≡ next_of (turns_of q n m)
next_is q n m = by-queue q.queued q.repeating q.place n m

-- ---- sends and drops

-- ---- calls

same-turns : (a b : List WaitingItem) (p q : Option Turn) (n m : ℕ) → a ≡ b → p ≡ q → ◌≡◌ {A = Turns} (record { waiting = a; turn = p; numbers = n; requests = m }) (record { waiting = b; turn = q; numbers = n; requests = m })
same-turns a b p q n m x y = rw (x, y) refl

-- the items of a request are named alike
named-is : (r : RequestId) (k : ℕ) (items : List Item) → own.named r k items ≡ named r k items
named-is r k [] = refl
named-is r k (item ∷ items) = ap (λ (ws : List WaitingItem). record { request = r; index = k; item = item } ∷ ws) (named-is r (k + 1) items)
