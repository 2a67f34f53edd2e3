-- What the definitions ask of a past is read from the state.
use Rattle.std.proofs.Common.{◌≡◌, List, Option, Some, None, refl, ap}
use Rattle.cam_types.specs.declared.script.Script.{Script}
use Rattle.trace_model.specs.declared.entry.Entry.{Entry}
use Rattle.trace_model.specs.Queue.{first_in, next, next_from, next_repeating, queued, repeating}
use Rattle.cam_types.specs.Requests.{Repeating}
use Rattle.cam_types.specs.declared.request.Queued.{Queued}
use Rattle.state_facts.specs.Turns.{next_in_turn, next_of, placed, turns}

in-turn : (past : List Entry) (q : Option Repeating) → next_repeating q past ≡ next_in_turn (placed past q)
in-turn past None = refl
in-turn past (Some q) = refl

pub next_is : (script : Script) (past : List Entry) → next script past ≡ next_of (turns script past)
next_is script past = ap (λ (o : Option Queued). next_from (first_in (queued script past)) o) (in-turn past (repeating script past))
