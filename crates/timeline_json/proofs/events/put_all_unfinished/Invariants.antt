use Rattle.std.proofs.Common.{◌≡◌, ◌∷◌, ◌++◌, take}
use Rattle.std.specs.List.{flat_map}
use Rattle.serde_json.specs.Written.{compact_text}
use Rattle.timeline_json.specs.Timelines.{unfinished_event}
use Rattle.timeline_json.proofs.events.put_all_unfinished.Given as goal

abbrev pub invariant-loop-piece : goal.invariant-loop-piece
invariant-loop-piece l = l.out.items ≡ l.initial.out.items ++ flat_map (λ p. 44 ∷ compact_text (unfinished_event l.last p)) (take l.piece-index l.pieces)
