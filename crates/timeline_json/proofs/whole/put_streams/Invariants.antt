use Rattle.std.proofs.Common.{◌≡◌, ◌∷◌, ◌++◌, take}
use Rattle.std.specs.List.{flat_map}
use Rattle.serde_json.specs.Written.{compact_text}
use Rattle.timeline_json.specs.Timelines.{stream_name}
use Rattle.timeline_json.proofs.whole.put_streams.Given as goal

abbrev pub invariant-loop-lane : goal.invariant-loop-lane
invariant-loop-lane l = l.out.items ≡ l.initial.out.items ++ flat_map (λ lane. 44 ∷ compact_text (stream_name lane)) (take l.lane-index l.lanes)
