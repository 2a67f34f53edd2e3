use Rattle.std.proofs.Common.{◌≡◌, ◌++◌, take}
use Rattle.std.specs.Prelude.{string_bytes}
use Rattle.std.specs.List.{flat_map}
use Rattle.timeline_svg.specs.Groups.{piece_text}
use Rattle.timeline_svg.proofs.group.put_pieces.Given as goal

abbrev pub invariant-loop-piece : goal.invariant-loop-piece
invariant-loop-piece l = string_bytes l.out ≡ string_bytes l.initial.out ++ flat_map (piece_text l.layout l.place) (take l.piece-index l.pieces)
