use Rattle.std.proofs.Common.{◌≡◌, ◌++◌, take}
use Rattle.std.specs.Prelude.{string_bytes}
use Rattle.std.specs.List.{flat_map}
use Rattle.timeline_svg.specs.Pictures.{note_line}
use Rattle.timeline_svg.proofs.picture.put_note_lines.Given as goal

abbrev pub invariant-loop-note : goal.invariant-loop-note
invariant-loop-note l = string_bytes l.out ≡ string_bytes l.initial.out ++ flat_map note_line (take l.note-index l.notes)
