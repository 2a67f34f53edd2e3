use Rattle.std.proofs.Common.{◌≡◌, ◌++◌, take}
use Rattle.std.specs.Prelude.{string_bytes}
use Rattle.std.specs.List.{flat_map}
use Rattle.hal_text.specs.Person.{open_line}
use Rattle.hal_text.proofs.person.write_frames.Given as goal

abbrev pub invariant-loop-frame : goal.invariant-loop-frame
invariant-loop-frame l =
    string_bytes l.out ≡ string_bytes l.initial.out ++ flat_map (open_line l.log) (take l.frame-index l.frames)
