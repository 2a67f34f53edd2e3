use Rattle.std.proofs.Common.{◌≡◌, map, take}
use Rattle.hal_row.specs.Given.{with_part}
use Rattle.hal_row.proofs.target.all_with_part.Given as goal

abbrev pub invariant-loop-part : goal.invariant-loop-part
invariant-loop-part l = l.rows ≡ map (with_part l.number) (take l.part-index l.parts)
