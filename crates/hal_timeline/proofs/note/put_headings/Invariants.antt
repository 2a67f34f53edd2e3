use Rattle.std.proofs.Common.{◌≡◌, ◌++◌, map, take}
use Rattle.hal_timeline.specs.Notes.{heading_text}
use Rattle.hal_timeline.proofs.note.put_headings.Given as goal

abbrev pub invariant-loop-breach : goal.invariant-loop-breach
invariant-loop-breach l = l.notes ≡ l.initial.notes ++ map (heading_text l.lines) (take l.breach-index l.heads)
