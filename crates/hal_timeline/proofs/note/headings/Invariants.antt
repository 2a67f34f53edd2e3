-- What is found, and what the breaches that are left have.
use Rattle.std.proofs.Common.{◌≡◌, ◌++◌, None, drop}
use Rattle.hal_timeline.specs.Notes.{headings}
use Rattle.hal_timeline.proofs.note.headings.Given as goal

abbrev pub invariant-loop-breach : goal.invariant-loop-breach
invariant-loop-breach l = l.heads.items ++ headings l.last (drop l.breach-index l.breaches) ≡ headings None l.breaches
