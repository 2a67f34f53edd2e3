use Rattle.std.proofs.Common.{◌∙◌, add-one, ap, sym}
use Rattle.basic_lemmas.proofs.Lists.{newest}
use Rattle.trace_check.proofs.Prefixes.{allowed-at, legal-before}
use Rattle.trace_check.specs.Held.{held}
use Rattle.allowed_entries.proofs.Joins.{at_some}
use Rattle.allowed_entries.proofs.tables.note_each.Goals as goal

pub note_by-requires-clause-legal : goal.note_by-requires-clause-legal
note_by-requires-clause-legal c = legal-before c.args.script.now c.args.entries.now c.loop-place.place c.requires.legal

pub note_by-requires-clause-allowed : goal.note_by-requires-clause-allowed
note_by-requires-clause-allowed c =
    allowed-at c.args.script.now c.args.entries.now c.loop-place.place _ c.requires.legal (at_some c.args.entries.now c.loop-place.place _ c.loop-place-test.true)

pub loop-place-preserved : goal.loop-place-preserved
loop-place-preserved c =
    rw add-one (c.in_ok-note_by.ensures ∙ ap (held c.args.script.now) (sym (newest c.args.entries.now c.loop-place.place _ (at_some c.args.entries.now c.loop-place.place _ c.loop-place-test.true))))
