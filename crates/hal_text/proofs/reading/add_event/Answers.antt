use Rattle.std.proofs.Common.{◌∙◌, refl, sym}
use Rattle.hal_text.proofs.Drafts.{stands-more}
use Rattle.hal_text.specs.declared.log.HalLog.{HalLog}
use Rattle.hal_text.proofs.reading.add_event.Goals as goal

pub returns-clause-stands : goal.returns-clause-stands
returns-clause-stands c =
    let begun = sym (c.has_begin.ensures c.args.log.now.events c.requires.knows) ∙ c.if-not-has_begin.false in
    let more : HalLog = record c.args.log.now { events = c.push.new.self; lines = c.push-2.new.self } in
    stands-more c.args.line c.args.log.now more c.args.event c.note.new.self c.requires.valid c.requires.event begun c.requires.same (rw (c.in_ok-push.ensures.ok, c.in_ok-push-2.ensures.ok) refl) (rw c.in_ok-push.ensures.ok (c.in_ok-note.ensures c.args.log.now.events c.requires.knows))
