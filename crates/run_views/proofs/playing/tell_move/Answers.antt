use Rattle.std.proofs.Common.{ap, length, option_to_list, refl}
use Rattle.std.specs.List.{flat_map}
use Rattle.trace_text.specs.Spelling.{line_of}
use Rattle.run_views.specs.Listing.{candidates_line}
use Rattle.run_views.proofs.Moves.{made_entry, made_line, none_made, one_made}
use Rattle.run_views.proofs.Pieces.{behind}
use Rattle.run_views.proofs.playing.tell_move.Goals as goal

pub returns-then-done-clause-told : goal.returns-then-done-clause-told
returns-then-done-clause-told g c =
    none_made c.args.service.now c.args.service.now c.args.teller.now (g.K.Sink.state c.args.sink.now) refl

pub put_entry-requires : goal.put_entry-requires
put_entry-requires g c =
    let past = c.args.service.now in
    let now = c.pick_step.new.service in
    let made = c.in-Done.ensures.stepped.made in
    let is = made_entry past now made.move c.entry_at.result (length c.trace-entries.result.now) made.made.left (ap length c.trace-entries.ensures) c.entry_at.ensures in
    made_line past now made.move c.entry_at.result made.made.left is c.is_a_run.ensures.lines

pub returns-clause-told : goal.returns-clause-told
returns-clause-told g c =
    let past = c.args.service.now in
    let now = c.pick_step.new.service in
    let made = c.in-Done.ensures.stepped.made in
    let is = made_entry past now made.move c.entry_at.result (length c.trace-entries.result.now) made.made.left (ap length c.trace-entries.ensures) c.entry_at.ensures in
    let first = g.K.Sink.state c.args.sink.now in
    let listed = g.K.Sink.state c.put_candidates.new.sink in
    let last = g.K.Sink.state c.put_entry.new.sink in
    let more = behind (candidates_line past.script past.history) (flat_map line_of (option_to_list made.move.entry)) c.args.teller.now c.put_candidates.new.teller c.put_entry.new.teller first listed last c.put_candidates.ensures (rw is at c.put_entry.ensures) in
    one_made past now made.move c.args.teller.now c.put_entry.new.teller first last made.made.left more
