-- What stands after an entry is what the definitions say of it.
use Rattle.std.proofs.Common.{◌≡◌, ℕ, ◌∙◌, ap, sym, max, reverse}
use Rattle.std.proofs.lemmas.List.{length-reverse}
use Rattle.timeline_model.specs.Drawings.{configured, seats_after}
use Rattle.timeline_model.specs.Walks.{queued_by}
use Rattle.timeline_model.proofs.Queues.{queued_after}
use Rattle.timeline_model.proofs.walk.Walk.note.Goals as goal

pub returns-clause-fits : goal.returns-clause-fits
returns-clause-fits c =
    let fit = c.requires.fits in
    record {
      rows = c.in_ok-note_seats.ensures ∙ ap (seats_after c.args.entry.now (reverse c.args.entries.now)) fit.rows;
      queue = c.queued_after-self.ensures.value ∙ (ap (queued_by c.args.script.now c.args.entry.now) fit.queue ∙ sym (queued_after c.args.script.now (reverse c.args.entries.now) c.args.entry.now c.requires.legal));
      begin = c.begun_after-self.ensures (reverse c.args.entries.now) (length-reverse c.args.entries.now) fit.begin;
      stop = c.stops_after-self.ensures (reverse c.args.entries.now) fit.stop;
      failure = c.failed_after-self.ensures (reverse c.args.entries.now) fit.failure;
      lanes = c.streams_after-self.ensures ∙ ap (λ (n : ℕ). max n (configured c.args.entry.now)) fit.lanes;
    }
