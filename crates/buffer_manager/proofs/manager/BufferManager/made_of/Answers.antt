use Rattle.std.proofs.Common.{◌+◌, ◌∙◌, sym, length}
use Rattle.std.proofs.lemmas.Option.{slice_get-map}
use Rattle.buffer_manager.specs.declared.stream.Stream.{Stream}
use Rattle.buffer_manager.proofs.Owners.{made-fits}
use Rattle.buffer_manager.proofs.manager.BufferManager.made_of.Goals as goal

pub returns-clause-value : goal.returns-clause-value
returns-clause-value c =
    let m = c.self.inside in
    let is = rw c.deref.ensures.value at c.made_at.ensures in
    rw (← c.self.view_is) (is ∙ sym (slice_get-map (λ (s : Stream). s.made) m.streams.items c.args.stream))

pub returns-clause-fits : goal.returns-clause-fits
returns-clause-fits c =
    let m = c.self.inside in
    made-fits (m.first + length m.slots.items) m.first m.streams.items c.args.stream c.made_at.result c.self.invariant.0.in_turn c.self.invariant.3.numbered (rw c.deref.ensures.value at c.made_at.ensures)
