use Rattle.std.proofs.Common.{◌≡◌, Option, None, Some, refl, ◌∙◌}
use Rattle.std.specs.Prelude.{slice_get}
use Rattle.std.proofs.lemmas.Option.{get_or_from_slice_get}
use Rattle.buffer_pool.specs.declared.parked.Parked.{Parked}
use Rattle.buffer_manager.specs.declared.stream.Stream.{Stream}
use Rattle.buffer_manager.specs.Streams.{MayGive}
use Rattle.buffer_manager.proofs.stream.give_to.Goals as goal

-- the stream that takes the buffer
there : (o : Option Stream) (parked : Parked) → MayGive parked o → (s : Stream) × (o ≡ Some s) × MayGive parked (Some s)
there (Some s) parked may = (s, refl, may)
there None parked may = absurd may

pub give-requires-clause-own : goal.give-requires-clause-own
give-requires-clause-own c =
    let (s, at, may) = there (slice_get c.args.streams.now.items c.args.place) c.args.parked c.requires in
    rw (c.index_mut.ensures.value ∙ get_or_from_slice_get c.args.streams.now.items c.args.place s c.index_mut.result.now at) may.0

pub give-requires-clause-away : goal.give-requires-clause-away
give-requires-clause-away c =
    let (s, at, may) = there (slice_get c.args.streams.now.items c.args.place) c.args.parked c.requires in
    rw (c.index_mut.ensures.value ∙ get_or_from_slice_get c.args.streams.now.items c.args.place s c.index_mut.result.now at) may.1

pub returns-clause-given : goal.returns-clause-given
returns-clause-given c =
    let (s, at, may) = there (slice_get c.args.streams.now.items c.args.place) c.args.parked c.requires in
    let is = c.index_mut.ensures.value ∙ get_or_from_slice_get c.args.streams.now.items c.args.place s c.index_mut.result.now at in
    rw (at, c.give.ensures.given, is) refl
