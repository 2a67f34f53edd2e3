use Rattle.std.proofs.Common.{◌≡◌, ◌+◌, ◌<◌, ◌++◌, [], ℕ, List, Option, None, refl, ap, ◌∙◌, arith, length, map}
use Rattle.std.proofs.lemmas.List.{length-append, length-map, length-replicate, map-append, map_push}
use Rattle.cam_types.specs.declared.number.DeviceFenceNo.{DeviceFenceNo}
use Rattle.cam_types.specs.declared.number.FenceNo.{FenceNo}
use Rattle.trace_model.specs.Place.{Place}
use Rattle.buffer_manager.specs.declared.slot.Slot.TheVariants.{Home}
use Rattle.buffer_manager.specs.declared.stream.Stream.{Stream}
use Rattle.buffer_manager.specs.Slots.{fence_of, held_of, picture_of, place_of}
use Rattle.buffer_manager.proofs.Opens.{fresh, kept-more, lent-more, room-parts, size-few, timely-grown, total-few}
use Rattle.buffer_manager.proofs.manager.BufferManager.open_stream.Goals as goal
use Rattle.basic_lemmas.proofs.Tests.{map-replicate}

pub open_in-pool-requires-clause-free : goal.open_in-pool-requires-clause-free
open_in-pool-requires-clause-free c =
    let m = c.self.inside in
    let room = rw (← c.self.view_is) at c.requires.room in
    (lent-more m.profile m.streams.items (record { spec = c.args.spec; made = record { first = record { 0 = c.next_buffer.result }; count = c.pool_size-count.result }; pool = record { spec = c.args.spec; first = 0; count = 0; home = [] } }) m.blocks c.pool_size-count.result c.requires.offered c.pool_size-count.ensures refl c.self.invariant.2 room).free

pub add_homes-requires : goal.add_homes-requires
add_homes-requires c =
    let m = c.self.inside in
    let room = rw (← c.self.view_is) at c.requires.room in
    let parts = room-parts (map (λ (s : Stream). s.spec) m.streams.items) c.args.spec room in
    let few = parts.0 in
    let long = length-map m.streams.items (λ (s : Stream). s.spec) in
    let total = total-few m.profile (m.first + length m.slots.items) m.first m.streams.items c.self.invariant.3.valid c.self.invariant.0.in_turn c.self.invariant.2.sizes in
    let size = c.pool_size-count.ensures in
    let most = size-few m.profile c.args.spec.format c.self.invariant.3.valid in
    let cap = c.self.invariant.3.slots in
    omega (arith, few, long, total, size, most, cap)

pub invariant_of-self : goal.invariant_of-self
invariant_of-self c =
    let m = c.self.inside in
    let n = c.pool_size-count.result in
    let room = rw (← c.self.view_is) at c.requires.room in
    let numbered : m.first + (length (map place_of m.slots.items) + 18) < 4294967296 = rw (← c.self.view_is) at c.requires.numbered in
    let next : c.next_buffer.result ≡ m.first + length (map place_of m.slots.items) = rw (← c.self.view_is) at c.next_buffer.ensures in
    let places = length-map m.slots.items place_of in
    let next' : c.next_buffer.result ≡ m.first + length m.slots.items = omega (arith, next, places) in
    let lent = lent-more m.profile m.streams.items (record { spec = c.args.spec; made = record { first = record { 0 = c.next_buffer.result }; count = c.pool_size-count.result }; pool = c.open_in-pool.result }) m.blocks c.pool_size-count.result c.requires.offered c.pool_size-count.ensures refl c.self.invariant.2 room in
    let long = length-append m.slots.items (fresh c.pool_size-count.result) ∙ ap (λ x. length m.slots.items + x) (length-replicate c.pool_size-count.result (Home None)) in
    let size = c.pool_size-count.ensures in
    let most = size-few m.profile c.args.spec.format c.self.invariant.3.valid in
    rw (c.push_reserved.ensures.items, c.add_homes.ensures.slots, c.open_in-pool.ensures.blocks, c.push_reserved.ensures.capacity, c.add_homes.ensures.capacity) (
      kept-more m.first m.streams.items m.slots.items c.pool_size-count.result (record { spec = c.args.spec; made = record { first = record { 0 = c.next_buffer.result }; count = c.pool_size-count.result }; pool = c.open_in-pool.result }) c.self.invariant.0 c.requires.offered next' refl c.open_in-pool.ensures.opened,
      timely-grown m.late.signalled m.slots.items c.pool_size-count.result c.self.invariant.1,
      lent.lent,
      record {
        streams = c.self.invariant.3.streams;
        slots = c.self.invariant.3.slots;
        numbered = omega (arith, long, numbered, places, size, most);
        valid = c.self.invariant.3.valid;
      },
    )

pub returns : goal.returns
returns c =
    let m = c.self.inside in
    let made = map_push (λ (s : Stream). s.made) m.streams.items (record { spec = c.args.spec; made = record { first = record { 0 = c.next_buffer.result }; count = c.pool_size-count.result }; pool = c.open_in-pool.result }) in
    let specs = map_push (λ (s : Stream). s.spec) m.streams.items (record { spec = c.args.spec; made = record { first = record { 0 = c.next_buffer.result }; count = c.pool_size-count.result }; pool = c.open_in-pool.result }) in
    let places = map-append place_of m.slots.items (fresh c.pool_size-count.result) ∙ ap (λ (x : List Place). map place_of m.slots.items ++ x) (map-replicate place_of c.pool_size-count.result (Home None)) in
    let fences = map-append fence_of m.slots.items (fresh c.pool_size-count.result) ∙ ap (λ (x : List (Option FenceNo)). map fence_of m.slots.items ++ x) (map-replicate fence_of c.pool_size-count.result (Home None)) in
    let held = map-append held_of m.slots.items (fresh c.pool_size-count.result) ∙ ap (λ (x : List (Option DeviceFenceNo)). map held_of m.slots.items ++ x) (map-replicate held_of c.pool_size-count.result (Home None)) in
    let pictures = map-append picture_of m.slots.items (fresh c.pool_size-count.result) ∙ ap (λ (x : List (Option (List ℕ))). map picture_of m.slots.items ++ x) (map-replicate picture_of c.pool_size-count.result (Home None)) in
    rw (c.push_reserved.ensures.items, c.add_homes.ensures.slots, made, specs, places, fences, held, pictures, c.next_buffer.ensures, c.pool_size-count.ensures, ← c.self.view_is) refl
