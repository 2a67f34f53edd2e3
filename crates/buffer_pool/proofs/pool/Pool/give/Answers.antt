use Rattle.std.proofs.Common.{◌≡◌, ◌+◌, ◌-◌, ◌<◌, List, length, true, ap, arith}
use Rattle.buffer_pool.specs.declared.parked.Parked.{Parked}
use Rattle.buffer_pool.specs.Home.{Buffers}
use Rattle.buffer_pool.specs.Parked.{number}
use Rattle.buffer_pool.specs.Slots.{homes, stand_in}
use Rattle.buffer_pool.proofs.HomeLemmas.{is_of-parts}
use Rattle.buffer_pool.proofs.SlotLemmas.{homes-put, place-free, rises-placed, stand_in-put}
use Rattle.buffer_pool.proofs.pool.Pool.give.Goals as goal

pub put-requires-clause-free : goal.put-requires-clause-free
put-requires-clause-free c =
    let first = c.self.inside.first.0 in
    let end = c.self.inside.first.0 + c.self.inside.count in
    let n = number c.args.parked in
    let own = is_of-parts first c.self.inside.count n (rw (← c.self.view_is) at c.requires.own) in
    let away = rw (← c.self.view_is) at c.requires.away in
    rw c.id.ensures (place-free c.self.inside.slots first end n (n - first) c.self.invariant.placed (omega (arith, own.0)) away)

placed-after : (c : goal.After-self-1) → stand_in c.self.inside.first.0 (c.self.inside.first.0 + c.self.inside.count) c.put.new.slots ≡ true
placed-after c =
    let first = c.self.inside.first.0 in
    let end = c.self.inside.first.0 + c.self.inside.count in
    let n = number c.args.parked in
    let own = is_of-parts first c.self.inside.count n (rw (← c.self.view_is) at c.requires.own) in
    rw (c.put.ensures.put, c.id.ensures) (stand_in-put c.self.inside.slots c.args.parked (n - first) first end c.self.invariant.placed (omega (arith, own.0)) own.1)

pub invariant_of-self : goal.invariant_of-self
invariant_of-self c = record { placed = placed-after c; few = c.self.invariant.few; numbered = c.self.invariant.numbered }

abbrev with_home : Buffers → List Parked → Buffers
with_home pool home = record pool { home = home }

pub returns-clause-given : goal.returns-clause-given
returns-clause-given c =
    let first = c.self.inside.first.0 in
    let end = c.self.inside.first.0 + c.self.inside.count in
    let n = number c.args.parked in
    let own = is_of-parts first c.self.inside.count n (rw (← c.self.view_is) at c.requires.own) in
    let away = rw (← c.self.view_is) at c.requires.away in
    let free = place-free c.self.inside.slots first end n (n - first) c.self.invariant.placed (omega (arith, own.0)) away in
    let within : n - first < length c.self.inside.slots = rw c.id.ensures at c.put.ensures.within in
    let given = homes-put c.self.inside.slots c.args.parked first end (n - first) c.self.invariant.placed (omega (arith, own.0)) within free in
    rw (← c.self.view_is, c.put.ensures.put, c.id.ensures) (ap (λ (home : List Parked). with_home (record { spec = c.self.inside.spec; first = c.self.inside.first.0; count = c.self.inside.count; home = homes c.self.inside.slots }) home) given)

pub returns-clause-in_order : goal.returns-clause-in_order
returns-clause-in_order c =
    rises-placed c.put.new.slots c.self.inside.first.0 (c.self.inside.first.0 + c.self.inside.count) (placed-after c)
