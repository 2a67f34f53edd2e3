use Rattle.std.proofs.Common.{sym, arith}
use Rattle.fill_jobs.proofs.PlaceLemmas.{free_at, none_free}
use Rattle.fill_jobs.proofs.places.put.Goals as goal

pub unreachable-requires : goal.unreachable-requires
unreachable-requires c =
    let none = none_free 0 c.args.places.now (sym c.in_default.ensures.value) in
    let room = c.requires.room in
    omega (arith, none, room)

pub unreachable-requires-in-Some-replace : goal.unreachable-requires-in-Some-replace
unreachable-requires-in-Some-replace c =
    let free = free_at c.in-Some.place c.args.places.now (sym c.in-Some.ensures.value) in
    let there = free.there c.index-places-place.result in
    let value = c.in-Some-replace.ensures.value in
    cc

pub returns-clause-put : goal.returns-clause-put
returns-clause-put c =
    let free = free_at c.in-Some.place c.args.places.now (sym c.in-Some.ensures.value) in
    rw c.replace.ensures.after (free.more c.args.job)

pub returns-clause-fit : goal.returns-clause-fit
returns-clause-fit c =
    let free = free_at c.in-Some.place c.args.places.now (sym c.in-Some.ensures.value) in
    rw c.replace.ensures.after (free.fit c.args.job c.requires.fits c.requires.fit)
