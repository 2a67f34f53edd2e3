use Rattle.std.proofs.Common.{rules, ◌≡◌, ◌<◌, get_or, length, sym, arith}
use Rattle.std.proofs.lemmas.Grind.{common_steps}
use Rattle.std.proofs.lemmas.List.Sorted.{IsPermutation-remove}
use Rattle.turn_lock.proofs.tally.Tally.take_back.Goals as goal

pub returns-clause-taken : goal.returns-clause-taken
returns-clause-taken c =
    let out = c.args.self.now.out.items in
    let at : get_or out c.in-Some.place c.args.ticket ≡ c.args.ticket = first_of (search rules, grind (arith, common_steps)) in
    let low : c.in-Some.place < length out = first_of (search rules, grind (arith, common_steps)) in
    rw c.remove.ensures.items (IsPermutation-remove out c.in-Some.place c.args.ticket low (sym at))
