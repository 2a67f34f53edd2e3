use Rattle.std.proofs.Common.{◌≤◌, ◌++◌, length, arith}
use Rattle.std.proofs.lemmas.Grind.{common_steps}
use Rattle.client_calls.specs.Requests.{named}
use Rattle.client_calls.proofs.queue.Queue.push_list.Goals as goal
use Rattle.trace_laws.proofs.FrameLemmas.{named-length}

-- there was room for the items
pub invariant_of-self : goal.invariant_of-self
invariant_of-self c =
    let size = named-length c.args.request 0 c.as_slice.result.now in
    let within : length (c.self.inside.waiting.items ++ named c.args.request 0 c.as_slice.result.now) ≤ 256 = grind (arith, common_steps) in
    record {
      queue_room = rw c.append.ensures c.self.invariant.queue_room;
      cycle_room = c.self.invariant.cycle_room;
      within = record { queued = rw c.append.ensures within; placed = c.self.invariant.within.placed };
    }
