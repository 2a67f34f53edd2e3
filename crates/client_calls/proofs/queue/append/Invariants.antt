use Rattle.std.proofs.Common.{◌≡◌, ◌++◌, take}
use Rattle.circular_buffer.specs.Buffer.{buffer}
use Rattle.client_calls.specs.Requests.{named}
use Rattle.client_calls.proofs.queue.append.Given as goal

-- the items up to the index are appended
abbrev pub invariant-loop-index : goal.invariant-loop-index
invariant-loop-index l = l.waiting ≡ buffer (l.initial.waiting.items ++ named l.request 0 (take l.index l.items)) l.initial.waiting.capacity
