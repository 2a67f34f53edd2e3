use Rattle.std.proofs.Common.{◌≡◌, ◌+◌, length, arith}
use Rattle.std.proofs.lemmas.Grind.{common_steps}
use Rattle.client_calls.proofs.captures.CaptureQueue.call.Goals as goal

-- a request more is counted, and has the number of those before it
pub returns-in-Submitted-clause-turns : goal.returns-in-Submitted-clause-turns
returns-in-Submitted-clause-turns c = λ script i at.
    let place = rw c.in-Submitted.is at c.requires.place in
    let counted = rw (← c.self.view_is) at place.0 in
    let more : length c.push_reserved.new.self.items ≡ c.in-Submitted.request.0 + 1 = grind (arith, common_steps, c.push_reserved.ensures.items, counted) in
    rw (c.in-Submitted.is, more, ← c.self.view_is)
    (c.submit.ensures script c.self.inside.frames (length c.self.inside.kinds.items) i at)

-- the command is no repeat
pub returns-in-Ok-clause-turns : goal.returns-in-Ok-clause-turns
returns-in-Ok-clause-turns c = λ script i at.
    let once = rw c.in-Ok.is at c.requires.place in
    rw (c.in-Ok.is, ← c.self.view_is) (c.clear.ensures script c.self.inside.frames (length c.self.inside.kinds.items) i once)

pub returns-in-Configured-clause-turns : goal.returns-in-Configured-clause-turns
returns-in-Configured-clause-turns c = λ script i at.
    let once = rw c.in-Configured.is at c.requires.place in
    rw (c.in-Configured.is, ← c.self.view_is)
    (c.clear-in-Configured.ensures script c.self.inside.frames (length c.self.inside.kinds.items) i once)
