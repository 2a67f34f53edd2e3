use Rattle.std.proofs.Common.{reverse, take}
use Rattle.arbiter_call.specs.Arbitrates.{IsLogText}
use Rattle.arbiter_call.proofs.sessions.tell_log.Given as goal

abbrev pub invariant-loop-line : goal.invariant-loop-line
invariant-loop-line l = IsLogText (reverse (take l.line-index l.log)) l.text.text.items
