use Rattle.std.proofs.Common.{◌≡◌, ◌++◌, drop, filter}
use Rattle.hal_model.specs.Rules.{at_buffers}
use Rattle.hal_checks.specs.Buffers.{is_flawed}
use Rattle.hal_judge.proofs.fault.buffers_flawed.Given as goal

-- what is told and what is left are all that are flawed
abbrev pub invariant-loop-buffer : goal.invariant-loop-buffer
invariant-loop-buffer l =
    at_buffers l.frame (filter (is_flawed l.flaw) l.buffers)
    ≡ l.faults.items
    ++ at_buffers l.frame (filter (is_flawed l.flaw) (drop l.buffer-index l.buffers))
