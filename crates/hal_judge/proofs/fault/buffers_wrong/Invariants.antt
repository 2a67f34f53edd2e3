use Rattle.std.proofs.Common.{◌≡◌, ◌++◌, drop, filter}
use Rattle.hal_model.specs.Rules.{at_buffers}
use Rattle.hal_checks.specs.Buffers.{is_buffer_wrong}
use Rattle.hal_table.specs.State.{state_of}
use Rattle.hal_judge.proofs.fault.buffers_wrong.Given as goal

-- what is told and what is left are all that are at fault
abbrev pub invariant-loop-buffer : goal.invariant-loop-buffer
invariant-loop-buffer l =
    at_buffers l.frame (filter (is_buffer_wrong l.fault (state_of l.table) l.row) l.buffers)
    ≡ l.faults.items
    ++ at_buffers l.frame (filter (is_buffer_wrong l.fault (state_of l.table) l.row) (drop l.buffer-index l.buffers))
