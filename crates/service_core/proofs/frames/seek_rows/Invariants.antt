use Rattle.std.proofs.Common.{◌≡◌, drop, filter}
use Rattle.service_core.specs.Candidates.{is_ready_by}
use Rattle.service_core.specs.Walks.{steps_of_rows}
use Rattle.service_core.proofs.Walking.{Continues}
use Rattle.service_core.proofs.frames.seek_rows.Given as goal

abbrev pub invariant-loop-place : goal.invariant-loop-place
invariant-loop-place l =
    let q = is_ready_by l.state.script l.state.parts in
    let rows = l.state.parts.rows in
    (l.kind ≡ l.fn.kind) × Continues (filter q (steps_of_rows l.fn.kind rows)) l.number (filter q (steps_of_rows l.fn.kind (drop l.place rows))) l.left
