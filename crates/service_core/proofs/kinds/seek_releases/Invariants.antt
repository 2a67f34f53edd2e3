use Rattle.std.proofs.Common.{ℕ, ◌+◌, ◌-◌, filter, map}
use Rattle.std.specs.List.{range_with_len}
use Rattle.run_model.specs.declared.step.StepName.TheVariants.{Release}
use Rattle.service_core.specs.Candidates.{is_ready_by}
use Rattle.service_core.proofs.Walking.{Continues}
use Rattle.service_core.proofs.kinds.seek_releases.Given as goal

abbrev pub invariant-loop-place : goal.invariant-loop-place
invariant-loop-place l =
    let q = is_ready_by l.state.script l.state.parts in
    let step = λ (b : ℕ). Release (record { 0 = b }) in
    Continues (filter q (map step (range_with_len l.first l.count))) l.number (filter q (map step (range_with_len (l.first + l.place) (l.count - l.place)))) l.left
