use Rattle.std.proofs.Common.{List, [], ◌∷◌, Option, drop, filter, map, option_to_list}
use Rattle.std.specs.List.{flat_map}
use Rattle.cam_types.specs.Four.{four_list}
use Rattle.cam_types.specs.declared.row.TargetView.{TargetView}
use Rattle.service_core.specs.Candidates.{is_ready_by}
use Rattle.service_core.specs.Walks.{target_step}
use Rattle.service_core.proofs.Walking.{Continues}
use Rattle.service_core.proofs.frames.seek_row.Given as goal

abbrev pub invariant-loop-target : goal.invariant-loop-target
invariant-loop-target l =
    let q = is_ready_by l.state.script l.state.parts in
    let step = λ (target : TargetView). target_step l.kind l.row.frame target.stream in
    let each : List (Option TargetView) = l.row.targets.a ∷ (l.row.targets.b ∷ (l.row.targets.c ∷ (l.row.targets.d ∷ []))) in
    Continues (filter q (map step (four_list l.row.targets))) l.number (filter q (map step (flat_map option_to_list (drop l.target-index each)))) l.left
