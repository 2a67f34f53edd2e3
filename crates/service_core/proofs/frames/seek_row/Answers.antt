use Rattle.std.proofs.Common.{◌≡◌, ◌<◌, ℕ, ◌+◌, Bool, false, List, [], ◌∷◌, Option, None, Result, Ok, Err, ap, sym, ◌∙◌, drop, filter, get_or, length, map, option_to_list}
use Rattle.std.specs.List.{flat_map}
use Rattle.cam_types.specs.Four.{four_list}
use Rattle.cam_types.specs.declared.row.RowView.{RowView}
use Rattle.cam_types.specs.declared.row.TargetView.{TargetView}
use Rattle.service_core.specs.Candidates.{is_ready_by}
use Rattle.cam_types.specs.declared.script.Script.{Script}
use Rattle.run_model.specs.declared.step.StepName.{StepName}
use Rattle.service_core.specs.Finding.{Finds}
use Rattle.service_core.specs.Looks.{may_have_some}
use Rattle.service_core.specs.Walks.{target_step}
use Rattle.service_core.specs.declared.frames.OfTarget.{OfTarget}
use Rattle.service_core.proofs.Idle.{targets_left}
use Rattle.service_core.proofs.Walking.{Continues, Turns, ends, none_left, piece_or, rest_none, turns}
use Rattle.service_core.proofs.frames.seek_row.Goals as goal

abbrev each : RowView → List (Option TargetView)
each row = row.targets.a ∷ (row.targets.b ∷ (row.targets.c ∷ (row.targets.d ∷ [])))

-- the steps for these targets that are ready
abbrev ready : (StepName → Bool) → OfTarget → RowView → List TargetView → List StepName
ready q kind row ts = filter q (map (λ (target : TargetView). target_step kind row.frame target.stream) ts)

abbrev behind : (StepName → Bool) → OfTarget → RowView → ℕ → List StepName
behind q kind row n = ready q kind row (flat_map option_to_list (drop n (each row)))

turn : (q : StepName → Bool) (kind : OfTarget) (row : RowView) (number n left : ℕ) → Continues (ready q kind row (four_list row.targets)) number (behind q kind row n) left → n < length (each row) → (r : Result StepName ℕ) → Finds (ready q kind row (option_to_list (get_or (each row) n None))) left r → Turns (ready q kind row (four_list row.targets)) number (behind q kind row (n + 1)) r
turn q kind row number n left goes less r found =
    turns (ready q kind row (four_list row.targets)) (behind q kind row n) (ready q kind row (option_to_list (get_or (each row) n None))) (behind q kind row (n + 1)) number left goes (piece_or q (λ (target : TargetView). target_step kind row.frame target.stream) option_to_list (each row) n None less) r found

pub returns-in-Ok : goal.returns-in-Ok
returns-in-Ok c =
    let s = c.args.state.now in
    turn (is_ready_by s.script s.parts) c.args.kind c.args.row c.args.number c.loop-target.target-index c.loop-target.left c.loop-target.invariant c.loop-target-test.true (Ok c.in-Ok.step) c.in-Ok.ensures

pub loop-target-preserved : goal.loop-target-preserved
loop-target-preserved c =
    let s = c.args.state.now in
    turn (is_ready_by s.script s.parts) c.args.kind c.args.row c.args.number c.loop-target.target-index c.loop-target.left c.loop-target.invariant c.loop-target-test.true (Err c.in-Err.rest) c.in-Err.ensures

pub returns : goal.returns
returns c =
    let q = is_ready_by c.args.state.now.script c.args.state.now.parts in
    let row = c.args.row in
    let n = c.loop-target.target-index in
    ends (ready q c.args.kind row (four_list row.targets)) (behind q c.args.kind row n) c.args.number c.loop-target.left c.loop-target.invariant (ap (λ (ts : List (Option TargetView)). ready q c.args.kind row (flat_map option_to_list ts)) (rest_none (each row) n c.loop-target-test.false))

pub returns-then-not-may_have_some : goal.returns-then-not-may_have_some
returns-then-not-may_have_some c =
    let s = c.args.state.now in
    let none : may_have_some s.script c.args.kind c.args.row ≡ false = sym (ap (λ (x : Script). may_have_some x c.args.kind c.args.row) c.script.ensures) ∙ (sym c.may_have_some.ensures ∙ c.if-not-may_have_some.true) in
    none_left _ c.args.number (targets_left s.script s.parts c.args.kind c.args.row c.requires.own none)
