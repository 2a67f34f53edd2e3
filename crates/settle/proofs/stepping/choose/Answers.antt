use Rattle.std.proofs.Common.{◌≡◌, ℕ, ◌%◌, ◌<◌, List, Some, ap, sym, ◌∙◌, inl, inr, length, slice_get}
use Rattle.run_model.specs.declared.step.StepName.{StepName}
use Rattle.service_core.specs.Candidates.{candidates_by}
use Rattle.service_core.proofs.Reading.{read}
use Rattle.settle.proofs.Choosing.{candidate_ready, one_picked}
use Rattle.settle.proofs.stepping.choose.Goals as goal

pub number_of-requires-clause-some : goal.number_of-requires-clause-some
number_of-requires-clause-some c =
    let s = c.args.service.now in
    let law = c.candidates_are_read_from_the_parts.ensures s.script s.history c.is_a_run.ensures.run in
    let all = read s c.parts-state.result.now c.parts-state.ensures.parts law in
    elim (c.a_run_is_never_stuck.ensures.candidates s.script s.history c.is_a_run.ensures.valid c.is_a_run.ensures.run) [
      | inl done ↦ absurd (c.requires done)
      | inr some ↦ rw all some
    ]

pub unreachable-requires : goal.unreachable-requires
unreachable-requires c =
    let s = c.args.service.now in
    let law = c.candidates_are_read_from_the_parts.ensures s.script s.history c.is_a_run.ensures.run in
    let all = read s c.parts-state.result.now c.parts-state.ensures.parts law in
    let xs = candidates_by c.parts-state.result.now.script c.parts-state.result.now.parts in
    let some : 0 < length xs = elim (c.a_run_is_never_stuck.ensures.candidates s.script s.history c.is_a_run.ensures.valid c.is_a_run.ensures.run) [
      | inl done ↦ absurd (c.requires done)
      | inr some ↦ rw all some
    ] in
    one_picked xs c.args.pick some (ap (λ (i : ℕ). slice_get xs i) (sym c.number_of.ensures) ∙ (sym c.candidate_at.ensures ∙ c.in-None.is))

pub returns-clause-picked : goal.returns-clause-picked
returns-clause-picked c =
    let s = c.args.service.now in
    let law = c.candidates_are_read_from_the_parts.ensures s.script s.history c.is_a_run.ensures.run in
    let all = read s c.parts-state.result.now c.parts-state.ensures.parts law in
    let xs = candidates_by c.parts-state.result.now.script c.parts-state.result.now.parts in
    let here : slice_get xs (c.args.pick % length xs) ≡ Some c.in-Some.step = ap (λ (i : ℕ). slice_get xs i) (sym c.number_of.ensures) ∙ (sym c.candidate_at.ensures ∙ c.in-Some.is) in
    ap (λ (ys : List StepName). slice_get ys (c.args.pick % length ys)) (sym all) ∙ here

pub returns-clause-ready : goal.returns-clause-ready
returns-clause-ready c =
    let s = c.args.service.now in
    let law = c.candidates_are_read_from_the_parts.ensures s.script s.history c.is_a_run.ensures.run in
    let all = read s c.parts-state.result.now c.parts-state.ensures.parts law in
    candidate_ready s.script s.history c.number_of.result c.in-Some.step (ap (λ (ys : List StepName). slice_get ys c.number_of.result) (sym all) ∙ (sym c.candidate_at.ensures ∙ c.in-Some.is))
