use Rattle.std.proofs.Common.{ℕ, ◌<◌, ◌≤◌, subst, sym, ◌∙◌}
use Rattle.service_core.specs.Candidates.{candidates_by}
use Rattle.service_core.proofs.Listed.{all_taken, none_missing, one_more}
use Rattle.service_core.proofs.Reading.{read}
use Rattle.service_core.proofs.asking.candidates.Goals as goal

pub loop-number-preserved : goal.loop-number-preserved
loop-number-preserved c =
    let xs = candidates_by c.parts-state.result.now.script c.parts-state.result.now.parts in
    let at = sym c.candidate_at.ensures ∙ c.in-Some.is in
    c.in_ok-push-in-Some.ensures.items ∙ one_more xs c.loop-number.steps.items c.loop-number.number c.in-Some.step c.loop-number.invariant at

pub loop-number-init : goal.loop-number-init
loop-number-init c = c.new-steps.ensures.items

pub unreachable-requires : goal.unreachable-requires
unreachable-requires c =
    let xs = candidates_by c.parts-state.result.now.script c.parts-state.result.now.parts in
    let within = subst (λ (n : ℕ). c.loop-number.number < n) c.candidate_count-count.ensures c.loop-number-test.true in
    none_missing xs c.loop-number.number within (sym c.candidate_at.ensures ∙ c.in-None.is)

pub returns : goal.returns
returns c =
    let s = c.args.service.now in
    let v = c.parts-state.result.now in
    let xs = candidates_by v.script v.parts in
    let few = subst (λ (n : ℕ). n ≤ c.loop-number.number) c.candidate_count-count.ensures c.loop-number-test.false in
    let all = read s v c.parts-state.ensures.parts (c.candidates_are_read_from_the_parts.ensures s.script s.history c.is_a_run.ensures.run) in
    c.loop-number.invariant ∙ (all_taken xs c.loop-number.number few ∙ all)
