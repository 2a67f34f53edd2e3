use Rattle.std.proofs.Common.{◌<◌, ℕ, ◌+◌, List, Result, Ok, Err, ap, drop, get_or, length}
use Rattle.std.specs.List.{flat_map}
use Rattle.run_model.specs.declared.step.Kind.{Kind}
use Rattle.run_model.specs.declared.step.Kind.TheVariants as kind
use Rattle.run_model.specs.declared.step.StepName.{StepName}
use Rattle.service_core.specs.Candidates.{all_kinds, ready_in}
use Rattle.service_core.specs.Finding.{Finds}
use Rattle.service_core.proofs.ByKind.{kinds_of_candidates}
use Rattle.service_core.proofs.Walking.{Continues, Turns, ends, rest_none, rest_or, turns}
use Rattle.service_core.proofs.choice.seek.Goals as goal

turn : (f : Kind → List StepName) (number n left : ℕ) → Continues (flat_map f all_kinds) number (flat_map f (drop n all_kinds)) left → n < length all_kinds → (r : Result StepName ℕ) → Finds (f (get_or all_kinds n kind.Send)) left r → Turns (flat_map f all_kinds) number (flat_map f (drop (n + 1) all_kinds)) r
turn f number n left goes less r found =
    turns (flat_map f all_kinds) (flat_map f (drop n all_kinds)) (f (get_or all_kinds n kind.Send)) (flat_map f (drop (n + 1) all_kinds)) number left goes (ap (λ (ks : List Kind). flat_map f ks) (rest_or all_kinds n kind.Send less)) r found

pub returns-in-Ok : goal.returns-in-Ok
returns-in-Ok c =
    let s = c.args.state.now in
    rw (kinds_of_candidates s.script s.parts) (turn (ready_in s.script s.parts) c.args.number c.loop-kind.kind-index c.loop-kind.left c.loop-kind.invariant c.loop-kind-test.true (Ok c.in-Ok.step) c.in-Ok.ensures)

pub loop-kind-preserved : goal.loop-kind-preserved
loop-kind-preserved c =
    let s = c.args.state.now in
    turn (ready_in s.script s.parts) c.args.number c.loop-kind.kind-index c.loop-kind.left c.loop-kind.invariant c.loop-kind-test.true (Err c.in-Err.rest) c.in-Err.ensures

pub returns : goal.returns
returns c =
    let s = c.args.state.now in
    let f = ready_in s.script s.parts in
    let n = c.loop-kind.kind-index in
    rw (kinds_of_candidates s.script s.parts) (ends (flat_map f all_kinds) (flat_map f (drop n all_kinds)) c.args.number c.loop-kind.left c.loop-kind.invariant (ap (λ (ks : List Kind). flat_map f ks) (rest_none all_kinds n c.loop-kind-test.false)))
