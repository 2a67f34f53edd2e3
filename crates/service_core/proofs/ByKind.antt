-- The candidates kind by kind, and the fences that may be signalled.
use Rattle.std.proofs.Common.{◌≡◌, ℕ, ap, ◌∙◌, arith, map}
use Rattle.std.specs.List.{flat_map}
use Rattle.cam_types.specs.declared.script.Script.{Script}
use Rattle.run_model.specs.declared.step.Kind.TheVariants as kind
use Rattle.run_model.specs.declared.step.StepName.TheVariants.{Signal}
use Rattle.service_parts.specs.Parts.{Parts}
use Rattle.service_core.specs.Candidates.{all_kinds, candidates_by, is_ready_by, ready_in, steps_of_kind}
use Rattle.service_state.specs.Serving.{unsignalled}
use Rattle.service_core.proofs.Lists.{keeps-unmarked, kept-apart}
use Rattle.service_core.proofs.Unready.{signal-ready}

pub kinds_of_candidates : (script : Script) (p : Parts) → candidates_by script p ≡ flat_map (ready_in script p) all_kinds
kinds_of_candidates script p = kept-apart (is_ready_by script p) (steps_of_kind p) all_kinds

pub signals_ready : (script : Script) (p : Parts) → ready_in script p kind.Signal ≡ map (λ f. Signal (record { 0 = f })) (unsignalled 0 p.buffers.signalled)
signals_ready script p =
    keeps-unmarked (is_ready_by script p) (λ f. Signal (record { 0 = f })) 0 p.buffers.signalled
    (λ k below. ap (λ (f : ℕ). is_ready_by script p (Signal (record { 0 = f }))) (omega arith) ∙ signal-ready script p k below)
