-- The signals that are ready are those of the fences that aren't signalled.
use Rattle.std.proofs.Common.{◌≡◌, ℕ, List, Some, sym, ap, ◌∙◌, length, slice_get}
use Rattle.std.specs.Option.{option_map}
use Rattle.std.proofs.lemmas.List.{length-map}
use Rattle.std.proofs.lemmas.Option.{slice_get-map}
use Rattle.cam_types.specs.declared.number.FenceNo.{FenceNo}
use Rattle.cam_types.specs.declared.script.Script.{Script}
use Rattle.run_model.specs.declared.step.Kind.TheVariants as kind
use Rattle.run_model.specs.declared.step.StepName.{StepName}
use Rattle.run_model.specs.declared.step.StepName.TheVariants.{Signal}
use Rattle.service_core.specs.Candidates.{ready_in}
use Rattle.service_core.proofs.ByKind.{signals_ready}
use Rattle.service_parts.specs.Parts.{Parts}
use Rattle.service_state.specs.Serving.{unsignalled}

abbrev signal : ℕ → StepName
signal f = Signal (record { 0 = f })

pub signal_count : (script : Script) (p : Parts) → length (ready_in script p kind.Signal) ≡ length (unsignalled 0 p.buffers.signalled)
signal_count script p = ap length (signals_ready script p) ∙ length-map (unsignalled 0 p.buffers.signalled) signal

pub signal_at : (script : Script) (p : Parts) (n : ℕ) (f : FenceNo) → Some f.0 ≡ slice_get (unsignalled 0 p.buffers.signalled) n → slice_get (ready_in script p kind.Signal) n ≡ Some (Signal f)
signal_at script p n f at =
    ap (λ (steps : List StepName). slice_get steps n) (signals_ready script p)
    ∙ (slice_get-map signal (unsignalled 0 p.buffers.signalled) n ∙ ap (option_map signal) (sym at))
