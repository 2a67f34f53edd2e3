-- The candidates of a service, read from its parts.
use Rattle.std.proofs.Common.{◌≡◌, ap, sym, ◌∙◌}
use Rattle.run_model.specs.Played.{candidates}
use Rattle.service_core.specs.Candidates.{candidates_by}
use Rattle.run_model.specs.State.{State}
use Rattle.service_core.specs.Answers.{serving}
use Rattle.service_parts.specs.Parts.{parts}
use Rattle.service_state.specs.Serving.{Serving}

-- `v` is what the service's parts are seen as
pub read : (s : State) (v : Serving) → v ≡ serving s → candidates s.script s.history ≡ candidates_by s.script (parts s.script s.history) → candidates_by v.script v.parts ≡ candidates s.script s.history
read s v same law = ap (λ (x : Serving). candidates_by x.script x.parts) same ∙ sym law
