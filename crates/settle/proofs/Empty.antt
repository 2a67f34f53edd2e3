-- Where no job is out, a list without a job has all that are out.
use Rattle.std.proofs.Common.{List, [], Option, Some, None, refl, sym, ◌∙◌}
use Rattle.std.proofs.lemmas.Bool.{false≢true}
use Rattle.cam_types.specs.declared.job.FillTarget.{FillTarget}
use Rattle.cam_types.specs.declared.job.JobView.{JobView}
use Rattle.cam_types.specs.declared.script.Script.{Script}
use Rattle.service_parts.specs.Outs.{AreOut}
use Rattle.run_model.specs.Jobs.{IsOutWith}
use Rattle.run_model.specs.declared.step.Move.{Move}
use Rattle.service_core.specs.Answers.{IsNoJobOut}

pub empty_hold : (script : Script) (h : List Move) → IsNoJobOut h → AreOut script h []
empty_hold script h none = record { once = refl; held = λ n job at. absurd (cc); all = λ job out. absurd (never job job.fill out) }
  where
    never : (job : JobView) (o : Option FillTarget) → IsOutWith script h job o → ⊥
    never job None is = false≢true (sym (none.sensor job.frame.0) ∙ is.out)
    never job (Some target) is = false≢true (sym (none.stages job.frame.0 target.stream.0) ∙ is.out)
