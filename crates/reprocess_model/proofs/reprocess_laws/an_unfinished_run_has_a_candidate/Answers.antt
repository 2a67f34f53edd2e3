use Rattle.std.proofs.Common.{length}
use Rattle.std.proofs.lemmas.Bool.{not-true}
use Rattle.reprocess_model.specs.Plan.{requests}
use Rattle.reprocess_model.specs.Run.{is_complete, is_ready, steps}
use Rattle.reprocess_model.proofs.Ends.{some-kept}
use Rattle.reprocess_model.proofs.Stuck.{never-stuck}
use Rattle.reprocess_model.proofs.reprocess_laws.an_unfinished_run_has_a_candidate.Goals as goal

pub returns : goal.returns
returns c plan past valid run unfinished =
    some-kept (is_ready plan past) (steps (length (requests plan.commands))) (never-stuck plan past valid run (not-true (is_complete plan past) unfinished))
