use Rattle.std.proofs.Common.{◌∙◌, ap, refl}
use Rattle.state_facts.specs.FrameReadings.{is_unexposed, next_exposed}
use Rattle.judge_rows.specs.Views.{row_of}
use Rattle.judge_rows.proofs.RowLemmas.{found_of}
use Rattle.trace_check.proofs.exposures.next_exposed.Goals as goal

pub returns : goal.returns
returns c =
    found_of is_unexposed (λ r. is_unexposed (row_of r)) c.copied.result c.rows-2.result.now (λ r. refl) (c.copied.ensures ∙ c.first_unexposed.ensures)
    ∙ ap next_exposed (c.rows-2.ensures ∙ c.rows.ensures)
