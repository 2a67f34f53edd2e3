use Rattle.std.proofs.Common.{◌∙◌, refl}
use Rattle.state_facts.specs.FrameReadings.{has_pending}
use Rattle.judge_rows.specs.Views.{row_of}
use Rattle.judge_rows.proofs.RowLemmas.{found_of}
use Rattle.judge_rows.proofs.table.pending_row.Goals as goal

pub returns : goal.returns
returns c = found_of (has_pending c.args.fence.0) (λ r. has_pending c.args.fence.0 (row_of r)) c.copied.result c.args.rows.now (λ r. refl) (c.copied.ensures ∙ c.row_with.ensures)
