use Rattle.std.proofs.Common.{◌∙◌, refl}
use Rattle.state_facts.specs.FrameReadings.{lets_pass_row}
use Rattle.judge_rows.specs.Views.{row_of}
use Rattle.trace_check.proofs.Rows.{before_map}
use Rattle.trace_check.proofs.before.earlier_pass.Goals as goal

pub returns : goal.returns
returns c = c.all_pass.ensures ∙ before_map c.args.frame.0 (λ r. lets_pass_row c.args.stream.0 (row_of r)) (lets_pass_row c.args.stream.0) c.args.rows.now (λ r. refl)
