use Rattle.std.proofs.Common.{◌∙◌, refl}
use Rattle.state_facts.specs.Row.{is_ended}
use Rattle.judge_rows.specs.Views.{row_of}
use Rattle.trace_check.proofs.Rows.{before_map}
use Rattle.trace_check.proofs.before.earlier_ended.Goals as goal

pub returns : goal.returns
returns c = c.all_ended.ensures ∙ before_map c.args.frame.0 (λ r. is_ended (row_of r)) is_ended c.args.rows.now (λ r. refl)
