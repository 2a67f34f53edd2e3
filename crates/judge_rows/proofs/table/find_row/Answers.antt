use Rattle.std.proofs.Common.{◌∙◌, ◌==◌, refl}
use Rattle.judge_rows.proofs.RowLemmas.{found_of}
use Rattle.judge_rows.proofs.table.find_row.Goals as goal

pub returns : goal.returns
returns c = found_of (λ r. r.number == c.args.frame.0) (λ r. r.frame.0 == c.args.frame.0) c.copied.result c.args.rows.now (λ r. refl) (c.copied.ensures ∙ c.row_of_frame.ensures)
