use Rattle.std.proofs.Common.{ℕ, List, ◌++◌, ◌∙◌, ap}
use Rattle.allowed_entries.specs.Readings.{frames_in}
use Rattle.allowed_entries.proofs.Joins.{on_ok}
use Rattle.allowed_entries.proofs.Rows.{frames_of}
use Rattle.allowed_entries.proofs.frames.add_frames.Goals as goal

pub returns : goal.returns
returns c =
    let is = frames_of c.rows-2.result.now c.args.tables.now.state.rows (c.rows-2.ensures ∙ c.rows.ensures) in
    on_ok c.add_rows.result _ _
    (λ h. h ∙ ap (λ (ns : List ℕ). c.args.list.now.items ++ frames_in c.args.script.now c.args.tables.now.state ns) is)
    c.add_rows.ensures
