use Rattle.std.specs.Prelude.{ℕ, ◌+◌, ◌*◌, count_by}
use Rattle.reprocess_model.specs.declared.plan.Plan.{Plan}
use Rattle.reprocess_model.specs.Plan.{is_request, is_flush}

-- the most lines of a run: eight for each request and two for each flush
abbrev pub line_bound : Plan → ℕ
line_bound plan = 8 * count_by is_request plan.commands + 2 * count_by is_flush plan.commands
