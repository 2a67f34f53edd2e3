-- A flush while a stage fills a buffer. The worked row `flush_while_a_fill_is_out` of tests/rows.
use Rattle.std.specs.Prelude.{List, [], ◌∷◌}
use Rattle.cam_types.specs.declared.script.Script.{Script}
use Rattle.trace_model.specs.declared.entry.Entry.{Entry}
use Rattle.worked_runs.specs.FlushCancelsThreeStages.{flush_cancels_three_stages_script, flush_cancels_three_stages_trace}

abbrev pub flush_while_a_fill_is_out_script : Script
flush_while_a_fill_is_out_script =
    record flush_cancels_three_stages_script { picks = 0 ∷ 0 ∷ 0 ∷ 0 ∷ 0 ∷ 2 ∷ 4 ∷ 3 ∷ 4 ∷ 1 ∷ [] }

-- a fill that is out has no entry yet, so the trace is the same
abbrev pub flush_while_a_fill_is_out_trace : List Entry
flush_while_a_fill_is_out_trace = flush_cancels_three_stages_trace
