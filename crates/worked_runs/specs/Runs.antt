use Rattle.std.specs.Prelude.{◌≡◌, ℕ, zero, suc, ◌+◌, ◌*◌, Bool, true, false, ◌&&◌, List, [], ◌∷◌, Option, Some, None, length, reverse}
use Rattle.cam_types.specs.declared.script.Script.{Script}
use Rattle.trace_model.specs.declared.entry.Entry.{Entry}
use Rattle.trace_model.specs.Complete.{IsComplete, is_all_called, is_queue_empty, is_all_signalled}
use Rattle.trace_model.specs.Open.{is_quiet}
use Rattle.trace_model.specs.Place.{all_in_pool}
use Rattle.run_model.specs.declared.step.Move.{Move}
use Rattle.run_model.specs.History.{trace_of}
use Rattle.run_model.specs.Played.{chosen, move_at}

-- The definitions of ready steps, candidates and picks, run.

-- nothing is left to do: the five parts of a complete run
abbrev pub is_finished : Script → List Entry → Bool
is_finished script past =
    is_all_called script past
    && (is_quiet past && (is_queue_empty script past && (all_in_pool past && is_all_signalled past)))

abbrev pub with_move : Option Move → List Move → List Move
with_move (Some m) h = m ∷ h
with_move None h = h

-- the history after so many moves at most: each is the one that the pick chooses, until nothing is left to do
abbrev pub play : Script → ℕ → List Move → List Move
play script zero h = h
play script (suc moves) h =
    elim
    (is_finished script (trace_of h)) [
      | true ↦ h
      | false ↦ play script moves (with_move (move_at script h (chosen script h)) h)
    ]

-- the trace, its oldest entry first, is the one that the script plays to, and is complete
pub record Plays (script : Script) (trace : List Entry) : Type 0 where
  pub run : trace_of (play script (4 * length trace + 8) []) ≡ reverse trace
  pub complete : IsComplete script (reverse trace)
