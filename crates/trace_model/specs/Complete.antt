use Rattle.std.specs.Prelude.{ℕ, ◌==◌, Bool, List, [], ◌∷◌, length, IsTrue}
use Rattle.std.specs.List.{list_all}
use Rattle.cam_types.specs.declared.script.Script.{Script}
use Rattle.trace_model.specs.declared.entry.Entry.{Entry}
use Rattle.trace_model.specs.declared.entry.Entry.TheVariants.{Release, Early}
use Rattle.trace_model.specs.Client.{is_empty}
use Rattle.trace_model.specs.Fence.{is_signalled}
use Rattle.trace_model.specs.Legal.{IsLegal}
use Rattle.trace_model.specs.Numbers.{call_count}
use Rattle.trace_model.specs.Open.{is_quiet}
use Rattle.trace_model.specs.Place.{all_in_pool}
use Rattle.trace_model.specs.Queue.{queued}

-- A run is complete where it is legal and nothing is left to do (our own choice of what a whole run is).

-- every command of the script was called
abbrev pub is_all_called : Script → List Entry → Bool
is_all_called script past = call_count past == length script.commands

abbrev pub is_queue_empty : Script → List Entry → Bool
is_queue_empty script past = is_empty (queued script past)

-- the fences that were released, the newest first
abbrev pub released : List Entry → List ℕ
released [] = []
released (Release _ f ∷ past) = f.0 ∷ released past
released (_ ∷ past) = released past

-- the device fences of early returns, the newest first
abbrev pub device_fences : List Entry → List ℕ
device_fences [] = []
device_fences (Early _ _ _ d ∷ past) = d.0 ∷ device_fences past
device_fences (_ ∷ past) = device_fences past

abbrev pub is_all_signalled : List Entry → Bool
is_all_signalled past = list_all (λ f. is_signalled f past) (released past)

-- the five parts, in the order in which what is missing is named
pub record IsComplete (script : Script) (past : List Entry) : Type 0 where
  pub legal : IsLegal script past
  pub calls : IsTrue (is_all_called script past)
  pub open_frames : IsTrue (is_quiet past)
  pub queue : IsTrue (is_queue_empty script past)
  pub pool : IsTrue (all_in_pool past)
  pub signals : IsTrue (is_all_signalled past)
