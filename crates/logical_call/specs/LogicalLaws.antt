-- What holds of joint runs. (Our own choice.)
use Rattle.std.specs.Prelude.{◌≡◌, ℕ, Bool, ◌*◌, ◌≤◌, ◌&&◌, not, List, ◌∷◌, Some, count_by, length, nat_lt, if◌then◌else◌, IsTrue}
use Rattle.cam_types.specs.declared.script.Script.{Script}
use Rattle.logical_call.specs.declared.pair.Paired.{Paired}
use Rattle.logical_call.specs.declared.pair.Side.{Side}
use Rattle.logical_call.specs.Courses.{items}
use Rattle.logical_call.specs.Orderless.{is_logical, without_faults}
use Rattle.logical_call.specs.Pairs.{pair_end}
use Rattle.logical_call.specs.Sides.{AreLegal, first_part, have_ended, is_pair_of, pairs, second_part}
use Rattle.run_model.specs.Bounds.{move_bound}
use Rattle.run_model.specs.Run.{IsRun}
use Rattle.logical_call.specs.Runs.{AreNamed, Deed, IsJointRun, both_by, sides_by}
use Rattle.logical_call.specs.Turns.{AreEntries, pair_by}

-- each camera's part is a run of its script and a legal trace of it
pub record AreRuns (script : Script) (deeds : List Deed) : Type 0 where
  pub first : IsRun script (both_by script deeds).first
  pub second : IsRun (without_faults script) (both_by script deeds).second
  pub entries : AreEntries (both_by script deeds) (sides_by deeds)
  pub legal : AreLegal script (without_faults script) (sides_by deeds)

abbrev pub RunsOfBoth : Script → List Deed → Type 0
RunsOfBoth script deeds = AreNamed script deeds → AreRuns script deeds

abbrev pub IsBounded : Script → List Deed → Type 0
IsBounded script deeds = AreNamed script deeds → length deeds ≤ 2 * move_bound script

-- frame n has ended in the second of the two by the newest deed, and its pair stands directly behind that
abbrev pub ends_by : ℕ → Deed → List Deed → Bool
ends_by n d deeds = have_ended n (sides_by (d ∷ deeds)) && not (have_ended n (sides_by deeds))

abbrev pub pair_at : ℕ → List Side → Paired
pair_at n sides = record { frame = record { 0 = n }; end = pair_end n (first_part sides) (second_part sides) }

abbrev pub PairsFollowTheSecondEnd : Script → List Deed → Type 0
PairsFollowTheSecondEnd script deeds =
    (d : Deed) → AreNamed script (d ∷ deeds) → (n : ℕ) → IsTrue (ends_by n d deeds) →
    pair_by d.camera d.move.entry (sides_by deeds) ≡ Some (pair_at n (sides_by (d ∷ deeds)))

-- a complete joint run has just one pair for each item
abbrev pub EachItemHasOnePair : Script → List Deed → Type 0
EachItemHasOnePair script deeds =
    IsTrue (is_logical script) → IsJointRun script deeds →
    (n : ℕ) → count_by (is_pair_of n) (pairs (sides_by deeds)) ≡ (if nat_lt n (length (items script)) then 1 else 0)
