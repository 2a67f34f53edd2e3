use Rattle.std.specs.Prelude.{ℕ, ◌==◌, Bool, true, false, ◌&&◌, not, List, [], ◌∷◌, ◌++◌, Option, Some, None, if◌then◌else◌}
use Rattle.std.specs.Option.{option_to_list}
use Rattle.cam_types.specs.declared.script.Script.{Script}
use Rattle.trace_model.specs.declared.entry.Entry.{Entry}
use Rattle.trace_model.specs.Legal.{IsLegal}
use Rattle.logical_call.specs.declared.pair.PairEnd.{PairEnd}
use Rattle.logical_call.specs.declared.pair.PairEnd.TheVariants.{Ok, Error, Drop}
use Rattle.logical_call.specs.declared.pair.Paired.{Paired}
use Rattle.logical_call.specs.declared.pair.Side.{Side}
use Rattle.logical_call.specs.declared.pair.Side.TheVariants.{First, Second}
use Rattle.logical_call.specs.Pairs.{frame_of, is_ended, pair_end}

-- What two cameras did side by side, the newest first (our own choice).

-- what the first did, and what the second
abbrev pub first_part : List Side → List Entry
first_part [] = []
first_part (First e ∷ sides) = e ∷ first_part sides
first_part (Second _ ∷ sides) = first_part sides

abbrev pub second_part : List Side → List Entry
second_part [] = []
second_part (First _ ∷ sides) = second_part sides
second_part (Second e ∷ sides) = e ∷ second_part sides

abbrev pub AreLegal : Script → Script → List Side → Type 0
AreLegal one two sides = IsLegal one (first_part sides) × IsLegal two (second_part sides)

-- frame n has ended in both
abbrev pub have_ended : ℕ → List Side → Bool
have_ended n sides = is_ended n (first_part sides) && is_ended n (second_part sides)

-- the one frame that may end by it
abbrev pub frame_by : Side → List Side → Option ℕ
frame_by (First e) sides = frame_of (first_part sides) e
frame_by (Second e) sides = frame_of (second_part sides) e

abbrev pub paired_of : Side → List Side → Option ℕ → Option Paired
paired_of side sides (Some n) =
    if have_ended n (side ∷ sides) && not (have_ended n sides)
    then Some (record { frame = record { 0 = n }; end = pair_end n (first_part (side ∷ sides)) (second_part (side ∷ sides)) })
    else None
paired_of side sides None = None

-- the frame that has ended in the second of the two by it
abbrev pub paired : Side → List Side → Option Paired
paired side sides = paired_of side sides (frame_by side sides)

-- all pairs, the newest first
abbrev pub pairs : List Side → List Paired
pairs [] = []
pairs (side ∷ sides) = option_to_list (paired side sides) ++ pairs sides

abbrev pub is_pair_of : ℕ → Paired → Bool
is_pair_of n p = p.frame.0 == n

abbrev pub is_end : PairEnd → PairEnd → Bool
is_end Ok Ok = true
is_end Error Error = true
is_end Drop Drop = true
is_end _ _ = false
