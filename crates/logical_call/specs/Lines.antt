-- How the run of two cameras is spelled. (docs/FORMATS.md, logical camera)
use Rattle.std.specs.Prelude.{ℕ, List, [], ◌∷◌, ◌++◌, Option, codes, decimal, option_to_list}
use Rattle.std.specs.List.{flat_map}
use Rattle.logical_call.specs.Runs.{Deed, sides_by}
use Rattle.logical_call.specs.Turns.{pair_by}
use Rattle.logical_call.specs.declared.pair.PairEnd.{PairEnd}
use Rattle.logical_call.specs.declared.pair.PairEnd.TheVariants.{Ok, Error, Drop}
use Rattle.logical_call.specs.declared.pair.Paired.{Paired}
use Rattle.text_parts.specs.Lines.{line_text}
use Rattle.trace_model.specs.declared.entry.Entry.{Entry}
use Rattle.trace_text.specs.Spelling.{line_of}

-- the camera's number, and a space (32)
abbrev pub camera_text : ℕ → List ℕ
camera_text c = decimal c ++ 32 ∷ []

-- `C ENTRY`
abbrev pub camera_line : ℕ → Entry → List ℕ
camera_line c e = camera_text c ++ line_of e

abbrev pub end_word : PairEnd → List ℕ
end_word Ok = codes "ok"
end_word Error = codes "error"
end_word Drop = codes "drop"

-- `logical N END`
abbrev pub pair_line : Paired → List ℕ
pair_line p = line_text (codes "logical" ∷ decimal p.frame.0 ∷ end_word p.end ∷ [])

-- what a camera did, if it has an entry, and the frame that has ended in the second of the two by it
abbrev pub step_text : ℕ → Option Entry → Option Paired → List ℕ
step_text c entry pair = flat_map (camera_line c) (option_to_list entry) ++ flat_map pair_line (option_to_list pair)

-- of all deeds, the oldest first
abbrev pub lines_by : List Deed → List ℕ
lines_by [] = []
lines_by (d ∷ deeds) = lines_by deeds ++ step_text d.camera d.move.entry (pair_by d.camera d.move.entry (sides_by deeds))

-- `logical 1`, the lines and `end`
abbrev pub run_text : List Deed → List ℕ
run_text deeds = line_text (codes "logical" ∷ codes "1" ∷ []) ++ (lines_by deeds ++ line_text (codes "end" ∷ []))
