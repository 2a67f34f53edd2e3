-- The text of a run with the candidates before each move. (docs/FORMATS.md, Picks and candidates)
use Rattle.std.specs.Prelude.{ℕ, ◌+◌, ◌%◌, ◌==◌, Bool, true, false, List, [], ◌∷◌, ◌++◌, codes, decimal, length, option_to_list, if◌then◌else◌}
use Rattle.std.specs.List.{flat_map}
use Rattle.cam_types.specs.declared.script.Script.{Script}
use Rattle.run_model.specs.Played.{candidates, pick_at}
use Rattle.run_model.specs.declared.step.Move.{Move}
use Rattle.run_model.specs.declared.step.StepName.{StepName}
use Rattle.text_parts.specs.Lines.{line_text}
use Rattle.trace_text.specs.Spelling.{line_of}
use Rattle.run_views.specs.Names.{step_text}

-- ---- the candidates before a move

-- what stands before the candidate at a place
abbrev pub front_of : ℕ → List ℕ
front_of place = if place == 0 then codes ": " else codes " | "

-- a candidate: its place and its name
abbrev pub named : ℕ → StepName → List ℕ
named place step = decimal place ++ 32 ∷ step_text step

-- the same in brackets, where it is the one that is chosen
abbrev pub shown : Bool → ℕ → StepName → List ℕ
shown false place step = named place step
shown true place step = codes "[" ++ (named place step ++ codes "]")

abbrev pub candidate_text : ℕ → ℕ → StepName → List ℕ
candidate_text pick place step = front_of place ++ shown (place == pick) place step

-- candidates in their order, the first of which is at a place
abbrev pub listed : ℕ → ℕ → List StepName → List ℕ
listed pick place [] = []
listed pick place (step ∷ steps) = candidate_text pick place step ++ listed pick (place + 1) steps

-- `pick P of C: 0 NAME | [1 NAME] | ..`, where P is the place that is chosen among C candidates
abbrev pub list_line : ℕ → List StepName → List ℕ
list_line pick steps =
    codes "pick " ++ (decimal pick ++ (codes " of " ++ (decimal (length steps) ++ (listed pick 0 steps ++ codes "\n"))))

-- the line of the candidates after a history, of which the script's next pick chooses one
abbrev pub candidates_line : Script → List Move → List ℕ
candidates_line script h =
    list_line (pick_at script (length h) % length (candidates script h)) (candidates script h)

-- ---- a run

-- of a move that was made after a history: the candidates that there were, and the trace's line of its entry, if it has
-- one
abbrev pub move_text : Script → List Move → Move → List ℕ
move_text script h m = candidates_line script h ++ flat_map line_of (option_to_list m.entry)

-- of each move of a history, the oldest first
abbrev pub told : Script → List Move → List ℕ
told script [] = []
told script (m ∷ h) = told script h ++ move_text script h m

-- the whole text of a run
abbrev pub run_text : Script → List Move → List ℕ
run_text script h =
    line_text (codes "candidates" ∷ codes "1" ∷ []) ++ (told script h ++ line_text (codes "end" ∷ []))
