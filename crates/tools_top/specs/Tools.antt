-- The tools of the second program's command line. (docs/FORMATS.md, words)
use Rattle.std.specs.Prelude.{ℕ, ◌-◌, ◌^◌, true, false, ◌&&◌, List, [], ◌∷◌, Option, Some, None, codes, if◌then◌else◌}
use Rattle.std.specs.Borrow.{Bor}
use Rattle.text_parts.specs.Forms.{◌>>=◌, is_text}
use Rattle.text_parts.specs.Numbers.{number_within}
use Rattle.tools_top.specs.declared.tool.Tool.{Tool}
use Rattle.tools_top.specs.declared.tool.Tool.TheVariants.{Candidates, Explain, Hal, HalOf, Help, Picture, Timeline, Video}

-- the tools of one word
abbrev pub alone : List ℕ → Option Tool
alone word =
    if is_text word (codes "hal") then Some (Hal false false)
    else (if is_text word (codes "hal-of") then Some HalOf
    else (if is_text word (codes "candidates") then Some Candidates
    else (if is_text word (codes "explain") then Some Explain
    else (if is_text word (codes "timeline") then Some (Timeline false)
    else (if is_text word (codes "help") then Some Help else None)))))

-- `hal --plain` and `hal --strict`: whether the report is the plain one, and whether the judge is strict
abbrev pub of_hal : List ℕ → Option Tool
of_hal word =
    if is_text word (codes "--plain") then Some (Hal true false)
    else (if is_text word (codes "--strict") then Some (Hal false true) else None)

-- `timeline --perfetto`
abbrev pub of_timeline : List ℕ → Option Tool
of_timeline word = if is_text word (codes "--perfetto") then Some (Timeline true) else None

-- `video STREAM`
abbrev pub video_of : List ℕ → Option Tool
video_of stream = number_within 0 255 stream >>= λ s. Some (Video s)

abbrev pub of_two : List ℕ → List ℕ → Option Tool
of_two first second =
    if is_text first (codes "hal") then of_hal second
    else (if is_text first (codes "timeline") then of_timeline second
    else (if is_text first (codes "video") then video_of second else None))

-- `picture FRAME STREAM`
abbrev pub picture_of : List ℕ → List ℕ → Option Tool
picture_of frame stream =
    number_within 0 (2 ^ 32 - 1) frame >>= λ n. number_within 0 255 stream >>= λ s. Some (Picture n s)

-- and `hal --plain --strict`
abbrev pub of_three : List ℕ → List ℕ → List ℕ → Option Tool
of_three first second third =
    if is_text first (codes "hal") && (is_text second (codes "--plain") && is_text third (codes "--strict"))
    then Some (Hal true true)
    else (if is_text first (codes "picture") then picture_of second third else None)

-- the tool that the words ask for, if they ask for one
abbrev pub tool_of : List (Bor (List ℕ)) → Option Tool
tool_of (word ∷ []) = alone word.now
tool_of (first ∷ second ∷ []) = of_two first.now second.now
tool_of (first ∷ second ∷ third ∷ []) = of_three first.now second.now third.now
tool_of _ = None
