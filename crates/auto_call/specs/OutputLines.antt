-- The lines in front of the trace, and how they are spelled. (docs/FORMATS.md, automatic exposure)
use Rattle.std.specs.Prelude.{ℕ, ◌*◌, List, [], ◌∷◌, ◌++◌, codes, decimal}
use Rattle.std.specs.List.{flat_map}
use Rattle.auto_call.specs.Brightness.{mean}
use Rattle.auto_call.specs.declared.state.AeState.{AeState}
use Rattle.auto_call.specs.declared.state.AeState.TheVariants as state
use Rattle.auto_call.specs.declared.output_line.AutoLine.{AutoLine}
use Rattle.auto_call.specs.declared.output_line.AutoLine.TheVariants.{Frame, Locked, Limit, Searching}
use Rattle.cam_types.specs.declared.item.Settings.{Settings}
use Rattle.text_parts.specs.Lines.{line_text}

-- the words of a line
abbrev pub line_words : AutoLine → List (List ℕ)
line_words (Frame n exposure m) =
    codes "frame" ∷ decimal n ∷ codes "exposure" ∷ decimal exposure ∷ codes "mean" ∷ decimal m ∷ []
line_words (Locked k exposure) = codes "scene" ∷ decimal k ∷ codes "locked" ∷ decimal exposure ∷ []
line_words (Limit k) = codes "scene" ∷ decimal k ∷ codes "limit" ∷ []
line_words (Searching k low high) =
    codes "scene" ∷ decimal k ∷ codes "searching" ∷ decimal low ∷ decimal high ∷ []

-- the line, with its end
unfoldable pub line_of : AutoLine → List ℕ
line_of line = line_text (line_words line)

-- the version line, and the lines
abbrev pub front_of : List AutoLine → List ℕ
front_of lines = line_text (codes "auto" ∷ codes "1" ∷ []) ++ flat_map line_of lines

-- the line of frame n, captured with the settings
abbrev pub frame_line : ℕ → Settings → AutoLine
frame_line n s = Frame n s.exposure (mean s n)

-- the line that tells how the search of scene k ended: an exposure is told in nanoseconds, what is left in steps
abbrev pub end_line : ℕ → AeState → AutoLine
end_line k (state.Searching low high) = Searching k low high
end_line k (state.Locked step) = Locked k (step * 100000)
end_line k state.AtLimit = Limit k
