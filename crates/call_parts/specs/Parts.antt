use Rattle.std.specs.Prelude.{ℕ, ◌+◌, ◌==◌, Bool, false, List, [], ◌∷◌, Option, Some, None, length, take, drop, count_by, codes, bytes_eq, if◌then◌else◌, option_map, unwrap_or}
use Rattle.std.specs.Str.Lines.{strip_carriage_return}
use Rattle.text_parts.specs.Cuts.{parts_at}
use Rattle.text_parts.specs.Words.{loose_words}

-- How the judge's input is cut: a script, and from the first line on whose first word is `trace` a trace.
-- (docs/FORMATS.md)

abbrev pub begins_trace : List (List ℕ) → Bool
begins_trace [] = false
begins_trace (word ∷ words) = bytes_eq word (codes "trace")

-- the line's first word is `trace`, by the words of a script's text
abbrev pub is_trace_line : List ℕ → Bool
is_trace_line line = begins_trace (loose_words line)

-- a line that an LF ends is without the CR before it; the last part has no LF, so that a CR is one of its bytes
abbrev pub line_before : List ℕ → List (List ℕ) → List ℕ
line_before part [] = part
line_before part (next ∷ parts) = strip_carriage_return part

-- how many bytes stand before the first such line
abbrev pub bytes_before : List (List ℕ) → Option ℕ
bytes_before [] = None
bytes_before (part ∷ parts) =
    if is_trace_line (line_before part parts) then Some 0 else option_map (λ n. length part + 1 + n) (bytes_before parts)

-- where the trace begins; at the end where there is no such line
unfoldable pub trace_start : List ℕ → ℕ
trace_start input = unwrap_or (bytes_before (parts_at 10 input)) (length input)

abbrev pub script_part : List ℕ → List ℕ
script_part input = take (trace_start input) input

abbrev pub trace_part : List ℕ → List ℕ
trace_part input = drop (trace_start input) input

-- the number of the trace's first line: lines are numbered from 1 on in the whole input
abbrev pub first_line : List ℕ → ℕ
first_line input = count_by (λ b. b == 10) (script_part input) + 1
