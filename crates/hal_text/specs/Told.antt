-- Where the events of a log stand in its text.
use Rattle.std.specs.Prelude.{ℕ, ◌≡◌, ◌-◌, List, [], slice_index_or, Ok}
use Rattle.std.specs.List.{AllZip}
use Rattle.hal_text.specs.declared.log.HalLog.{HalLog}
use Rattle.hal_lines.specs.Lines.{event_by_words}
use Rattle.text_parts.specs.Words.{loose_words}

-- line n, counted from 1
abbrev pub line_at : List (List ℕ) → ℕ → List ℕ
line_at lines n = slice_index_or lines (n - 1) []

-- of each event of the log the line with its number means just that event
abbrev pub IsTold : List (List ℕ) → HalLog → Type 0
IsTold lines log = AllZip (λ event n. event_by_words (loose_words (line_at lines n)) ≡ Ok event) log.events log.lines
