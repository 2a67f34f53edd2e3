-- Lines of a script, and lines that were refused, as `explain` shows them. (our own choice; docs/FORMATS.md, What
-- explain writes)
use Rattle.std.specs.Prelude.{ℕ, List, [], ◌∷◌, ◌++◌, length, map, take, nat_lt, codes, decimal, if◌then◌else◌}
use Rattle.text_parts.specs.LineReading.{is_printable}

-- a byte that isn't from space to `~` is shown as `?` (63)
abbrev pub shown_byte : ℕ → ℕ
shown_byte b = if is_printable b then b else 63

-- so many bytes of a line are shown
abbrev pub most_bytes : ℕ
most_bytes = 100

-- what stands behind a line that has more
abbrev pub cut_mark : List ℕ → List ℕ
cut_mark line = if nat_lt most_bytes (length line) then codes " .." else []

-- a line as it is shown
unfoldable pub shown : List ℕ → List ℕ
shown line = map shown_byte (take most_bytes line) ++ cut_mark line

-- `    line N  ` and the line
unfoldable pub numbered_line : ℕ → List ℕ → List ℕ
numbered_line n line = codes "    line " ++ (decimal n ++ (codes "  " ++ (shown line ++ 10 ∷ [])))
