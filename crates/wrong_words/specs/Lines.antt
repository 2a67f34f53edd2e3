-- Lines of a trace as `explain` shows them: each with the number of its line in the input. (our own choice;
-- docs/FORMATS.md, What explain writes)
use Rattle.std.specs.Prelude.{ℕ, ◌==◌, ◌+◌, ◌-◌, Bool, true, false, ◌&&◌, List, [], ◌∷◌, ◌++◌, count_by, codes, decimal, if◌then◌else◌}
use Rattle.trace_model.specs.declared.entry.Entry.{Entry}
use Rattle.trace_text.specs.Spelling.{line_of}

-- `    line N  ` and the line of the entry
unfoldable pub shown_line : ℕ → Entry → List ℕ
shown_line n entry = codes "    line " ++ (decimal n ++ (codes "  " ++ line_of entry))

-- the lines of the entries that the test holds of, where line n is that of the first
abbrev pub lines_where : (Entry → Bool) → ℕ → List Entry → List ℕ
lines_where test n [] = []
lines_where test n (e ∷ entries) =
    if test e then shown_line n e ++ lines_where test (n + 1) entries else lines_where test (n + 1) entries

-- how many lines are shown where there may be many
abbrev pub most_lines : ℕ
most_lines = 8

-- how many are to be skipped behind an entry, and whether its line is shown, where so many are
abbrev pub skip_after : Bool → ℕ → ℕ
skip_after true skip = skip - 1
skip_after false skip = skip

abbrev pub line_unless_skipped : Bool → ℕ → ℕ → Entry → List ℕ
line_unless_skipped chosen skip n e = if chosen && (skip == 0) then shown_line n e else []

-- the lines of those entries, without the first so many
abbrev pub lines_behind : (Entry → Bool) → ℕ → ℕ → List Entry → List ℕ
lines_behind test skip n [] = []
lines_behind test skip n (e ∷ entries) =
    line_unless_skipped (test e) skip n e ++ lines_behind test (skip_after (test e) skip) (n + 1) entries

-- the last eight of them
abbrev pub last_lines_where : (Entry → Bool) → ℕ → List Entry → List ℕ
last_lines_where test n entries = lines_behind test (count_by test entries - most_lines) n entries

-- a text behind its heading, where there is any
abbrev pub headed : List ℕ → List ℕ → List ℕ
headed heading [] = []
headed heading (b ∷ bs) = heading ++ b ∷ bs
