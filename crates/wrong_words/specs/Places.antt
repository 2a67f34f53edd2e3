-- Where the commands, faults and picks of a script stand in its text. (docs/FORMATS.md, Script text)
use Rattle.std.specs.Prelude.{ℕ, ◌+◌, Bool, false, List, [], ◌∷◌, Option, bytes_eq, codes, drop, filter, if◌then◌else◌, is_some, map}
use Rattle.std.specs.List.{flat_map, slice_get}
use Rattle.std.specs.Option.{option_map}
use Rattle.text_parts.specs.CommandWords.{command_word}
use Rattle.text_parts.specs.Lines.{lines_of}
use Rattle.text_parts.specs.Words.{loose_words}
use Rattle.wrong_words.specs.declared.kind.LineKind.{LineKind}
use Rattle.wrong_words.specs.declared.kind.LineKind.TheVariants.{Command, Fault, Pick}

-- lines with their numbers, of which n is the first
abbrev pub numbered : ℕ → List (List ℕ) → List (ℕ × List ℕ)
numbered n [] = []
numbered n (line ∷ lines) = (n, line) ∷ numbered (n + 1) lines

-- the first word of a line of the kind
abbrev pub begins : LineKind → List ℕ → Bool
begins Command word = is_some (command_word word)
begins Fault word = bytes_eq word (codes "fault")
begins Pick word = bytes_eq word (codes "pick")

abbrev pub have_kind : LineKind → List (List ℕ) → Bool
have_kind kind [] = false
have_kind kind (word ∷ words) = begins kind word

-- the line is of the kind
abbrev pub is_of_kind : LineKind → List ℕ → Bool
is_of_kind kind line = have_kind kind (loose_words line)

-- the lines of a kind, each with its number, among lines of which n is the first
abbrev pub kind_lines : LineKind → ℕ → List (List ℕ) → List (ℕ × List ℕ)
kind_lines kind n lines = filter (λ l. is_of_kind kind l.1) (numbered n lines)

-- those of a text, whose lines are numbered from 1 on
abbrev pub lines_of_kind : LineKind → List ℕ → List (ℕ × List ℕ)
lines_of_kind kind text = kind_lines kind 1 (lines_of text)

-- the line of the command or the fault that has this place among them, from 0 on
abbrev pub place_of : LineKind → List ℕ → ℕ → Option (ℕ × List ℕ)
place_of kind text place = slice_get (lines_of_kind kind text) place

-- the words behind the first one of a `pick` line
abbrev pub picks_in : List ℕ → List (List ℕ)
picks_in line = if is_of_kind Pick line then drop 1 (loose_words line) else []

-- each with the line's number
abbrev pub numbers_of : ℕ × List ℕ → List (ℕ × List ℕ)
numbers_of l = map (λ word. (l.0, word)) (picks_in l.1)

-- the picks of a text, each with the number of its line
unfoldable pub picks_of : List ℕ → List (ℕ × List ℕ)
picks_of text = flat_map numbers_of (numbered 1 (lines_of text))

-- the number of the line in which the pick at the place stands, from 0 on
unfoldable pub pick_number : List ℕ → ℕ → Option ℕ
pick_number text place = option_map (λ pick. pick.0) (slice_get (picks_of text) place)
