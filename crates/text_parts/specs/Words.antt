-- How a line is cut into words, at spaces (32). (our own choice)
use Rattle.std.specs.Prelude.{ℕ, ◌==◌, Bool, ◌&&◌, not, List, [], ◌∷◌, length, Option, Some, None, filter, nat_le}
use Rattle.std.specs.List.{list_all}
use Rattle.text_parts.specs.Cuts.{parts_at}

-- loose words are separated by one or more spaces, and spaces at both ends are ignored
abbrev pub loose_words : List ℕ → List (List ℕ)
loose_words line = filter (λ word. not (length word == 0)) (parts_at 32 line)

-- strict words are separated by single spaces: a space more makes an empty word
abbrev pub strict_words : List ℕ → List (List ℕ)
strict_words line = parts_at 32 line

-- the strict words of a text that has a space before each
abbrev pub strict_words_behind : List ℕ → List (List ℕ)
strict_words_behind [] = []
strict_words_behind (space ∷ text) = strict_words text

-- the words, where there are just so many
abbrev pub one_of : List (List ℕ) → Option (List ℕ)
one_of (w ∷ []) = Some w
one_of _ = None

abbrev pub two_of : List (List ℕ) → Option (List ℕ × List ℕ)
two_of (v ∷ w ∷ []) = Some (v, w)
two_of _ = None

abbrev pub three_of : List (List ℕ) → Option (List ℕ × List ℕ × List ℕ)
three_of (u ∷ v ∷ w ∷ []) = Some (u, v, w)
three_of _ = None

-- a byte from `!` (33) to `~` (126)
abbrev pub is_plain : ℕ → Bool
is_plain b = nat_le 33 b && nat_le b 126

-- what stands as one word in either kind of line: some such bytes
abbrev pub is_word : List ℕ → Bool
is_word word = list_all is_plain word && not (length word == 0)
