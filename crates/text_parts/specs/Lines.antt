-- How a text is cut into lines. (our own choice)
use Rattle.std.specs.Prelude.{ℕ, ◌++◌, ◌∷◌, [], List, codes}
use Rattle.std.specs.List.{join_by}
use Rattle.std.specs.Str.Lines.{lines}

-- lines end by LF or by CR LF, and the last one may lack its end
abbrev pub lines_of : List ℕ → List (List ℕ)
lines_of text = lines text

-- the one spelling of a line: its words with single spaces between them, and LF (10)
abbrev pub line_text : List (List ℕ) → List ℕ
line_text words = join_by (λ word. word) (codes " ") words ++ 10 ∷ []
