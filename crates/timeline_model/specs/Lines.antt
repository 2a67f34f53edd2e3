-- How much of a line is shown (our own choice).
use Rattle.std.specs.Prelude.{ℕ, ◌-◌, List, length, min, take}

-- the front of a line, without its end, at most so many bytes
abbrev pub front_of : ℕ → List ℕ → List ℕ
front_of most line = take (min (length line - 1) most) line
