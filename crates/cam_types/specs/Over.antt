use Rattle.std.specs.Prelude.{ℕ, List, ◌++◌, length, take, drop}

-- the list with its first values replaced by others, and no longer than it was
abbrev pub written_over : List ℕ → List ℕ → List ℕ
written_over old new = take (length old) (new ++ drop (length new) old)
