-- A byte of a line as text.
use Rattle.std.specs.Prelude.{ℕ, ◌&&◌, nat_le, if◌then◌else◌}

-- a plain byte as it is, and `?` (63) for what isn't plain
abbrev pub plain : ℕ → ℕ
plain b = if nat_le 32 b && nat_le b 126 then b else 63
