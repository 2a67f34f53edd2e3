-- How a byte of a title or a note stands in XML.
use Rattle.std.specs.Prelude.{ℕ, ◌==◌, ◌&&◌, List, [], ◌∷◌, codes, nat_le, if◌then◌else◌}

-- `&` (38), `<` (60) and `>` (62) by name, the other plain bytes as they are, and `?` for what isn't plain
abbrev pub escaped : ℕ → List ℕ
escaped b =
    if b == 38 then codes "&amp;"
    else (if b == 60 then codes "&lt;"
    else (if b == 62 then codes "&gt;"
    else (if nat_le 32 b && nat_le b 126 then b ∷ []
    else codes "?")))
