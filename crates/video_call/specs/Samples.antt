-- A RAW16 picture in the order of bytes that PGM has. (netpbm, PGM; docs/FORMATS.md, Pictures and films)
use Rattle.std.specs.Prelude.{ℕ, List, ◌∷◌}

-- the two bytes of each sample exchanged: RAW16 has the low one first, and PGM the high one
abbrev pub exchanged : List ℕ → List ℕ
exchanged (low ∷ high ∷ bytes) = high ∷ (low ∷ exchanged bytes)
exchanged bytes = bytes
