-- Texts of 64 digits.
use Rattle.std.proofs.Common.{◌≡◌, ℕ, List, length, arith}
use Rattle.hex.specs.Hex.{decode_of, decode_sized}
use Rattle.hex.proofs.HexLemmas.{decode_sized-twice}

pub sized : (s : List ℕ) → length s ≡ 64 → decode_sized s 32 ≡ decode_of s
sized s l = decode_sized-twice s 32 (omega arith)
