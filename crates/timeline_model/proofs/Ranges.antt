-- Rows from one on.
use Rattle.std.proofs.Common.{◌≡◌, ℕ, suc, ◌+◌, ◌-◌, ◌<◌, ◌∷◌, refl, arith}
use Rattle.std.specs.List.{range_with_len}

pub next_row : (r n : ℕ) → r < n → range_with_len r (n - r) ≡ r ∷ range_with_len (r + 1) (n - (r + 1))
next_row r n less =
    let one : n - r ≡ suc (n - (r + 1)) = omega arith in
    rw one refl
