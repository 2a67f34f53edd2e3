use Rattle.std.specs.Prelude.{ℕ, List}
use Rattle.std.specs.Borrow.{Lends, MutBor, Fml, Array, u8}
use Rattle.cam_types.specs.Over.{written_over}
use Rattle.cam_types.specs.Shown.{Shown}
use Rattle.cam_types.specs.contracts.pixels.PixelBuf.{the_row}

-- the buffer ends with the bytes that are left behind r; its number and its block's length stay
abbrev pub LendsBytes : MutBor Shown → MutBor (List ℕ) → Fml
LendsBytes s r =
    Lends the_row (Array u8 0) s r
    (λ w. record { id = s.now.id; bytes = written_over s.now.bytes w; block = s.now.block })
