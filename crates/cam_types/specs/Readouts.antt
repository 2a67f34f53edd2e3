use Rattle.std.specs.Prelude.{ℕ, List}
use Rattle.std.specs.Borrow.{Lends, MutBor, Fml, Array, u16}
use Rattle.cam_types.specs.Over.{written_over}
use Rattle.cam_types.specs.contracts.readout.Readout.{the_row}

-- the readout ends with the values that are left behind r
abbrev pub LendsValues : MutBor (List ℕ) → MutBor (List ℕ) → Fml
LendsValues s r = Lends the_row (Array u16 0) s r (written_over s.now)
