use Rattle.std.proofs.Common.{ap, arith, length}
use Rattle.device_rows.proofs.table.Table.close.Goals as goal

pub destroy_empty-requires : goal.destroy_empty-requires
destroy_empty-requires g c =
    let none = ap length (rw (← c.self.view_is) at c.requires) in
    omega (arith, none)
