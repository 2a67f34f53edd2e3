-- A four holds four values at most.
use Rattle.std.proofs.Common.{◌≤◌, arith, length}
use Rattle.cam_types.specs.Four.{four_list}
use Rattle.cam_types.specs.declared.four.Four.{Four}

pub four-few : {T : Type 0} (f : Four T) → length (four_list f) ≤ 4
four-few f = grind arith
