use Rattle.std.proofs.Common.{◌≡◌, ◌*◌, ◌/◌, ◌≤◌, None, arith}
use Rattle.std.proofs.lemmas.Nat.{mul-le}
use Rattle.std.proofs.lemmas.Bool.Decides.{nat_tests}
use Rattle.cam_types.specs.Metadata.{range_fault}
use Rattle.cam_types.specs.declared.item.Settings.{Settings}

pub pattern-most : (s : Settings) → range_fault s ≡ None → s.pattern ≤ 2
pattern-most s h = grind (arith, nat_tests)

exposure-most : (s : Settings) → range_fault s ≡ None → s.exposure ≤ 100000000
exposure-most s h = grind (arith, nat_tests)

iso-most : (s : Settings) → range_fault s ≡ None → s.iso ≤ 1600
iso-most s h = grind (arith, nat_tests)

-- a thousand steps of exposure and a sensitivity of 1600 at most
pub gain-most : (s : Settings) → range_fault s ≡ None → (s.exposure / 100000) * s.iso ≤ 1600000
gain-most s h =
    let e = exposure-most s h in
    let steps : s.exposure / 100000 ≤ 1000 = omega arith in
    mul-le (s.exposure / 100000) s.iso 1000 1600 steps (iso-most s h)
