-- What a result's pack of metadata says.
use Rattle.std.specs.Prelude.{ℕ, ◌==◌, Bool, true, false, ◌&&◌, not, List, nat_le, nat_lt}
use Rattle.hal_model.specs.declared.event.Pack.{Pack}
use Rattle.hal_model.specs.declared.event.Pack.TheVariants.{Entries, Empty, Absent}
use Rattle.hal_model.specs.declared.event.Returned.{Returned}
use Rattle.hal_model.specs.Framework.{is_empty}

abbrev pub is_entries : Pack → Bool
is_entries Entries = true
is_entries _ = false

abbrev pub is_absent_pack : Pack → Bool
is_absent_pack Absent = true
is_absent_pack _ = false

-- neither a buffer nor metadata
abbrev pub is_last_result : Pack → List Returned → Bool
is_last_result Entries buffers = false
is_last_result _ buffers = is_empty buffers

-- the number isn't one that the pack may have, where k is the device's partial result count
abbrev pub is_wrong_number : ℕ → ℕ → Pack → Bool
is_wrong_number k j Entries = not (nat_lt 0 j && nat_le j k)
is_wrong_number k j Empty = nat_lt k j
is_wrong_number k j Absent = not (j == 0)
