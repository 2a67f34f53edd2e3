-- The script without its faults may be opened as well.
use Rattle.std.proofs.Common.{◌≡◌, true, length, nat_le}
use Rattle.std.proofs.lemmas.Bool.{and_from, and_parts}
use Rattle.cam_types.specs.declared.script.Script.{Script}
use Rattle.cam_types.specs.Limits.{fault_limit}
use Rattle.cam_types.specs.Profile.{profile_fits}
use Rattle.cam_types.specs.Script.{is_valid}
use Rattle.logical_call.specs.Orderless.{without_faults}

pub valid_without : (script : Script) → is_valid script ≡ true → is_valid (without_faults script) ≡ true
valid_without script valid =
    let first = and_parts (profile_fits script.version script.profile) _ valid in
    let second = and_parts (nat_le (length script.faults) fault_limit) _ first.1 in
    and_from (profile_fits script.version script.profile) _ first.0 second.1
