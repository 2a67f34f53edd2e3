use Rattle.std.specs.Prelude.{ℕ, ◌==◌, ◌^◌, Bool, true, ◌&&◌, List, length, take, nat_lt}
use Rattle.std.specs.List.{list_all}
use Rattle.cam_types.specs.declared.item.Item.{Item}
use Rattle.cam_types.specs.declared.item.Settings.{Settings}
use Rattle.cam_types.specs.declared.item.Targets.{Targets}
use Rattle.cam_types.specs.declared.script.Command.{Command}
use Rattle.cam_types.specs.declared.script.Command.TheVariants.{Configure, Once, Burst, Repeat, Await}
use Rattle.cam_types.specs.declared.script.Fault.{Fault}
use Rattle.cam_types.specs.declared.script.Fault.TheVariants.{Request, Result, Buffer, Device}
use Rattle.cam_types.specs.declared.script.Script.{Script}
use Rattle.cam_types.specs.declared.stream.Format.{Format}
use Rattle.cam_types.specs.declared.stream.Format.TheVariants.{Other}
use Rattle.cam_types.specs.declared.stream.StreamSpec.{StreamSpec}
use Rattle.cam_types.specs.Script.{is_valid}
use Rattle.cam_types.specs.Limits.{target_limit}

-- A valid script whose numbers are also within what their types allow, as those of every script that is there are: a
-- byte is below 256, a number of 32 bits below 2^32, and `list` has eight places. (docs/FORMATS.md, script text)

-- a pattern is a byte
abbrev pub settings_typed : Settings → Bool
settings_typed s = nat_lt s.pattern (2 ^ 8)

abbrev pub bytes_typed : List ℕ → Bool
bytes_typed list = list_all (λ s. nat_lt s (2 ^ 8)) list

-- eight places, and bytes in as many of them as are used
abbrev pub targets_typed : Targets → Bool
targets_typed t = (length t.list == target_limit) && bytes_typed (take t.count t.list)

abbrev pub item_typed : Item → Bool
item_typed i = settings_typed i.settings && targets_typed i.targets

abbrev pub format_typed : Format → Bool
format_typed (Other n) = nat_lt n (2 ^ 32)
format_typed _ = true

abbrev pub spec_typed : StreamSpec → Bool
spec_typed s = format_typed s.format

abbrev pub command_typed : Command → Bool
command_typed (Configure specs) = list_all spec_typed specs
command_typed (Once item) = item_typed item
command_typed (Burst items) = list_all item_typed items
command_typed (Repeat items) = list_all item_typed items
command_typed (Await k) = nat_lt k (2 ^ 32)
command_typed _ = true

abbrev pub fault_typed : Fault → Bool
fault_typed (Request n) = nat_lt n.0 (2 ^ 32)
fault_typed (Result n) = nat_lt n.0 (2 ^ 32)
fault_typed (Buffer n s) = nat_lt n.0 (2 ^ 32) && nat_lt s.0 (2 ^ 8)
fault_typed (Device n) = nat_lt n.0 (2 ^ 32)

abbrev pub numbers_typed : List ℕ → Bool
numbers_typed numbers = list_all (λ p. nat_lt p (2 ^ 32)) numbers

-- the numbers of the script's faults, picks and commands are within their types
abbrev pub is_typed : Script → Bool
is_typed s = list_all fault_typed s.faults && (numbers_typed s.picks && list_all command_typed s.commands)

-- the script is valid, and its numbers are within their types
abbrev pub fits : Script → Bool
fits s = is_valid s && is_typed s
