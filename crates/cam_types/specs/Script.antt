use Rattle.std.specs.Prelude.{ℕ, ◌==◌, ◌^◌, Bool, true, false, ◌&&◌, not, length, drop, nat_lt, nat_le, sum_by}
use Rattle.std.specs.List.{list_all, list_any}
use Rattle.cam_types.specs.declared.item.Item.{Item}
use Rattle.cam_types.specs.declared.item.Settings.{Settings}
use Rattle.cam_types.specs.declared.item.Targets.{Targets}
use Rattle.cam_types.specs.declared.script.Command.{Command}
use Rattle.cam_types.specs.declared.script.Command.TheVariants.{Configure, Once, Burst, Repeat, Await, Close, Disconnect}
use Rattle.cam_types.specs.declared.script.Script.{Script}
use Rattle.cam_types.specs.declared.stream.Format.{Format}
use Rattle.cam_types.specs.declared.stream.Format.TheVariants.{Raw16, Yuv, Other}
use Rattle.cam_types.specs.declared.stream.StreamSpec.{StreamSpec}
use Rattle.cam_types.specs.Limits.{command_limit, burst_limit, repeat_limit, target_limit, spec_limit, awaited_limit, fault_limit, pick_limit}
use Rattle.cam_types.specs.Profile.{profile_fits}

-- What a script may hold: the ranges of numbers in its text, as far as the types leave them open, and the limits on
-- how many there are of each. Our own choice. (The ranges of settings in a request that is accepted are narrower.)

-- the settings' numbers fit the types of their metadata
abbrev pub settings_fit : Settings → Bool
settings_fit s = nat_lt s.level (2 ^ 31) && (nat_lt s.exposure (2 ^ 63) && nat_lt s.iso (2 ^ 31))

-- at most eight targets, and zeros past them
abbrev pub targets_fit : Targets → Bool
targets_fit t = nat_le t.count target_limit && list_all (λ s. s == 0) (drop t.count t.list)

abbrev pub item_fits : Item → Bool
item_fits i = settings_fit i.settings && targets_fit i.targets

-- a format of another number isn't one of the two that have names
abbrev pub format_fits : Format → Bool
format_fits Raw16 = true
format_fits Yuv = true
format_fits (Other n) = not (n == 32) && not (n == 35)

-- a size of 1 to 65535 in each direction
abbrev pub spec_fits : StreamSpec → Bool
spec_fits s =
    format_fits s.format
    && ((nat_lt 0 s.width && nat_lt s.width (2 ^ 16)) && (nat_lt 0 s.height && nat_lt s.height (2 ^ 16)))

abbrev pub command_fits : Command → Bool
command_fits (Configure specs) = nat_le (length specs) spec_limit && list_all spec_fits specs
command_fits (Once item) = item_fits item
command_fits (Burst items) = nat_le (length items) burst_limit && list_all item_fits items
command_fits (Repeat items) = nat_le (length items) repeat_limit && list_all item_fits items
command_fits (Await k) = nat_lt 0 k
command_fits _ = true

-- how many repeating frames a command waits for
abbrev pub awaited_by : Command → ℕ
awaited_by (Await k) = k
awaited_by _ = 0

-- the command closes the device for good
abbrev pub is_closing_command : Command → Bool
is_closing_command Close = true
is_closing_command Disconnect = true
is_closing_command _ = false

-- a valid script: its profile is one of its version, every command fits, all counts are within their limits, and the
-- client closes or disconnects
abbrev pub is_valid : Script → Bool
is_valid s =
    profile_fits s.version s.profile
    && (nat_le (length s.faults) fault_limit
    && (nat_le (length s.picks) pick_limit
    && (nat_le (length s.commands) command_limit
    && (list_all command_fits s.commands
    && (nat_le (sum_by awaited_by s.commands) awaited_limit
    && list_any is_closing_command s.commands)))))
