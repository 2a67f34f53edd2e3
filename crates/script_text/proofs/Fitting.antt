-- What fits, condition by condition with the ranges of the types beside it: this is the same, and proofs use it.
use Rattle.std.proofs.Common.{◌≡◌, ℕ, zero, suc, ◌^◌, ◌==◌, Bool, true, false, ◌&&◌, not, List, [], ◌∷◌, refl, sym, arith, length, take, drop, nat_lt, nat_le}
use Rattle.std.specs.Prelude.{sum_by}
use Rattle.std.specs.List.{list_all, list_any}
use Rattle.cam_types.specs.declared.item.Item.{Item}
use Rattle.cam_types.specs.declared.item.Settings.{Settings}
use Rattle.cam_types.specs.declared.item.Targets.{Targets}
use Rattle.cam_types.specs.declared.script.Command.{Command}
use Rattle.cam_types.specs.declared.script.Command.TheVariants.{Configure, Once, Burst, Repeat, Await}
use Rattle.cam_types.specs.declared.script.Script.{Script}
use Rattle.cam_types.specs.declared.stream.Format.{Format}
use Rattle.cam_types.specs.declared.stream.Format.TheVariants.{Raw16, Yuv, Other}
use Rattle.cam_types.specs.declared.stream.StreamSpec.{StreamSpec}
use Rattle.cam_types.specs.Limits.{command_limit, burst_limit, repeat_limit, target_limit, spec_limit, awaited_limit, fault_limit, pick_limit}
use Rattle.cam_types.specs.Profile.{profile_fits}
use Rattle.cam_types.specs.Script.{awaited_by, is_closing_command, settings_fit as settings_valid, targets_fit as targets_valid, item_fits as item_valid, format_fits as format_valid, spec_fits as spec_valid, command_fits as command_valid}
use Rattle.script_text.specs.Fits.{fits, bytes_typed, settings_typed, targets_typed, item_typed, format_typed, spec_typed, command_typed, fault_typed, numbers_typed}
use Rattle.basic_lemmas.proofs.Tests.{two-ways}

abbrev pub settings_fit : Settings → Bool
settings_fit s =
    nat_lt s.pattern (2 ^ 8) && (nat_lt s.level (2 ^ 31) && (nat_lt s.exposure (2 ^ 63) && nat_lt s.iso (2 ^ 31)))

abbrev pub targets_fit : Targets → Bool
targets_fit t =
    nat_le t.count target_limit
    && ((length t.list == target_limit)
    && (list_all (λ s. nat_lt s (2 ^ 8)) t.list && list_all (λ s. s == 0) (drop t.count t.list)))

abbrev pub item_fits : Item → Bool
item_fits i = settings_fit i.settings && targets_fit i.targets

abbrev pub format_fits : Format → Bool
format_fits Raw16 = true
format_fits Yuv = true
format_fits (Other n) = nat_lt n (2 ^ 32) && (not (n == 32) && not (n == 35))

abbrev pub spec_fits : StreamSpec → Bool
spec_fits s =
    format_fits s.format
    && ((nat_lt 0 s.width && nat_lt s.width (2 ^ 16)) && (nat_lt 0 s.height && nat_lt s.height (2 ^ 16)))

abbrev pub command_fits : Command → Bool
command_fits (Configure specs) = nat_le (length specs) spec_limit && list_all spec_fits specs
command_fits (Once item) = item_fits item
command_fits (Burst items) = nat_le (length items) burst_limit && list_all item_fits items
command_fits (Repeat items) = nat_le (length items) repeat_limit && list_all item_fits items
command_fits (Await k) = nat_lt 0 k && nat_lt k (2 ^ 32)
command_fits _ = true

abbrev pub script_fits : Script → Bool
script_fits s =
    (profile_fits s.version s.profile && (nat_le (length s.faults) fault_limit && list_all fault_typed s.faults))
    && ((nat_le (length s.picks) pick_limit && numbers_typed s.picks)
    && ((nat_le (length s.commands) command_limit && list_all command_fits s.commands)
    && (nat_le (sum_by awaited_by s.commands) awaited_limit && list_any is_closing_command s.commands)))

-- ---- each is valid and within its types

all-both : {X : Type 0} (p q r : X → Bool) → ((x : X) → p x ≡ q x && r x) → (xs : List X) → list_all p xs ≡ list_all q xs && list_all r xs
all-both p q r each [] = refl
all-both p q r each (x ∷ xs) = grind (arith, each x, all-both p q r each xs)

-- zeros are bytes
zeros-bytes : (list : List ℕ) → list_all (λ s. s == 0) list ≡ true → bytes_typed list ≡ true
zeros-bytes [] k = refl
zeros-bytes (b ∷ list) k =
    let first : nat_lt b (2 ^ 8) ≡ true = grind arith in
    let others : list_all (λ s. s == 0) list ≡ true = grind arith in
    rw (first, zeros-bytes list others) refl

-- bytes, and zeros behind them, are bytes
all-bytes : (n : ℕ) (list : List ℕ) → list_all (λ s. s == 0) (drop n list) ≡ true → bytes_typed list ≡ bytes_typed (take n list)
all-bytes zero list k = zeros-bytes list k
all-bytes (suc n) [] k = refl
all-bytes (suc n) (b ∷ list) k = rw (all-bytes n list k) refl

settings-both : (s : Settings) → settings_fit s ≡ settings_valid s && settings_typed s
settings-both s = grind arith

targets-both : (t : Targets) → targets_fit t ≡ targets_valid t && targets_typed t
targets-both t = grind (arith, all-bytes t.count t.list)

item-both : (i : Item) → item_fits i ≡ item_valid i && item_typed i
item-both i = rw (settings-both i.settings, targets-both i.targets) (grind arith)

format-both : (f : Format) → format_fits f ≡ format_valid f && format_typed f
format-both Raw16 = refl
format-both Yuv = refl
format-both (Other n) = grind arith

spec-both : (s : StreamSpec) → spec_fits s ≡ spec_valid s && spec_typed s
spec-both s = rw (format-both s.format) (grind arith)

command-both : (c : Command) → command_fits c ≡ command_valid c && command_typed c
command-both (Configure specs) = rw (all-both spec_fits spec_valid spec_typed spec-both specs) (grind arith)
command-both (Once item) = item-both item
command-both (Burst items) = rw (all-both item_fits item_valid item_typed item-both items) (grind arith)
command-both (Repeat items) = rw (all-both item_fits item_valid item_typed item-both items) (grind arith)
command-both (Await n) = grind arith
command-both _ = refl

regrouped : (profile faults faults' picks picks' few valid typed awaited closes : Bool) →
    (profile && (faults && faults')) && ((picks && picks') && ((few && (valid && typed)) && (awaited && closes)))
    ≡ (profile && (faults && (picks && (few && (valid && (awaited && closes)))))) && (faults' && (picks' && typed))
regrouped profile faults faults' picks picks' few valid typed awaited closes = two-ways _ _ (λ h. grind arith) (λ h. grind arith)

pub script-both : (s : Script) → script_fits s ≡ fits s
script-both s =
    rw (all-both command_fits command_valid command_typed command-both s.commands)
    (regrouped (profile_fits s.version s.profile) (nat_le (length s.faults) fault_limit) (list_all fault_typed s.faults) (nat_le (length s.picks) pick_limit) (numbers_typed s.picks) (nat_le (length s.commands) command_limit)
    (list_all command_valid s.commands) (list_all command_typed s.commands) (nat_le (sum_by awaited_by s.commands) awaited_limit) (list_any is_closing_command s.commands))
