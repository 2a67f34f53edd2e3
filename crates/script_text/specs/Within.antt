-- The limits that a line may pass by itself.
use Rattle.std.specs.Prelude.{ℕ, Bool, true, ◌&&◌, List, length, nat_le}
use Rattle.std.specs.List.{list_all}
use Rattle.cam_types.specs.declared.item.Item.{Item}
use Rattle.cam_types.specs.declared.item.Targets.{Targets}
use Rattle.cam_types.specs.declared.script.Command.{Command}
use Rattle.cam_types.specs.declared.script.Command.TheVariants.{Configure, Once, Burst, Repeat}
use Rattle.cam_types.specs.Limits.{burst_limit, repeat_limit, target_limit, spec_limit, pick_limit}
use Rattle.text_parts.specs.LineWords.{few}

-- eight targets at most
abbrev pub targets_within : Targets → Bool
targets_within targets = nat_le targets.count target_limit

abbrev pub item_within : Item → Bool
item_within item = targets_within item.targets

abbrev pub items_within : ℕ → List Item → Bool
items_within limit items = nat_le (length items) limit && list_all item_within items

abbrev pub specs_within : {A : Type 0} → List A → Bool
specs_within specs = nat_le (length specs) spec_limit

abbrev pub picks_within : List ℕ → Bool
picks_within picks = few pick_limit picks

-- a command's lists are within their limits
abbrev pub within : Command → Bool
within (Configure specs) = specs_within specs
within (Once item) = item_within item
within (Burst items) = items_within burst_limit items
within (Repeat items) = items_within repeat_limit items
within _ = true
