use Rattle.std.specs.Prelude.{ℕ, Bool, true, ◌&&◌, List}
use Rattle.std.specs.List.{list_all}
use Rattle.cam_types.specs.declared.item.Item.{Item}
use Rattle.cam_types.specs.declared.script.Command.{Command}
use Rattle.cam_types.specs.declared.script.Command.TheVariants.{Once, Burst, Repeat}
use Rattle.cam_types.specs.declared.script.Script.{Script}
use Rattle.trace_model.specs.Printable.{is_byte}

-- What the types alone say of a script: they keep patterns and streams within a byte. All other numbers of a script
-- that an entry can show are bounded where it is valid.

abbrev pub are_bytes : List ℕ → Bool
are_bytes list = list_all is_byte list

abbrev pub item_typed : Item → Bool
item_typed item = is_byte item.settings.pattern && are_bytes item.targets.list

abbrev pub command_typed : Command → Bool
command_typed (Once item) = item_typed item
command_typed (Burst items) = list_all item_typed items
command_typed (Repeat items) = list_all item_typed items
command_typed _ = true

-- as every script is that there is
abbrev pub is_typed : Script → Bool
is_typed script = list_all command_typed script.commands
