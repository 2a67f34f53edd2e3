use Rattle.std.proofs.Common.{◌≡◌, true, ◌++◌, take, map}
use Rattle.std.specs.Prelude.{string_bytes}
use Rattle.std.specs.List.{list_all}
use Rattle.script_text.specs.Fits.{item_typed}
use Rattle.script_text.specs.Spelling.{item_text, behind_spaces}
use Rattle.script_text.proofs.spelled_value.write_items.Given as goal

abbrev pub invariant-loop-item : goal.invariant-loop-item
invariant-loop-item l = (string_bytes l.out ≡ string_bytes l.fn.out ++ behind_spaces (map item_text (take l.item-index l.items))) × (list_all item_typed (take l.item-index l.items) ≡ true)
