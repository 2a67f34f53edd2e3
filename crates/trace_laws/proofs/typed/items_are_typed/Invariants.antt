use Rattle.std.proofs.Common.{◌≡◌, true, take}
use Rattle.std.specs.List.{list_all}
use Rattle.trace_laws.specs.Typed.{item_typed}
use Rattle.trace_laws.proofs.typed.items_are_typed.Given as goal

abbrev pub invariant-loop-item : goal.invariant-loop-item
invariant-loop-item l = list_all item_typed (take l.item-index l.items) ≡ true
