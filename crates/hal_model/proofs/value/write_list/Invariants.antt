use Rattle.std.proofs.Common.{◌≡◌, true, ◌++◌, take, map}
use Rattle.std.specs.Prelude.{string_bytes}
use Rattle.std.specs.List.{list_all}
use Rattle.hal_model.specs.Spelling.{behind_spaces}
use Rattle.hal_model.proofs.value.write_list.Given as goal

abbrev pub invariant-loop-value : goal.invariant-loop-value
invariant-loop-value g l = (string_bytes l.out ≡ string_bytes l.fn.out ++ behind_spaces (map (g.T.Listed.text) (take l.value-index l.values))) × (list_all (g.T.Listed.typed) (take l.value-index l.values) ≡ true)
