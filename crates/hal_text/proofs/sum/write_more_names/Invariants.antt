use Rattle.std.proofs.Common.{◌≡◌, ◌++◌, take}
use Rattle.std.specs.Prelude.{codes, string_bytes}
use Rattle.std.specs.List.{flat_map}
use Rattle.hal_model.specs.Names.{rule_name}
use Rattle.hal_text.proofs.sum.write_more_names.Given as goal

abbrev pub invariant-loop-rule : goal.invariant-loop-rule
invariant-loop-rule l =
    string_bytes l.out ≡ string_bytes l.initial.out ++ flat_map (λ r. codes ", " ++ rule_name r) (take l.rule-index l.rules)
