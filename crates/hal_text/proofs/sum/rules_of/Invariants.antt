use Rattle.std.proofs.Common.{◌≡◌, [], drop}
use Rattle.hal_text.specs.Sum.{rules_behind}
use Rattle.hal_text.proofs.sum.rules_of.Given as goal

-- those so far, and what is left behind them
abbrev pub invariant-loop-breach : goal.invariant-loop-breach
invariant-loop-breach l = rules_behind l.rules.items (drop l.breach-index l.breaches) ≡ rules_behind [] l.breaches
