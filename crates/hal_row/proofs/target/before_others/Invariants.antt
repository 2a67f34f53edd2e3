use Rattle.std.proofs.Common.{◌≡◌, ◌∷◌, take}
use Rattle.hal_row.proofs.target.before_others.Given as goal

abbrev pub invariant-loop-other : goal.invariant-loop-other
invariant-loop-other l = l.all ≡ l.number ∷ take l.other-index l.numbers
