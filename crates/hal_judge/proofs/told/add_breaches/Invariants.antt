use Rattle.std.proofs.Common.{◌≡◌, ◌++◌, take}
use Rattle.hal_rows.specs.Judged.{all_breaches_at}
use Rattle.hal_table.specs.State.{state_of}
use Rattle.hal_judge.proofs.told.add_breaches.Given as goal

abbrev pub invariant-loop-rule : goal.invariant-loop-rule
invariant-loop-rule l =
    l.breaches.items
    ≡ l.initial.breaches.items ++ all_breaches_at l.place.parts l.place.line l.event (state_of l.table) (take l.rule-index l.rules)
