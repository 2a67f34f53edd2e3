-- What the code carries on from event to event. No public contract speaks of it.
use Rattle.std.specs.Prelude.{◌≡◌, ℕ, List}
use Rattle.hal_judge.specs.Judged.{IsOf}
use Rattle.hal_model.specs.Rules.{plain_rules, report_by}
use Rattle.hal_model.specs.declared.event.HalEvent.{HalEvent}
use Rattle.hal_timeline.specs.Walks.{standing, standing_of}
use Rattle.hal_timeline.specs.declared.group.Pass.{Pass}

pub record IsPast (k : ℕ) (past : List HalEvent) (p : Pass) : Type 0 where
  pub stands : standing_of p.walk ≡ standing past
  pub table : IsOf k past p.table
  pub told : p.breaches.items ≡ report_by plain_rules k past
