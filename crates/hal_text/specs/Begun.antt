-- What is known of the calls that have begun.
use Rattle.std.specs.Prelude.{ℕ, ◌≡◌, List}
use Rattle.std.specs.BTreeSet.{contains}
use Rattle.std.specs.Ordering.{nat_cmp}
use Rattle.std.specs.List.{list_any}
use Rattle.hal_model.specs.declared.event.HalEvent.{HalEvent}
use Rattle.hal_model.specs.Words.{begins, begins_close, begins_configure, begins_flush, inits, opens, templates}
use Rattle.hal_text.specs.declared.begun.Begun.{Begun}

-- which calls have a begin among some events
pub record Knows (b : Begun) (past : List HalEvent) : Type 0 where
  pub opened : b.opened ≡ list_any opens past
  pub initialized : b.initialized ≡ list_any inits past
  pub templated : b.templated ≡ list_any templates past
  pub configured : b.configured ≡ list_any begins_configure past
  pub flushed : b.flushed ≡ list_any begins_flush past
  pub closed : b.closed ≡ list_any begins_close past
  pub requested : (n : ℕ) → contains nat_cmp b.requests n ≡ list_any (begins n) past
