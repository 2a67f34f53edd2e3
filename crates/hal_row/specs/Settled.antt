-- Whose numbers an event raises that begins no request, by the row in which it was noted.
use Rattle.std.specs.Prelude.{◌≡◌, Option, None}
use Rattle.hal_model.specs.declared.event.HalEvent.{HalEvent}
use Rattle.hal_model.specs.declared.event.HalEvent.TheVariants.{RequestOk, Results}
use Rattle.hal_rows.specs.declared.order.Order.{Order}
use Rattle.hal_rows.specs.declared.row.Row.{Row}
use Rattle.hal_rows.specs.State.{brings, if_accepted, raised}
use Rattle.hal_row.specs.declared.order.Tops.{Tops}
use Rattle.hal_row.specs.Raised.{top_in}

-- of the row of the request that the event names, where there is one
abbrev pub settled_of : HalEvent → Option Row → Option Row
settled_of (RequestOk _) row = row
settled_of (Results _ _ _ _ _) row = if_accepted row
settled_of _ row = None

-- the numbers are raised for what the row's request brought back, where there is one
abbrev pub IsTopped : Option Row → Tops → Tops → Type 0
IsTopped row old new = (order : Order) → top_in new order ≡ raised (brings order) row (top_in old order)
