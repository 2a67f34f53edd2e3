-- The rows of a judge's state are those of the live requests.
use Rattle.std.proofs.Common.{◌≡◌, ℕ, List, length, ap, ◌∙◌}
use Rattle.std.proofs.lemmas.List.{length-map}
use Rattle.hal_model.specs.Rules.{known}
use Rattle.hal_model.specs.declared.event.HalEvent.{HalEvent}
use Rattle.hal_rows.specs.Row.{row_of, rows}
use Rattle.hal_rows.specs.State.{HalState, hal_state}
use Rattle.hal_timeline.specs.Groups.{live_among, live_count}

rows-live : (k : ℕ) (heard : List HalEvent) → length (rows k heard) ≡ live_among k heard
rows-live k heard = length-map _ (row_of k heard)

pub live_rows : (k : ℕ) (past : List HalEvent) (s : HalState) → s ≡ hal_state k (known k past) → length s.rows ≡ live_count k past
live_rows k past s e = ap (λ (z : HalState). length z.rows) e ∙ rows-live k (known k past)
