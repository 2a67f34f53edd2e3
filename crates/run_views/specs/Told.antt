-- A text that is told piece by piece while its sink may fail. (Our own choice.)
use Rattle.std.specs.Prelude.{◌≡◌, ℕ, Bool, true, false, List, ◌++◌}
use Rattle.io_edge.specs.States.{SinkState}
use Rattle.call_parts.specs.Answers.{Broken}
use Rattle.run_model.specs.State.{State}
use Rattle.io_edge.specs.Pieces.{Gathers}
use Rattle.run_views.specs.Listing.{told}
use Rattle.run_views.specs.declared.teller.Teller.{Teller}

abbrev pub IsToldWith : Bool → List ℕ → SinkState → SinkState → List ℕ → Type 0
IsToldWith false gathered before after text = Gathers before after gathered text × (after.faults ≡ before.faults)
IsToldWith true gathered before after text = Broken text before after

-- the text was told since: it is written or gathered, and no fault was counted; or the sink failed, and a front of it
-- was written
abbrev pub IsTold : Teller → SinkState → SinkState → List ℕ → Type 0
IsTold teller before after text = IsToldWith teller.broken teller.pieces before after text

-- whatever text was told before, these bytes are told behind it
abbrev pub TellsMore : List ℕ → Teller → Teller → SinkState → SinkState → Type 0
TellsMore bytes old new before after =
    (first : SinkState) (text : List ℕ) → IsTold old first before text → IsTold new first after (text ++ bytes)

-- where the moves so far were told behind a text, those that are made now are told behind them
abbrev pub TellsMoves : State → State → Teller → Teller → SinkState → SinkState → Type 0
TellsMoves past now old new before after =
    (first : SinkState) (text : List ℕ) →
    IsTold old first before (text ++ told past.script past.history)
    → IsTold new first after (text ++ told now.script now.history)
