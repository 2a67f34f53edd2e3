-- Whose turn it is, by which runs are complete. (Our own choice; the same as `IsTurn`.)
use Rattle.std.specs.Prelude.{ℕ, ◌==◌, ◌%◌, Bool, true, false, if◌then◌else◌}
use Rattle.logical_call.specs.declared.turn.Turn.{Turn}
use Rattle.logical_call.specs.declared.turn.Turn.TheVariants.{First, Second, Over}

abbrev pub turn_of : ℕ → Bool → Bool → Turn
turn_of pick true true = Over
turn_of pick true false = Second
turn_of pick false true = First
turn_of pick false false = if pick % 2 == 0 then First else Second
