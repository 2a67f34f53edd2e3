-- What the turns of a tally's threads say.
use Rattle.std.specs.Prelude.{◌≡◌, ℕ, ◌+◌, ◌<◌, List, length, Some, slice_get, slice_index}
use Rattle.turn_lock.specs.declared.tally.Tally.{Tally}

-- what no turn changes of a tally
abbrev pub name_of : Tally → ℕ
name_of t = t.name

-- the numbers from `from` on stand at these places
abbrev pub StandFrom : List ℕ → List ℕ → ℕ → Type 0
StandFrom seen places from = (k : ℕ) → k < length places → slice_get seen (slice_index places k) ≡ Some (from + k)
