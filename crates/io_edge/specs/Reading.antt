-- What `read_all` answers, and what it takes from its source.
use Rattle.std.specs.Prelude.{ℕ, ◌≡◌, ◌+◌, ◌<◌, ◌≤◌, List, length, Option, IfSome, Result, Ok, Err}
use Rattle.std.specs.Io.KnownBytes.{IsAtEnd}
use Rattle.io_edge.specs.declared.reading.ReadBytes.{ReadBytes}
use Rattle.io_edge.specs.declared.reading.ReadBytes.TheVariants.{Whole, TooLong}
use Rattle.io_edge.specs.declared.reading.ReadFault.{ReadFault}
use Rattle.io_edge.specs.declared.reading.ReadFault.TheVariants.{Failed, NoMemory}
use Rattle.io_edge.specs.Faults.{Rose}

-- the bytes that were left, if they are no more than the limit
abbrev pub IsAnswer : Option (List ℕ) → ℕ → ReadBytes → Type 0
IsAnswer left limit (Whole bytes) = (length bytes.items ≤ limit) × IfSome left (λ all. bytes.items ≡ all)
IsAnswer left limit TooLong = IfSome left (λ all. limit < length all)

-- what it took: all that was left; one byte more than the limit; at a fault, no more than the limit
abbrev pub IsTaken : ℕ → List ℕ → Option (List ℕ) → Result ReadBytes ReadFault → Type 0
IsTaken limit taken left (Ok (Whole bytes)) = (bytes.items ≡ taken) × IsAtEnd left
IsTaken limit taken left (Ok TooLong) = length taken ≡ limit + 1
IsTaken limit taken left (Err fault) = length taken ≤ limit

-- the source counted a fault where the answer is Failed, and only there
abbrev pub ReadCounts : Result ReadBytes ReadFault → ℕ → ℕ → Type 0
ReadCounts (Err Failed) before after = Rose before after
ReadCounts (Err NoMemory) before after = after ≡ before
ReadCounts (Ok answer) before after = after ≡ before
