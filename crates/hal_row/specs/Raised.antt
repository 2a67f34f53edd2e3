-- Who was begun last of those requests that brought something back, as numbers that are kept for each order.
use Rattle.std.specs.Prelude.{◌≡◌, ℕ, ◌==◌, Bool, true, false, ◌&&◌, List, nat_eq, if◌then◌else◌}
use Rattle.std.specs.List.{list_any}
use Rattle.std.specs.Map.{lookup}
use Rattle.std.specs.Option.{unwrap_or}
use Rattle.hal_rows.specs.declared.order.Order.{Order}
use Rattle.hal_rows.specs.declared.order.Order.TheVariants.{Sound, Filled, Orderly, Other}
use Rattle.hal_rows.specs.declared.row.TargetRow.{TargetRow}
use Rattle.hal_rows.specs.Device.{above}
use Rattle.hal_row.specs.declared.order.Tops.{Tops}

abbrev pub is_same_order : Order → Order → Bool
is_same_order Sound Sound = true
is_same_order (Filled s) (Filled t) = s == t
is_same_order (Orderly s) (Orderly t) = s == t
is_same_order (Other s) (Other t) = s == t
is_same_order _ _ = false

-- the number of a stream; what has no entry has 0
abbrev pub number_of : List (ℕ × ℕ) → ℕ → ℕ
number_of numbers s = unwrap_or (lookup (nat_eq s) numbers) 0

abbrev pub top_in : Tops → Order → ℕ
top_in t Sound = t.sound
top_in t (Filled s) = number_of t.filled.entries s
top_in t (Orderly s) = number_of t.orderly.entries s
top_in t (Other s) = number_of t.other.entries s

-- for the orders that pass the test the numbers are raised above the rank
abbrev pub IsRaised : ℕ → (Order → Bool) → Tops → Tops → Type 0
IsRaised rank test old new =
    (order : Order) → top_in new order ≡ (if test order then above rank (top_in old order) else top_in old order)

-- the target brought back what the order asks of a stream
abbrev pub target_brings : TargetRow → Order → Bool
target_brings t Sound = false
target_brings t (Filled s) = (t.target.stream == s) && t.filled
target_brings t (Orderly s) = (t.target.stream == s) && t.orderly
target_brings t (Other s) = (t.target.stream == s) && t.other

abbrev pub targets_bring : List TargetRow → Order → Bool
targets_bring targets order = list_any (λ t. target_brings t order) targets
