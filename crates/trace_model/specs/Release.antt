use Rattle.std.specs.Prelude.{ℕ, ◌&&◌, not, List, Option, Some, None, nat_lt, if◌then◌else◌}
use Rattle.trace_model.specs.declared.entry.Entry.{Entry}
use Rattle.trace_model.specs.declared.entry.Entry.TheVariants.{Release, Signal}
use Rattle.trace_model.specs.Fence.{early_fence_of, is_signalled, is_there}
use Rattle.trace_model.specs.Numbers.{next_fence}
use Rattle.trace_model.specs.Place.{Client, place, is_at}

-- The client gives a buffer back with a fence of the next number, and signals the fence later (our own choice).

-- the release of buffer b that is due: one that came back early is kept until its device fence is signalled
abbrev pub release_due : List Entry → ℕ → Option Entry
release_due past b =
    if is_at (place b past) Client && is_there (early_fence_of b past) past
    then Some (Release (record { 0 = b }) (record { 0 = next_fence past })) else None

-- the signal of fence f that is due: it was released and isn't signalled
abbrev pub signal_due : List Entry → ℕ → Option Entry
signal_due past f =
    if nat_lt f (next_fence past) && not (is_signalled f past) then Some (Signal (record { 0 = f })) else None
