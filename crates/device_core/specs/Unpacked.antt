use Rattle.std.specs.Prelude.{◌≡◌, ℕ, ◌<◌, Bool, true, ◌&&◌, nat_lt, List, Option, Some, None, IfSome}
use Rattle.buffer_pool.specs.declared.parked.Parked.{Parked}
use Rattle.cam_types.specs.Shown.{Shown}
use Rattle.cam_types.specs.declared.job.JobView.{JobView}
use Rattle.device_core.specs.declared.buffers.Held.{Held}
use Rattle.device_core.specs.declared.buffers.Held.TheVariants.{Waiting, Filled}
use Rattle.device_core.specs.Steps.{waiter_kept}
use Rattle.buffer_pool.specs.Fences.{FencesMade}
use Rattle.fill_jobs.specs.Buffers.{IsBufferFor, IsPictureOf}
use Rattle.device_rows.specs.declared.table_row.Row.{Row}

-- A buffer that goes back without its picture being asked for (our own choice).

-- where it has a waiter, its fence is one of so many that were made
abbrev pub IsMadeHeld : ℕ → Held → Type 0
IsMadeHeld made (Waiting place) = IfSome place.fence (λ f. f < made)
IsMadeHeld made (Filled job) = Unit {0}

-- it shows the picture of the job
abbrev pub IsShown : JobView → Shown → Type 0
IsShown job pixels = (digest : List ℕ) × IsPictureOf job pixels digest

abbrev pub IsUnpacked : FencesMade → Held → Parked → Type 0
IsUnpacked fences (Waiting place) parked =
    IsBufferFor place.spec place.buffer parked.pixels × (parked.waiter ≡ waiter_kept fences place.fence)
IsUnpacked fences (Filled job) parked = IsShown job parked.pixels × (parked.waiter ≡ None)

-- ---- all that is held for a row

abbrev pub is_made_number : ℕ → Option ℕ → Bool
is_made_number made (Some f) = nat_lt f made
is_made_number made None = true

abbrev pub is_made_held : ℕ → Held → Bool
is_made_held made (Waiting place) = is_made_number made place.fence
is_made_held made (Filled job) = true

abbrev pub is_made_at : ℕ → Option Held → Bool
is_made_at made (Some held) = is_made_held made held
is_made_at made None = true

-- each waiter that is held is of one of so many fences that were made
abbrev pub is_made_row : ℕ → Row Held → Bool
is_made_row made row =
    is_made_at made row.parked.a
    && (is_made_at made row.parked.b && (is_made_at made row.parked.c && is_made_at made row.parked.d))
