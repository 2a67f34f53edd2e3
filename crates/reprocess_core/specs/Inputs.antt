use Rattle.std.specs.Prelude.{◌≡◌, ℕ, ◌<◌, ◌*◌, ◌/◌, Bool, true, false, List, Option, Some, None, length, slice_get, slice_index_or}
use Rattle.cam_types.specs.Shown.{Shown}
use Rattle.cam_types.specs.declared.stream.StreamSpec.{StreamSpec}
use Rattle.reprocess_model.specs.Past.{input_holder}
use Rattle.reprocess_model.specs.Plan.{requests}
use Rattle.reprocess_model.specs.declared.entry.ReEntry.{ReEntry}
use Rattle.reprocess_model.specs.declared.plan.Plan.{Plan}
use Rattle.reprocess_core.specs.declared.input.Place.{Place}
use Rattle.reprocess_core.specs.declared.input.Place.TheVariants.{Home, Out}
use Rattle.reprocess_core.specs.Tickets.{TicketView}

-- Where the three input buffers are.

-- the buffer shows as many bytes as a picture of the stream has
abbrev pub HasRoom : StreamSpec → Shown → Type 0
HasRoom spec pixels = length pixels.bytes ≡ spec.width * spec.height * 3 / 2

-- a ticket of this request and its settings, of the plan's input
pub record IsTicket (plan : Plan) (n : ℕ) (ticket : TicketView) : Type 0 where
  pub frame : ticket.frame.0 ≡ n
  pub spec : ticket.spec ≡ plan.input
  pub settings : slice_get (requests plan.commands) n ≡ Some ticket.settings

-- a place where the request that holds the buffer is this one, or none
abbrev pub IsPlace : Plan → Option ℕ → Option Place → Type 0
IsPlace plan None (Some (Home pixels)) = HasRoom plan.input pixels
IsPlace plan (Some n) (Some (Out ticket)) = IsTicket plan n ticket
IsPlace plan _ _ = ⊥

-- each input buffer is where the past has it
pub record ArePlaces (plan : Plan) (past : List ReEntry) (places : List (Option Place)) : Type 0 where
  pub three : length places ≡ 3
  pub each : (i : ℕ) → i < 3 → IsPlace plan (input_holder i past) (slice_index_or places i None)

abbrev pub is_home : Option Place → Bool
is_home (Some (Home _)) = true
is_home _ = false

abbrev pub is_out : Option Place → Bool
is_out (Some (Out _)) = true
is_out _ = false

-- a buffer is at home with room for pictures of the stream
abbrev pub IsHomeWith : StreamSpec → Option Place → Type 0
IsHomeWith spec (Some (Home pixels)) = HasRoom spec pixels
IsHomeWith spec _ = ⊥

-- three buffers, all at home
pub record AreHome (spec : StreamSpec) (places : List (Option Place)) : Type 0 where
  pub three : length places ≡ 3
  pub each : (i : ℕ) → i < 3 → IsHomeWith spec (slice_index_or places i None)
