use Rattle.std.specs.Prelude.{ℕ, ◌+◌, Bool, true, false, ◌&&◌, List, [], ◌∷◌, Option, Some, None, nat_le, nat_lt, sum_by, slice_get}
use Rattle.std.specs.List.{list_any, range_with_len}
use Rattle.cam_types.specs.Four.{four_list}
use Rattle.cam_types.specs.declared.reply.Made.{Made}
use Rattle.cam_types.specs.declared.reply.Reply.TheVariants.{Configured}
use Rattle.cam_types.specs.declared.script.Command.{Command}
use Rattle.cam_types.specs.declared.script.Command.TheVariants.{Configure}
use Rattle.cam_types.specs.declared.script.Script.{Script}
use Rattle.cam_types.specs.declared.stream.StreamSpec.{StreamSpec}
use Rattle.trace_model.specs.declared.entry.Entry.{Entry}
use Rattle.trace_model.specs.declared.entry.Entry.TheVariants.{Call}
use Rattle.trace_model.specs.Calls.{command_at}

-- The streams and buffers are those of the last accepted configuration (camera3.h, configure_streams). Each accepted
-- one makes fresh buffers, whose numbers were never used (our own choice).

abbrev pub streams_of : Option Command → List StreamSpec
streams_of (Some (Configure specs)) = specs
streams_of _ = []

-- the streams
abbrev pub streams : Script → List Entry → List StreamSpec
streams script [] = []
streams script (Call i _ (Configured _) ∷ past) = streams_of (command_at script i)
streams script (_ ∷ past) = streams script past

-- the buffers made for each stream
abbrev pub made : List Entry → List Made
made [] = []
made (Call _ _ (Configured each) ∷ past) = four_list each
made (_ ∷ past) = made past

abbrev pub configures : Entry → Bool
configures (Call _ _ (Configured _)) = true
configures _ = false

abbrev pub is_configured : List Entry → Bool
is_configured past = list_any configures past

-- the numbers of a stream's buffers
abbrev pub numbers_of : Option Made → List ℕ
numbers_of (Some m) = range_with_len m.first.0 m.count
numbers_of None = []

abbrev pub buffers_of : List Entry → ℕ → List ℕ
buffers_of past s = numbers_of (slice_get (made past) s)

-- buffer b is one of the configuration's
abbrev pub is_made : ℕ → Made → Bool
is_made b m = nat_le m.first.0 b && nat_lt b (m.first.0 + m.count)

abbrev pub is_buffer : List Entry → ℕ → Bool
is_buffer past b = list_any (is_made b) (made past)

-- how many buffers all configurations made, which is the number of the next
abbrev pub made_by : Entry → ℕ
made_by (Call _ _ (Configured each)) = sum_by (λ m. m.count) (four_list each)
made_by _ = 0

abbrev pub made_count : List Entry → ℕ
made_count past = sum_by made_by past
