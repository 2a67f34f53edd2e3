use Rattle.std.specs.Prelude.{ℕ, ◌==◌, Bool, true, false, ◌&&◌, ◌||◌, not, List, [], Option, Some, None, nat_lt}
use Rattle.cam_types.specs.Four.{four_list}
use Rattle.cam_types.specs.declared.reply.Made.{Made}
use Rattle.cam_types.specs.declared.reply.Reply.TheVariants.{Configured}
use Rattle.cam_types.specs.declared.script.Command.{Command}
use Rattle.cam_types.specs.declared.script.Script.{Script}
use Rattle.cam_types.specs.declared.script.Word.{Word}
use Rattle.cam_types.specs.declared.stream.StreamSpec.{StreamSpec}
use Rattle.trace_model.specs.declared.entry.Entry.{Entry}
use Rattle.trace_model.specs.declared.entry.Entry.TheVariants.{Begin, Call, Send, Shutter, Early}
use Rattle.cam_types.specs.declared.request.WaitingItem.{WaitingItem}
use Rattle.trace_model.specs.Calls.{command_at}
use Rattle.trace_model.specs.Configuration.{streams_of}
use Rattle.trace_model.specs.Frames.{has_shutter, has_error_request}

-- What one entry says, where a definition of a legal run looks for the last entry that says it. Our own choice.

-- a command begins or is answered
abbrev pub is_begin_or_call : Entry → Bool
is_begin_or_call (Begin _) = true
is_begin_or_call (Call _ _ _) = true
is_begin_or_call _ = false

-- the word of a begin
abbrev pub begun_in : Option Entry → Option Word
begun_in (Some (Begin word)) = Some word
begun_in _ = None

-- the command that a call answers
abbrev pub command_in : Script → Option Entry → Option Command
command_in script (Some (Call i _ _)) = command_at script i
command_in script _ = None

-- the streams that a call configures
abbrev pub streams_in : Script → Option Entry → List StreamSpec
streams_in script (Some (Call i _ _)) = streams_of (command_at script i)
streams_in script _ = []

-- the buffers that a call makes
abbrev pub made_in : Option Entry → List Made
made_in (Some (Call _ _ (Configured each))) = four_list each
made_in _ = []

-- the time of a shutter
abbrev pub time_in : Option Entry → Option ℕ
time_in (Some (Shutter _ time)) = Some time
time_in _ = None

-- the test holds of the frame that the entry sends, if it sends one
abbrev pub at_send : (ℕ → Bool) → Entry → Bool
at_send p (Send n _ _ _ _) = p n.0
at_send p _ = true

-- the entry sends a frame of which the test holds
abbrev pub on_send : (ℕ → Bool) → Entry → Bool
on_send p (Send n _ _ _ _) = p n.0
on_send p _ = false

-- the test holds of the frame that the entry sends, if it sends one under a number smaller than n
abbrev pub at_earlier : ℕ → (ℕ → Bool) → Entry → Bool
at_earlier n p (Send m _ _ _ _) = not (nat_lt m.0 n) || p m.0
at_earlier n p _ = true

-- frame n had its shutter or failed whole
abbrev pub is_exposed : List Entry → ℕ → Bool
is_exposed past n = has_shutter n past || has_error_request n past

-- the entry gives frame n's buffer for stream s back early, with a device fence of which the test holds
abbrev pub on_early : ℕ → ℕ → (ℕ → Bool) → Entry → Bool
on_early n s p (Early m t _ d) = ((m.0 == n) && (t.0 == s)) && p d.0
on_early n s p _ = false

-- the frame of a send
abbrev pub frame_in : Option Entry → Option ℕ
frame_in (Some (Send n _ _ _ _)) = Some n.0
frame_in _ = None

-- the first where there is one, else the other
abbrev pub or_first : Option WaitingItem → Option WaitingItem → Option WaitingItem
or_first (Some w) other = Some w
or_first None other = other
