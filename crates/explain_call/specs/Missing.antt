-- What a legal run lacks for being complete, in words: all of it. (our own choice; docs/FORMATS.md, What explain writes)
use Rattle.std.specs.Prelude.{ℕ, ◌+◌, Bool, true, false, not, List, [], ◌∷◌, ◌++◌, Some, nat_le, reverse, codes, decimal, if◌then◌else◌}
use Rattle.std.specs.List.{flat_map}
use Rattle.cam_types.specs.Four.{four_list}
use Rattle.cam_types.specs.declared.four.Four.{Four}
use Rattle.cam_types.specs.declared.reply.Made.{Made}
use Rattle.cam_types.specs.declared.request.WaitingItem.{WaitingItem}
use Rattle.cam_types.specs.declared.script.Command.{Command}
use Rattle.cam_types.specs.declared.script.Script.{Script}
use Rattle.text_parts.specs.CommandWords.{word_text}
use Rattle.call_parts.specs.Lines.{verdict_text}
use Rattle.trace_model.specs.declared.verdict.MissingPart.{MissingPart}
use Rattle.trace_model.specs.declared.verdict.Verdict.TheVariants.{Incomplete}
use Rattle.trace_model.specs.declared.entry.Entry.{Entry}
use Rattle.trace_model.specs.declared.entry.Entry.TheVariants.{Release, Send}
use Rattle.trace_model.specs.declared.entry.Sent.{Sent}
use Rattle.trace_model.specs.Calls.{word_of}
use Rattle.trace_model.specs.Configuration.{made, numbers_of}
use Rattle.trace_model.specs.Fence.{is_signalled}
use Rattle.trace_model.specs.Numbers.{call_count}
use Rattle.trace_model.specs.Open.{is_metadata_ended, is_open, is_returned, is_settled}
use Rattle.trace_model.specs.Place.{Device, Pool, is_at, place}
use Rattle.trace_model.specs.Queue.{queued}
use Rattle.trace_text.specs.Spelling.{buffer_text, item_text}
use Rattle.wrong_words.specs.Lines.{headed, lines_where, shown_line}

-- ---- commands that have no call

-- the command's word
unfoldable pub name_of : Command → List ℕ
name_of c = word_text (word_of c)

-- `    command I W`
abbrev pub place_text : ℕ → List ℕ
place_text i = codes "    command " ++ (decimal i ++ 32 ∷ [])

abbrev pub name_text : Command → List ℕ
name_text c = name_of c ++ 10 ∷ []

abbrev pub command_line : ℕ → Command → List ℕ
command_line i c = place_text i ++ name_text c

-- those from the place on, where the first has place i
abbrev pub command_lines : ℕ → ℕ → List Command → List ℕ
command_lines from i [] = []
command_lines from i (c ∷ commands) =
    if nat_le from i then command_line i c ++ command_lines from (i + 1) commands
    else command_lines from (i + 1) commands

abbrev pub uncalled : Script → List Entry → List ℕ
uncalled script past = command_lines (call_count past) 0 script.commands

-- ---- open frames

-- the frame lacks metadata: its last part, or the error that names it missing
unfoldable pub metadata_lack : ℕ → List Entry → List ℕ
metadata_lack n past = if is_metadata_ended n past then [] else codes "        lacks metadata\n"

-- where the buffer came back early its picture is lacking, else the buffer
abbrev pub what_lacks : Bool → List ℕ
what_lacks true = codes "        lacks the picture of stream "
what_lacks false = codes "        lacks the buffer of stream "

-- the device isn't done with the frame's buffer of a target
unfoldable pub buffer_lack : ℕ → List Entry → Sent → List ℕ
buffer_lack n past t =
    if is_settled n t.stream.0 past then []
    else what_lacks (is_returned n t.stream.0 past) ++ (decimal t.stream.0 ++ 10 ∷ [])

unfoldable pub is_open_in : List Entry → ℕ → Bool
is_open_in past n = is_open n past

-- of an open frame: its send, whose line has number k, and what it lacks
unfoldable pub open_frame : List Entry → ℕ → Entry → ℕ → Four Sent → List ℕ
open_frame past k e n targets =
    if is_open_in past n
    then shown_line k e ++ (metadata_lack n past ++ flat_map (buffer_lack n past) (four_list targets)) else []

abbrev pub open_line : List Entry → ℕ → Entry → List ℕ
open_line past k (Send n r i same targets) = open_frame past k (Send n r i same targets) n.0 targets
open_line past k _ = []

-- the open frames in the order of their sends, where line k is that of the first entry
abbrev pub open_lines : List Entry → ℕ → List Entry → List ℕ
open_lines past k [] = []
open_lines past k (e ∷ entries) = open_line past k e ++ open_lines past (k + 1) entries

-- ---- queued items

-- `    item rR.I`
abbrev pub item_line : ℕ → ℕ → List ℕ
item_line r i = codes "    item " ++ (item_text r i ++ 10 ∷ [])

abbrev pub waiting_line : WaitingItem → List ℕ
waiting_line w = item_line w.request.0 w.index

abbrev pub waiting_lines : Script → List Entry → List ℕ
waiting_lines script past = flat_map waiting_line (queued script past)

-- ---- buffers

abbrev pub where_text : Bool → List ℕ
where_text true = codes " at the device\n"
where_text false = codes " at the client\n"

-- `    buffer bB at the device`, or client, of one that isn't in the pool
unfoldable pub buffer_line : List Entry → ℕ → List ℕ
buffer_line past b =
    if is_at (place b past) Pool then []
    else codes "    buffer " ++ (buffer_text b ++ where_text (is_at (place b past) Device))

abbrev pub made_lines : List Entry → Made → List ℕ
made_lines past m = flat_map (buffer_line past) (numbers_of (Some m))

abbrev pub buffer_lines : List Entry → List ℕ
buffer_lines past = flat_map (made_lines past) (made past)

-- ---- fences

-- the entry releases a fence that isn't signalled
abbrev pub is_unsignalled : List Entry → Entry → Bool
is_unsignalled past (Release _ f) = not (is_signalled f.0 past)
is_unsignalled past _ = false

-- ---- all of it

-- each part behind its heading, where there is any
unfoldable pub uncalled_part : Script → List Entry → List ℕ
uncalled_part script past = headed (codes "Commands without a call:\n") (uncalled script past)

unfoldable pub open_part : ℕ → List Entry → List ℕ
open_part k trace = headed (codes "Open frames, each with what it lacks:\n") (open_lines (reverse trace) k trace)

unfoldable pub waiting_part : Script → List Entry → List ℕ
waiting_part script past = headed (codes "Items in the queue:\n") (waiting_lines script past)

unfoldable pub buffer_part : List Entry → List ℕ
buffer_part past = headed (codes "Buffers that aren't in the pool:\n") (buffer_lines past)

unfoldable pub fence_part : ℕ → List Entry → List ℕ
fence_part k trace = headed (codes "Fences that aren't signalled:\n") (lines_where (is_unsignalled (reverse trace)) k trace)

-- of a script and a trace, the first entry first, whose line has number k
unfoldable pub missing_text : Script → ℕ → List Entry → List ℕ
missing_text script k trace =
    uncalled_part script (reverse trace)
    ++ (open_part k trace
    ++ (waiting_part script (reverse trace) ++ (buffer_part (reverse trace) ++ fence_part k trace)))

-- `incomplete PART`, the first part that is missing, and all that is
unfoldable pub incomplete_text : Script → ℕ → List Entry → MissingPart → List ℕ
incomplete_text script k trace part = verdict_text (Incomplete part) ++ missing_text script k trace
