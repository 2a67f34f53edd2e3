use Rattle.std.specs.Prelude.{ℕ, ◌==◌, ◌^◌, Bool, true, false, ◌&&◌, ◌||◌, not, List, Option, Some, None, nat_lt, length, is_some}
use Rattle.std.specs.List.{list_all}
use Rattle.cam_types.specs.Four.{four_list}
use Rattle.cam_types.specs.declared.four.Four.{Four}
use Rattle.cam_types.specs.declared.number.FenceNo.{FenceNo}
use Rattle.cam_types.specs.declared.partial_result.PartialResult.{PartialResult}
use Rattle.cam_types.specs.declared.partial_result.PartialResult.TheVariants.{Look, Light, Time}
use Rattle.cam_types.specs.declared.reply.Made.{Made}
use Rattle.cam_types.specs.declared.reply.Reply.{Reply}
use Rattle.cam_types.specs.declared.reply.Reply.TheVariants.{Ok, Submitted, Configured, Refused}
use Rattle.cam_types.specs.declared.script.Word.{Word}
use Rattle.cam_types.specs.declared.script.Word.TheVariants.{Configure, Once, Burst, Repeat, Stop}
use Rattle.trace_model.specs.declared.entry.Entry.{Entry}
use Rattle.trace_model.specs.declared.entry.Entry.TheVariants.{Begin, Call, Send, Dropped, Shutter, Partial, Filled, Failed, ErrorRequest, ErrorResult, ErrorBuffer, ErrorDevice, Release, Signal, Early, Late}
use Rattle.trace_model.specs.declared.entry.Sent.{Sent}

-- The entry has a line in the trace's text: its numbers fit their fields, and its parts go together. (docs/FORMATS.md)

abbrev pub is_small : ℕ → Bool
is_small n = nat_lt n (2 ^ 32)

abbrev pub is_byte : ℕ → Bool
is_byte n = nat_lt n (2 ^ 8)

abbrev pub fence_fits : Option FenceNo → Bool
fence_fits (Some f) = is_small f.0
fence_fits None = true

abbrev pub number_fits : Option ℕ → Bool
number_fits (Some n) = is_small n
number_fits None = true

-- the four places are filled from the first on
abbrev pub is_filled : {T : Type 0} → Four T → Bool
is_filled f =
    (is_some f.a || not (is_some f.b)) && ((is_some f.b || not (is_some f.c)) && (is_some f.c || not (is_some f.d)))

abbrev pub sent_fits : Sent → Bool
sent_fits t = is_byte t.stream.0 && (is_small t.buffer.0 && fence_fits t.fence)

abbrev pub made_fits : Made → Bool
made_fits m = is_small m.first.0 && is_small m.count

abbrev pub is_waiting_word : Word → Bool
is_waiting_word Once = false
is_waiting_word Burst = false
is_waiting_word Repeat = false
is_waiting_word Stop = false
is_waiting_word _ = true

abbrev pub is_submitting_word : Word → Bool
is_submitting_word Once = true
is_submitting_word Burst = true
is_submitting_word Repeat = true
is_submitting_word _ = false

abbrev pub is_configure_word : Word → Bool
is_configure_word Configure = true
is_configure_word _ = false

-- a reply that a command with the word can have
abbrev pub reply_fits : Word → Reply → Bool
reply_fits word Ok = not (is_submitting_word word) && not (is_configure_word word)
reply_fits word (Submitted r) = is_submitting_word word && is_small r.0
reply_fits word (Configured made) = is_configure_word word && (is_filled made && list_all made_fits (four_list made))
reply_fits word (Refused code first second) =
    is_byte code && ((number_fits first && number_fits second) && (is_some first || not (is_some second)))

-- the part has a packed form, and is the one with the number
abbrev pub part_fits : ℕ → PartialResult → Bool
part_fits k (Look pattern level) = (k == 1) && (is_byte pattern && nat_lt level (2 ^ 31))
part_fits k (Light exposure iso) = (k == 2) && (nat_lt exposure (2 ^ 63) && nat_lt iso (2 ^ 31))
part_fits k (Time timestamp) = (k == 3) && nat_lt timestamp (2 ^ 63)

abbrev pub is_digest : List ℕ → Bool
is_digest bytes = (length bytes == 32) && list_all is_byte bytes

abbrev pub is_printable : Entry → Bool
is_printable (Begin word) = is_waiting_word word
is_printable (Call index word reply) = is_small index && reply_fits word reply
is_printable (Send n r i same targets) =
    (is_small n.0 && (is_small r.0 && is_small i)) && (is_filled targets && list_all sent_fits (four_list targets))
is_printable (Dropped n r i) = is_small n.0 && (is_small r.0 && is_small i)
is_printable (Shutter n time) = is_small n.0 && nat_lt time (2 ^ 64)
is_printable (Partial n k part) = is_small n.0 && part_fits k part
is_printable (Filled n s b f digest) =
    (is_small n.0 && (is_byte s.0 && is_small b.0)) && (not (is_some f) && is_digest digest)
is_printable (Failed n s b f) = (is_small n.0 && (is_byte s.0 && is_small b.0)) && fence_fits f
is_printable (ErrorRequest n) = is_small n.0
is_printable (ErrorResult n) = is_small n.0
is_printable (ErrorBuffer n s) = is_small n.0 && is_byte s.0
is_printable ErrorDevice = true
is_printable (Release b f) = is_small b.0 && is_small f.0
is_printable (Signal f) = is_small f.0
is_printable (Early n s b f) = (is_small n.0 && (is_byte s.0 && is_small b.0)) && is_small f.0
is_printable (Late f digest) = is_small f.0 && is_digest digest
