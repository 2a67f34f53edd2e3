-- The one spelling of a hal log. (docs/FORMATS.md, hal log)
use Rattle.std.specs.Prelude.{ℕ, ◌==◌, Bool, true, List, [], ◌∷◌, ◌++◌, take, map, Option, Some, None, option_to_list, if◌then◌else◌, codes, decimal}
use Rattle.std.specs.Fmt.{digits}
use Rattle.std.specs.List.{flat_map}
use Rattle.hal_model.specs.declared.event.Direction.{Direction}
use Rattle.hal_model.specs.declared.event.Direction.TheVariants.{Output, Input, Bidirectional}
use Rattle.hal_model.specs.declared.event.HalError.{HalError}
use Rattle.hal_model.specs.declared.event.HalError.TheVariants.{NoDevice, Other}
use Rattle.hal_model.specs.declared.event.HalEvent.{HalEvent}
use Rattle.hal_model.specs.declared.event.HalEvent.TheVariants.{OpenBegin, OpenOk, OpenError, InitBegin, InitOk, InitError, TemplateBegin, TemplateOk, TemplateNull, ConfigureBegin, ConfigureOk, ConfigureError, RequestBegin, RequestOk, RequestError, Shutter, ErrorRequest, ErrorResult, ErrorBuffer, ErrorDevice, Results, FlushBegin, FlushOk, FlushError, CloseBegin, CloseEnd}
use Rattle.hal_model.specs.declared.event.HalFence.{HalFence}
use Rattle.hal_model.specs.declared.event.HalFence.TheVariants as fence
use Rattle.hal_model.specs.declared.event.HalFormat.{HalFormat}
use Rattle.hal_model.specs.declared.event.HalFormat.TheVariants as format
use Rattle.hal_model.specs.declared.event.HalStream.{HalStream}
use Rattle.hal_model.specs.declared.event.HalTarget.{HalTarget}
use Rattle.hal_model.specs.declared.event.Pack.{Pack}
use Rattle.hal_model.specs.declared.event.Pack.TheVariants as pack
use Rattle.hal_model.specs.declared.event.Returned.{Returned}
use Rattle.hal_model.specs.declared.event.Status.{Status}
use Rattle.hal_model.specs.declared.event.Status.TheVariants.{Filled, Failed, Unknown}
use Rattle.hal_model.specs.declared.event.StreamMax.{StreamMax}
use Rattle.text_parts.specs.Lines.{line_text}

-- ---- words. 58 is `:`, 98 is `b`, 120 is `x`

-- a number, or what stands in the place of none
abbrev pub number_or : List ℕ → Option ℕ → List ℕ
number_or sign None = sign
number_or sign (Some n) = decimal n

abbrev pub error_text : HalError → List ℕ
error_text NoDevice = codes "ENODEV"
error_text (Other name) = take name.count name.letters

-- `H` (72) and hexadecimal digits, in capital letters, for a format without a name
abbrev pub format_text : HalFormat → List ℕ
format_text format.Yuv = codes "YUV"
format_text format.Implementation = codes "IMPL"
format_text format.Blob = codes "BLOB"
format_text format.Raw16 = codes "RAW16"
format_text (format.Number n) = 72 ∷ digits 16 true n

-- a stream that isn't rotated names no rotation: 114 is `r`
abbrev pub rotation_text : ℕ → List ℕ
rotation_text degrees = if degrees == 0 then [] else 58 ∷ 114 ∷ decimal degrees

abbrev pub direction_text : Direction → List ℕ
direction_text Output = []
direction_text Input = codes ":in"
direction_text Bidirectional = codes ":bidi"

abbrev pub size_text : HalStream → List ℕ
size_text s = format_text s.format ++ 120 ∷ (decimal s.width ++ 120 ∷ decimal s.height)

-- `S:FORMATxWxH[:rD][:in|:bidi]`
unfoldable pub stream_text : HalStream → List ℕ
stream_text s = decimal s.stream ++ 58 ∷ (size_text s ++ (rotation_text s.rotation ++ direction_text s.direction))

-- `S:MAX`
abbrev pub max_text : StreamMax → List ℕ
max_text m = decimal m.stream ++ 58 ∷ decimal m.max

-- `S:bB:F`
abbrev pub target_text : HalTarget → List ℕ
target_text t = decimal t.stream ++ 58 ∷ 98 ∷ (decimal t.buffer ++ 58 ∷ number_or (codes "-") t.fence)

abbrev pub status_text : Status → List ℕ
status_text Filled = codes "ok"
status_text Failed = codes "error"
status_text Unknown = codes "?"

abbrev pub release_text : HalFence → List ℕ
release_text fence.Absent = codes "-"
release_text (fence.Number n) = decimal n
release_text fence.Foreign = codes "?"

abbrev pub acquire_text : Bool → List ℕ
acquire_text acquire = if acquire then codes ":acquire" else []

-- `S:bB:STATUS:F[:acquire]`
unfoldable pub returned_text : Returned → List ℕ
returned_text r =
    number_or (codes "?") r.stream
    ++ 58 ∷ 98 ∷ (number_or (codes "?") r.buffer
    ++ 58 ∷ (status_text r.status ++ 58 ∷ (release_text r.release ++ acquire_text r.acquire)))

abbrev pub pack_text : Pack → List ℕ
pack_text pack.Entries = codes "metadata"
pack_text pack.Empty = codes "empty"
pack_text pack.Absent = codes "none"

-- ---- the words of a line

-- words, each behind a space (32)
abbrev pub behind_spaces : List (List ℕ) → List ℕ
behind_spaces words = flat_map (λ word. 32 ∷ word) words

-- a word that stands or doesn't
abbrev pub mark_words : Bool → List ℕ → List (List ℕ)
mark_words stands word = if stands then word ∷ [] else []

abbrev pub ok_words : List (List ℕ)
ok_words = codes "end" ∷ codes "ok" ∷ []

abbrev pub error_words : HalError → List (List ℕ)
error_words error = codes "end" ∷ codes "error" ∷ error_text error ∷ []

-- `mode:M`
abbrev pub mode_words : Option ℕ → List (List ℕ)
mode_words mode = map (λ m. codes "mode:" ++ decimal m) (option_to_list mode)

abbrev pub settings_text : Bool → List ℕ
settings_text same = if same then codes "same" else codes "settings"

abbrev pub event_words : HalEvent → List (List ℕ)
event_words OpenBegin = codes "open" ∷ codes "begin" ∷ []
event_words OpenOk = codes "open" ∷ ok_words
event_words (OpenError error) = codes "open" ∷ error_words error
event_words InitBegin = codes "init" ∷ codes "begin" ∷ []
event_words InitOk = codes "init" ∷ ok_words
event_words (InitError error) = codes "init" ∷ error_words error
event_words (TemplateBegin t) = codes "template" ∷ decimal t ∷ codes "begin" ∷ []
event_words (TemplateOk t) = codes "template" ∷ decimal t ∷ ok_words
event_words (TemplateNull t) = codes "template" ∷ decimal t ∷ codes "end" ∷ codes "null" ∷ []
event_words (ConfigureBegin mode streams) =
    codes "configure" ∷ codes "begin" ∷ (mode_words mode ++ map stream_text streams)
event_words (ConfigureOk most) = codes "configure" ∷ codes "end" ∷ codes "ok" ∷ map max_text most
event_words (ConfigureError error) = codes "configure" ∷ error_words error
event_words (RequestBegin n same targets no_handle bad_settings) =
    codes "request" ∷ decimal n ∷ codes "begin" ∷ settings_text same
    ∷ (map target_text targets
    ++ (mark_words no_handle (codes "nohandle") ++ mark_words bad_settings (codes "badsettings")))
event_words (RequestOk n) = codes "request" ∷ decimal n ∷ ok_words
event_words (RequestError n error) = codes "request" ∷ decimal n ∷ error_words error
event_words (Shutter n time) = codes "shutter" ∷ decimal n ∷ decimal time ∷ []
event_words (ErrorRequest n) = codes "error" ∷ decimal n ∷ codes "request" ∷ []
event_words (ErrorResult n) = codes "error" ∷ decimal n ∷ codes "result" ∷ []
event_words (ErrorBuffer n s) = codes "error" ∷ decimal n ∷ (codes "buffer:" ++ number_or (codes "?") s) ∷ []
event_words ErrorDevice = codes "error" ∷ codes "device" ∷ []
event_words (Results n k content buffers input) =
    codes "result" ∷ decimal n ∷ codes "partial" ∷ decimal k ∷ pack_text content
    ∷ (map returned_text buffers ++ mark_words input (codes "input"))
event_words FlushBegin = codes "flush" ∷ codes "begin" ∷ []
event_words FlushOk = codes "flush" ∷ ok_words
event_words (FlushError error) = codes "flush" ∷ error_words error
event_words CloseBegin = codes "close" ∷ codes "begin" ∷ []
event_words CloseEnd = codes "close" ∷ codes "end" ∷ []

-- ---- the text

abbrev pub event_line : HalEvent → List ℕ
event_line event = line_text (event_words event)

-- `hal 1 K`
abbrev pub first_words : ℕ → List (List ℕ)
first_words parts = codes "hal" ∷ codes "1" ∷ decimal parts ∷ []

-- the first line, and a line for each event
unfoldable pub text_of : ℕ → List HalEvent → List ℕ
text_of parts events = line_text (first_words parts) ++ flat_map event_line events
