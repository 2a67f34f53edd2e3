-- What a line means as an event, by its words. (docs/FORMATS.md, hal log)
use Rattle.std.specs.Prelude.{ℕ, Bool, true, false, ◌&&◌, ◌||◌, List, [], ◌∷◌, length, nat_lt, Option, Some, None, Result, Ok, Err, if◌then◌else◌, codes, bytes_eq}
use Rattle.hal_model.specs.declared.event.HalEvent.{HalEvent}
use Rattle.hal_model.specs.declared.event.HalEvent.TheVariants.{OpenBegin, OpenOk, OpenError, InitBegin, InitOk, InitError, TemplateBegin, TemplateOk, TemplateNull, ConfigureBegin, ConfigureOk, ConfigureError, RequestBegin, RequestOk, RequestError, Shutter, ErrorRequest, ErrorResult, ErrorBuffer, ErrorDevice, Results, FlushBegin, FlushOk, FlushError, CloseBegin, CloseEnd}
use Rattle.hal_model.specs.Fits.{part_limit}
use Rattle.hal_lines.specs.declared.cause.Cause.{Cause}
use Rattle.hal_lines.specs.declared.cause.Cause.TheVariants.{BadLine}
use Rattle.hal_lines.specs.declared.kind.Kind.{Kind}
use Rattle.hal_lines.specs.declared.kind.Kind.TheVariants as kind
use Rattle.hal_lines.specs.declared.kind.TemplateStage.{TemplateStage}
use Rattle.hal_lines.specs.declared.kind.TemplateStage.TheVariants as stage
use Rattle.hal_lines.specs.declared.kind.Ending.{Ending}
use Rattle.hal_lines.specs.declared.kind.Ending.TheVariants as ending
use Rattle.hal_lines.specs.Values.{◌>>=◌, both, small, large, count, error_of, pack_of, settings_of, stream_of, max_of, target_of, returned_of, mode_of, buffer_of}

-- ---- so many words

-- no more words
abbrev pub nothing : {A : Type 0} → A → List (List ℕ) → Result A Cause
nothing x [] = Ok x
nothing x _ = Err BadLine

-- the words that may stand behind those of a list, and are none of it
abbrev pub is_mark : List ℕ → Bool
is_mark word =
    bytes_eq word (codes "nohandle") || (bytes_eq word (codes "badsettings") || bytes_eq word (codes "input"))

-- the words of a list, and the words from the first mark on
abbrev pub before_marks : List (List ℕ) → List (List ℕ)
before_marks [] = []
before_marks (word ∷ words) = if is_mark word then [] else word ∷ before_marks words

abbrev pub from_marks : List (List ℕ) → List (List ℕ)
from_marks [] = []
from_marks (word ∷ words) = if is_mark word then word ∷ words else from_marks words

-- a value for each word
abbrev pub each : {A : Type 0} → (List ℕ → Result A Cause) → List (List ℕ) → Result (List A) Cause
each read [] = Ok []
each read (word ∷ words) = both (read word) (each read words) >>= λ p. Ok (p.0 ∷ p.1)

-- whether each word has a value, or the first of their causes
abbrev pub are_read : {A : Type 0} → Result A Cause → Result (Unit {0}) Cause
are_read (Ok x) = Ok tt
are_read (Err cause) = Err cause

-- a list has 16 words at most
abbrev pub list_of : {A : Type 0} → (List ℕ → Result A Cause) → List (List ℕ) → Result (List A) Cause
list_of read words =
    if nat_lt part_limit (length (before_marks words)) then Err BadLine else each read (before_marks words)

-- ---- calls

-- `ok` or `error E`, behind `end`
unfoldable pub ending_of : List (List ℕ) → Result Ending Cause
ending_of (how ∷ []) = if bytes_eq how (codes "ok") then Ok ending.Ok else Err BadLine
ending_of (how ∷ name ∷ []) =
    if bytes_eq how (codes "error") then (error_of name >>= λ e. Ok (ending.Error e)) else Err BadLine
ending_of _ = Err BadLine

-- the stage of a call that has but a begin and an end: none for the begin
unfoldable pub stage_of : List (List ℕ) → Result (Option Ending) Cause
stage_of [] = Err BadLine
stage_of (word ∷ words) =
    if bytes_eq word (codes "begin") then nothing None words
    else (if bytes_eq word (codes "end") then (ending_of words >>= λ e. Ok (Some e))
    else Err BadLine)

abbrev pub open_event : Option Ending → HalEvent
open_event None = OpenBegin
open_event (Some ending.Ok) = OpenOk
open_event (Some (ending.Error error)) = OpenError error

abbrev pub init_event : Option Ending → HalEvent
init_event None = InitBegin
init_event (Some ending.Ok) = InitOk
init_event (Some (ending.Error error)) = InitError error

abbrev pub flush_event : Option Ending → HalEvent
flush_event None = FlushBegin
flush_event (Some ending.Ok) = FlushOk
flush_event (Some (ending.Error error)) = FlushError error

abbrev pub open_of : List (List ℕ) → Result HalEvent Cause
open_of words = stage_of words >>= λ s. Ok (open_event s)

abbrev pub init_of : List (List ℕ) → Result HalEvent Cause
init_of words = stage_of words >>= λ s. Ok (init_event s)

abbrev pub flush_of : List (List ℕ) → Result HalEvent Cause
flush_of words = stage_of words >>= λ s. Ok (flush_event s)

-- `begin` or `end`
unfoldable pub close_of : List (List ℕ) → Result HalEvent Cause
close_of (word ∷ []) =
    if bytes_eq word (codes "begin") then Ok CloseBegin
    else (if bytes_eq word (codes "end") then Ok CloseEnd
    else Err BadLine)
close_of _ = Err BadLine

-- `ok` or `null`, behind `end`
abbrev pub template_end : List (List ℕ) → Result TemplateStage Cause
template_end (how ∷ []) =
    if bytes_eq how (codes "ok") then Ok stage.Ok
    else (if bytes_eq how (codes "null") then Ok stage.Null
    else Err BadLine)
template_end _ = Err BadLine

unfoldable pub template_stage : List ℕ → List (List ℕ) → Result TemplateStage Cause
template_stage word words =
    if bytes_eq word (codes "begin") then nothing stage.Begin words
    else (if bytes_eq word (codes "end") then template_end words
    else Err BadLine)

abbrev pub template_event : ℕ → TemplateStage → HalEvent
template_event t stage.Begin = TemplateBegin t
template_event t stage.Ok = TemplateOk t
template_event t stage.Null = TemplateNull t

-- `T begin`, `T end ok` or `T end null`
abbrev pub template_of : List (List ℕ) → Result HalEvent Cause
template_of (t ∷ word ∷ words) =
    both (small t) (template_stage word words) >>= λ p. Ok (template_event p.0 p.1)
template_of _ = Err BadLine

-- the streams of a configuration, and its mode
abbrev pub streams_of : Result (Option ℕ) Cause → List (List ℕ) → Result HalEvent Cause
streams_of mode words =
    both mode (both (list_of stream_of words) (nothing (tt {0}) (from_marks words)))
    >>= λ p. Ok (ConfigureBegin p.0 p.1.0)

-- by the first word, where it is a mode
abbrev pub mode_then : Option (List ℕ) → List ℕ → List (List ℕ) → Result HalEvent Cause
mode_then None word words = streams_of (Ok None) (word ∷ words)
mode_then (Some number) word words = streams_of (small number >>= λ m. Ok (Some m)) words

-- `[mode:M] [STREAM ..]`
unfoldable pub asked_streams : List (List ℕ) → Result HalEvent Cause
asked_streams [] = Ok (ConfigureBegin None [])
asked_streams (word ∷ words) = mode_then (mode_of word) word words

-- `S:MAX ..`
abbrev pub given_streams : List (List ℕ) → Result HalEvent Cause
given_streams words =
    both (list_of max_of words) (nothing (tt {0}) (from_marks words)) >>= λ p. Ok (ConfigureOk p.0)

abbrev pub configure_error : Ending → Result HalEvent Cause
configure_error ending.Ok = Err BadLine
configure_error (ending.Error error) = Ok (ConfigureError error)

unfoldable pub configure_end : List (List ℕ) → Result HalEvent Cause
configure_end [] = Err BadLine
configure_end (how ∷ words) =
    if bytes_eq how (codes "ok") then given_streams words
    else (ending_of (how ∷ words) >>= configure_error)

unfoldable pub configure_of : List (List ℕ) → Result HalEvent Cause
configure_of [] = Err BadLine
configure_of (word ∷ words) =
    if bytes_eq word (codes "begin") then asked_streams words
    else (if bytes_eq word (codes "end") then configure_end words
    else Err BadLine)

abbrev pub one_flaw : List ℕ → Result (Bool × Bool) Cause
one_flaw word =
    if bytes_eq word (codes "nohandle") then Ok (true, false)
    else (if bytes_eq word (codes "badsettings") then Ok (false, true)
    else Err BadLine)

-- `[nohandle] [badsettings]`
unfoldable pub flaws_of : List (List ℕ) → Result (Bool × Bool) Cause
flaws_of [] = Ok (false, false)
flaws_of (word ∷ []) = one_flaw word
flaws_of (first ∷ second ∷ []) =
    if bytes_eq first (codes "nohandle") && bytes_eq second (codes "badsettings") then Ok (true, true) else Err BadLine
flaws_of _ = Err BadLine

-- `settings|same [TARGET ..] [nohandle] [badsettings]`, of request n
abbrev pub asked_of : Result ℕ Cause → List (List ℕ) → Result HalEvent Cause
asked_of n [] = Err BadLine
asked_of n (settings ∷ words) =
    both n (both (settings_of settings) (both (list_of target_of words) (flaws_of (from_marks words))))
    >>= λ p. Ok (RequestBegin p.0 p.1.0 p.1.1.0 p.1.1.1.0 p.1.1.1.1)

abbrev pub request_end : ℕ → Ending → HalEvent
request_end n ending.Ok = RequestOk n
request_end n (ending.Error error) = RequestError n error

-- `ok` or `error E`, of request n
abbrev pub ended_of : Result ℕ Cause → List (List ℕ) → Result HalEvent Cause
ended_of n words = both n (ending_of words) >>= λ p. Ok (request_end p.0 p.1)

unfoldable pub request_of : List (List ℕ) → Result HalEvent Cause
request_of (n ∷ word ∷ words) =
    if bytes_eq word (codes "begin") then asked_of (small n) words
    else (if bytes_eq word (codes "end") then ended_of (small n) words
    else Err BadLine)
request_of _ = Err BadLine

-- ---- callbacks

-- `N T`
abbrev pub shutter_of : List (List ℕ) → Result HalEvent Cause
shutter_of (n ∷ t ∷ []) = both (small n) (large t) >>= λ p. Ok (Shutter p.0 p.1)
shutter_of _ = Err BadLine

-- `N request`, `N result` or `N buffer:S`
abbrev pub notice_in : List ℕ → List ℕ → Result HalEvent Cause
notice_in n what =
    if bytes_eq what (codes "request") then (small n >>= λ m. Ok (ErrorRequest m))
    else (if bytes_eq what (codes "result") then (small n >>= λ m. Ok (ErrorResult m))
    else (both (small n) (buffer_of what) >>= λ p. Ok (ErrorBuffer p.0 p.1)))

-- one of these, or `device`
unfoldable pub notice_of : List (List ℕ) → Result HalEvent Cause
notice_of (word ∷ []) = if bytes_eq word (codes "device") then Ok ErrorDevice else Err BadLine
notice_of (n ∷ what ∷ []) = notice_in n what
notice_of _ = Err BadLine

-- `[input]`
abbrev pub input_of : List (List ℕ) → Result Bool Cause
input_of [] = Ok false
input_of (word ∷ []) = if bytes_eq word (codes "input") then Ok true else Err BadLine
input_of _ = Err BadLine

-- `metadata|empty|none [RETURNED ..] [input]`, of a frame and the number of a part
abbrev pub result_with : Result (ℕ × ℕ) Cause → List ℕ → List (List ℕ) → Result HalEvent Cause
result_with numbers content words =
    both numbers (both (pack_of content) (both (list_of returned_of words) (input_of (from_marks words))))
    >>= λ p. Ok (Results p.0.0 p.0.1 p.1.0 p.1.1.0 p.1.1.1)

-- `N partial K ..`
unfoldable pub result_of : List (List ℕ) → Result HalEvent Cause
result_of (n ∷ partial ∷ k ∷ content ∷ words) =
    if bytes_eq partial (codes "partial") then result_with (both (small n) (small k)) content words else Err BadLine
result_of _ = Err BadLine

-- ---- a line

-- the kind of a line, by its first word
unfoldable pub kind_of : List ℕ → Option Kind
kind_of word =
    if bytes_eq word (codes "open") then Some kind.Open
    else (if bytes_eq word (codes "init") then Some kind.Init
    else (if bytes_eq word (codes "template") then Some kind.Template
    else (if bytes_eq word (codes "configure") then Some kind.Configure
    else (if bytes_eq word (codes "request") then Some kind.Request
    else (if bytes_eq word (codes "shutter") then Some kind.Shutter
    else (if bytes_eq word (codes "error") then Some kind.Error
    else (if bytes_eq word (codes "result") then Some kind.Result
    else (if bytes_eq word (codes "flush") then Some kind.Flush
    else (if bytes_eq word (codes "close") then Some kind.Close
    else None)))))))))

-- a line by its kind and the words behind the first
unfoldable pub event_in : Kind → List (List ℕ) → Result HalEvent Cause
event_in kind.Open words = open_of words
event_in kind.Init words = init_of words
event_in kind.Template words = template_of words
event_in kind.Configure words = configure_of words
event_in kind.Request words = request_of words
event_in kind.Shutter words = shutter_of words
event_in kind.Error words = notice_of words
event_in kind.Result words = result_of words
event_in kind.Flush words = flush_of words
event_in kind.Close words = close_of words

abbrev pub event_by : Option Kind → List (List ℕ) → Result HalEvent Cause
event_by None words = Err BadLine
event_by (Some k) words = event_in k words

-- an event by the first word of its line and the words behind it
unfoldable pub event_of : List ℕ → List (List ℕ) → Result HalEvent Cause
event_of word words = event_by (kind_of word) words

-- `hal 1 K`
unfoldable pub count_of : List (List ℕ) → Result ℕ Cause
count_of (word ∷ version ∷ k ∷ []) =
    if bytes_eq word (codes "hal") && bytes_eq version (codes "1") then count k else Err BadLine
count_of _ = Err BadLine

-- the event that words mean
abbrev pub event_by_words : List (List ℕ) → Result HalEvent Cause
event_by_words [] = Err BadLine
event_by_words (word ∷ words) = event_of word words
