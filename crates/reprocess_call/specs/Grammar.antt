-- What a text means as a plan of a reprocessing device: a function of the whole text. (docs/FORMATS.md, reprocessing)
use Rattle.std.specs.Prelude.{ℕ, ◌==◌, ◌+◌, Bool, false, ◌&&◌, not, List, [], ◌∷◌, ◌++◌, length, nat_lt, nat_le, Option, Some, None, is_none, is_some, Result, Ok, Err, if◌then◌else◌, codes, bytes_eq}
use Rattle.std.specs.List.{list_all}
use Rattle.cam_types.specs.Metadata.{range_fault}
use Rattle.cam_types.specs.declared.four.Four.{Four}
use Rattle.cam_types.specs.declared.item.Settings.{Settings}
use Rattle.cam_types.specs.declared.stream.Format.TheVariants.{Yuv}
use Rattle.cam_types.specs.declared.stream.StreamSpec.{StreamSpec}
use Rattle.reprocess_model.specs.declared.plan.Plan.{Plan}
use Rattle.reprocess_model.specs.declared.plan.ReCommand.{ReCommand}
use Rattle.reprocess_model.specs.declared.plan.ReCommand.TheVariants.{Request, Flush}
use Rattle.text_parts.specs.declared.cause.Cause.{Cause}
use Rattle.text_parts.specs.declared.cause.Cause.TheVariants.{UnknownWord, Limit}
use Rattle.text_parts.specs.Values.{number, four_numbers}
use Rattle.text_parts.specs.LineWords.{◌>>=◌, ends, one, behind, few, limited, picks_of}
use Rattle.text_parts.specs.declared.cause.TextRefused.{TextRefused}
use Rattle.call_parts.specs.Reading.{Grammar, text_of}
use Rattle.reprocess_call.specs.Begun.{Begun, begun}

-- ---- words

abbrev pub yuv : ℕ → ℕ → StreamSpec
yuv width height = record { input = false; format = Yuv; width = width; height = height }

-- a YUV size that is offered
unfoldable pub size_of : List ℕ → Option StreamSpec
size_of word =
    if bytes_eq word (codes "yuv:160x120") then Some (yuv 160 120)
    else (if bytes_eq word (codes "yuv:80x60") then Some (yuv 80 60)
    else (if bytes_eq word (codes "yuv:40x30") then Some (yuv 40 30)
    else None))

-- a size that is no larger than the input's
abbrev pub no_larger : StreamSpec → Option StreamSpec → Option StreamSpec
no_larger input (Some spec) = if nat_le spec.width input.width then Some spec else None
no_larger input None = None

abbrev pub output_of : StreamSpec → List ℕ → Option StreamSpec
output_of input word = no_larger input (size_of word)

-- settings that are in range
abbrev pub in_range : Option Settings → Option Settings
in_range (Some settings) = if is_none (range_fault settings) then Some settings else None
in_range None = None

abbrev pub request_of : List ℕ → Option Settings
request_of word = in_range (four_numbers word)

-- ---- lines

abbrev pub empty : Begun
empty = begun None (record { a = None; b = None; c = None; d = None }) [] [] []

abbrev pub picks_within : List ℕ → Bool
picks_within picks = few 1024 picks

-- a fault, a pick or a command stands
abbrev pub is_started : Begun → Bool
is_started b = not ((length b.faults == 0) && ((length b.picks == 0) && (length b.commands == 0)))

-- faults and picks come after the outputs and before the commands
abbrev pub may_prepare : Begun → Bool
may_prepare b = is_some b.outputs.a && (length b.commands == 0)

abbrev pub one_more_output : Four StreamSpec → StreamSpec → Option (Four StreamSpec)
one_more_output outputs spec =
    if is_none outputs.a then Some (record outputs { a = Some spec })
    else (if is_none outputs.b then Some (record outputs { b = Some spec })
    else (if is_none outputs.c then Some (record outputs { c = Some spec })
    else None))

abbrev pub with_outputs : Begun → Option (Four StreamSpec) → Result Begun Cause
with_outputs b (Some outputs) = Ok (begun b.input outputs b.faults b.picks b.commands)
with_outputs b None = Err Limit

abbrev pub added_output : Begun → StreamSpec → Result Begun Cause
added_output b spec = with_outputs b (one_more_output b.outputs spec)

abbrev pub added_fault : Begun → ℕ → Result Begun Cause
added_fault b n =
    if nat_lt (length b.faults) 64
    then Ok (begun b.input b.outputs (b.faults ++ record { 0 = n } ∷ []) b.picks b.commands)
    else Err Limit

abbrev pub added_command : Begun → ReCommand → Result Begun Cause
added_command b command =
    if nat_lt (length b.commands) 64
    then Ok (begun b.input b.outputs b.faults b.picks (b.commands ++ command ∷ []))
    else Err Limit

abbrev pub added_picks : Begun → List (List ℕ) → Result Begun Cause
added_picks b words =
    limited picks_within (behind b.picks (picks_of words))
    >>= λ picks. Ok (begun b.input b.outputs b.faults picks b.commands)

-- `input SIZE`, once
abbrev pub input_line : Begun → List (List ℕ) → Result Begun Cause
input_line b words =
    if is_none b.input
    then (one size_of words >>= λ spec. Ok (begun (Some spec) b.outputs b.faults b.picks b.commands))
    else Err UnknownWord

-- `output SIZE`, up to three times
abbrev pub output_with : Begun → Option StreamSpec → List (List ℕ) → Result Begun Cause
output_with b (Some input) words =
    if is_started b then Err UnknownWord else (one (output_of input) words >>= λ spec. added_output b spec)
output_with b None words = Err UnknownWord

-- `fault N`, `pick P P`
abbrev pub fault_line : Begun → List (List ℕ) → Result Begun Cause
fault_line b words = if may_prepare b then (one number words >>= λ n. added_fault b n) else Err UnknownWord

abbrev pub pick_line : Begun → List (List ℕ) → Result Begun Cause
pick_line b words = if may_prepare b then added_picks b words else Err UnknownWord

-- `request PATTERN,LEVEL,EXPOSURE,ISO`, `flush`
abbrev pub request_line : Begun → List (List ℕ) → Result Begun Cause
request_line b words =
    if is_some b.outputs.a then (one request_of words >>= λ s. added_command b (Request s)) else Err UnknownWord

abbrev pub flush_line : Begun → List (List ℕ) → Result Begun Cause
flush_line b words =
    if is_some b.outputs.a then (ends Flush words >>= λ c. added_command b c) else Err UnknownWord

-- a line of what comes after the outputs, by its first word and the words behind it
unfoldable pub later_line : Begun → List ℕ → List (List ℕ) → Result Begun Cause
later_line b word words =
    if bytes_eq word (codes "pick") then pick_line b words
    else (if bytes_eq word (codes "request") then request_line b words
    else (if bytes_eq word (codes "flush") then flush_line b words
    else Err UnknownWord))

-- a line after the version line
unfoldable pub with_line : Begun → List ℕ → List (List ℕ) → Result Begun Cause
with_line b word words =
    if bytes_eq word (codes "input") then input_line b words
    else (if bytes_eq word (codes "output") then output_with b b.input words
    else (if bytes_eq word (codes "fault") then fault_line b words
    else later_line b word words))

-- ---- the text

-- the plan, where the input and an output stand
abbrev pub plan_with : Begun → Option StreamSpec → Option Plan
plan_with b (Some input) =
    if is_some b.outputs.a
    then Some (record { input = input; outputs = b.outputs; faults = b.faults; picks = b.picks; commands = b.commands })
    else None
plan_with b None = None

abbrev pub plan_at : Begun → Option Plan
plan_at b = plan_with b b.input

abbrev pub plan_text : Grammar Begun Plan
plan_text = record { name = codes "reprocess"; begun = empty; with_line = with_line; meant = plan_at }

-- the plan that a text means, or the first line that has a cause, with the first of its causes
abbrev pub plan_of : List ℕ → Result Plan TextRefused
plan_of text = text_of plan_text text
