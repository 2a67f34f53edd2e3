-- What a line means as an entry. (docs/FORMATS.md, trace text)
use Rattle.std.specs.Prelude.{ℕ, ◌==◌, ◌+◌, Bool, ◌&&◌, not, List, [], ◌∷◌, length, nat_lt, Option, Some, None, Result, Ok, Err, if◌then◌else◌, codes, bytes_eq}
use Rattle.std.specs.List.{list_all}
use Rattle.cam_types.specs.declared.four.Four.{Four}
use Rattle.cam_types.specs.declared.number.FenceNo.{FenceNo}
use Rattle.cam_types.specs.declared.number.FrameNo.{FrameNo}
use Rattle.cam_types.specs.declared.partial_result.PartialResult.{PartialResult}
use Rattle.cam_types.specs.declared.profile.Profile.{Profile}
use Rattle.cam_types.specs.declared.reply.Reply.{Reply}
use Rattle.cam_types.specs.declared.reply.Reply.TheVariants as reply
use Rattle.cam_types.specs.declared.script.Word.{Word}
use Rattle.metadata.specs.Parts.{part_in}
use Rattle.metadata.specs.Reading.{list_of}
use Rattle.metadata.specs.declared.entry.Entry.{Entry as MetaEntry}
use Rattle.metadata.specs.declared.refused.PackedRefused.{PackedRefused}
use Rattle.trace_model.specs.Printable.{is_waiting_word, is_configure_word, is_submitting_word}
use Rattle.cam_types.specs.Four.{four_of}
use Rattle.trace_model.specs.declared.entry.Entry.{Entry}
use Rattle.trace_model.specs.declared.entry.Entry.TheVariants.{Begin, Call, Send, Dropped, Shutter, Partial, Filled, Failed, ErrorRequest, ErrorResult, ErrorBuffer, ErrorDevice, Release, Signal, Early, Late}
use Rattle.trace_reader.specs.declared.cause.Cause.{Cause}
use Rattle.trace_reader.specs.declared.cause.Cause.TheVariants.{BadLine, BadMetadata}
use Rattle.trace_reader.specs.declared.line.Kind.{Kind}
use Rattle.trace_reader.specs.declared.line.Kind.TheVariants as kind
use Rattle.trace_reader.specs.Values.{◌>>=◌, both, byte, small, large, profile_number, buffer, fence_number, device_fence, request, fence, item, sent, made, mark, part_number, hex_bytes, digest}
use Rattle.text_parts.specs.CommandWords.{command_word}
use Rattle.text_parts.specs.Words.{strict_words, one_of, two_of, three_of}

-- ---- so many words

abbrev pub nothing : {A : Type 0} → A → List (List ℕ) → Result A Cause
nothing x [] = Ok x
nothing x _ = Err BadLine

abbrev pub shape : {A : Type 0} → Option A → Result A Cause
shape None = Err BadLine
shape (Some x) = Ok x

abbrev pub one : {A : Type 0} → (List ℕ → Result A Cause) → List (List ℕ) → Result A Cause
one read words = shape (one_of words) >>= read

abbrev pub two : {A B : Type 0} → (List ℕ → Result A Cause) → (List ℕ → Result B Cause) → List (List ℕ) →
    Result (A × B) Cause
two first second words = shape (two_of words) >>= λ w. both (first w.0) (second w.1)

-- words with their places, from s on
abbrev pub each : {A : Type 0} → (ℕ → List ℕ → Result A Cause) → ℕ → List (List ℕ) → Result (List A) Cause
each read s [] = Ok []
each read s (w ∷ ws) = both (read s w) (each read (s + 1) ws) >>= λ p. Ok (p.0 ∷ p.1)

-- the value of the first word, where there is one
abbrev pub next_value : {A : Type 0} → (List ℕ → Result A Cause) → List (List ℕ) → Result (Option A) Cause
next_value read [] = Ok None
next_value read (w ∷ ws) = read w >>= λ x. Ok (Some x)

-- the words behind the first
abbrev pub rest_of : List (List ℕ) → List (List ℕ)
rest_of [] = []
rest_of (w ∷ ws) = ws

abbrev pub up_to_four : {A : Type 0} → (ℕ → List ℕ → Result A Cause) → List (List ℕ) → Result (Four A) Cause
up_to_four read words = if nat_lt 4 (length words) then Err BadLine else (each read 0 words >>= λ xs. Ok (four_of xs))

-- ---- commands

abbrev pub waiting_word : Option Word → Result Word Cause
waiting_word None = Err BadLine
waiting_word (Some word) = if is_waiting_word word then Ok word else Err BadLine

abbrev pub begin_of : List (List ℕ) → Result Entry Cause
begin_of words = one (λ w. waiting_word (command_word w)) words >>= λ word. Ok (Begin word)

-- CODE and up to two numbers
abbrev pub refusal : List (List ℕ) → Result Reply Cause
refusal (c ∷ []) = byte c >>= λ code. Ok (reply.Refused code None None)
refusal (c ∷ f ∷ []) = both (byte c) (small f) >>= λ p. Ok (reply.Refused p.0 (Some p.1) None)
refusal (c ∷ f ∷ s ∷ []) =
    both (byte c) (both (small f) (small s)) >>= λ p. Ok (reply.Refused p.0 (Some p.1.0) (Some p.1.1))
refusal _ = Err BadLine

-- the number of a request
abbrev pub submission : List (List ℕ) → Result Reply Cause
submission words = one request words >>= λ r. Ok (reply.Submitted (record { 0 = r }))

-- what stands behind the `ok` of a command
abbrev pub acceptance : Word → List (List ℕ) → Result Reply Cause
acceptance word words =
    if is_configure_word word then (up_to_four made words >>= λ all. Ok (reply.Configured all))
    else (if is_submitting_word word then submission words
    else nothing reply.Ok words)

unfoldable pub reply_of : Word → List (List ℕ) → Result Reply Cause
reply_of word [] = Err BadLine
reply_of word (how ∷ words) =
    if bytes_eq how (codes "ok") then acceptance word words
    else (if bytes_eq how (codes "refused") then refusal words
    else Err BadLine)

abbrev pub call_with : List ℕ → Option Word → List (List ℕ) → Result Entry Cause
call_with index None words = Err BadLine
call_with index (Some word) words = both (small index) (reply_of word words) >>= λ p. Ok (Call p.0 word p.1)

-- `I W = ..`
unfoldable pub call_of : List (List ℕ) → Result Entry Cause
call_of (index ∷ word ∷ sign ∷ words) =
    if bytes_eq sign (codes "=") then call_with index (command_word word) words else Err BadLine
call_of _ = Err BadLine

-- ---- frames

unfoldable pub send_of : List (List ℕ) → Result Entry Cause
send_of (n ∷ i ∷ m ∷ words) =
    both (small n) (both (item i) (both (mark m) (up_to_four (λ s. sent) words)))
    >>= λ p. Ok (Send (record { 0 = p.0 }) (record { 0 = p.1.0.0 }) p.1.0.1 p.1.1.0 p.1.1.1)
send_of _ = Err BadLine

abbrev pub drop_of : List (List ℕ) → Result Entry Cause
drop_of words = two small item words >>= λ p. Ok (Dropped (record { 0 = p.0 }) (record { 0 = p.1.0 }) p.1.1)

abbrev pub shutter_of : List (List ℕ) → Result Entry Cause
shutter_of words = two small large words >>= λ p. Ok (Shutter (record { 0 = p.0 }) p.1)

-- part k of bytes
abbrev pub part_from : ℕ → Result (List MetaEntry) PackedRefused → Option PartialResult
part_from k (Ok entries) = part_in k entries
part_from k (Err e) = None

abbrev pub metadata_is : Option PartialResult → Result PartialResult Cause
metadata_is None = Err BadMetadata
metadata_is (Some part) = Ok part

-- the part with the number that bytes are the packed form of
abbrev pub metadata : ℕ → List ℕ → Result PartialResult Cause
metadata k bytes = metadata_is (part_from k (list_of bytes))

-- `N K HEX`: each of the three has the cause BadNumber alone
unfoldable pub partial_of : List (List ℕ) → Result Entry Cause
partial_of words = do
  w ← shape (three_of words)
  n ← small w.0
  k ← part_number w.1
  bytes ← hex_bytes w.2
  part ← metadata k bytes
  Ok (Partial (record { 0 = n }) k part)

-- the place of a fence, where there is none
abbrev pub no_fence : List ℕ → Result (Option FenceNo) Cause
no_fence word = if bytes_eq word (codes "-") then Ok None else Err BadLine

-- the frame, the stream and the buffer
abbrev pub returned_buffer : List ℕ → List ℕ → List ℕ → Result (ℕ × ℕ × ℕ) Cause
returned_buffer n s b = both (small n) (both (byte s) (buffer b)) >>= λ p. Ok (p.0, p.1.0, p.1.1)

-- `- HEX`, behind `ok`
abbrev pub filled_behind : Result (ℕ × ℕ × ℕ) Cause → List (List ℕ) → Result Entry Cause
filled_behind place words =
    shape (two_of words) >>= λ w. both place (both (no_fence w.0) (digest w.1))
    >>= λ p. Ok (Filled (record { 0 = p.0.0 }) (record { 0 = p.0.1 }) (record { 0 = p.0.2 }) p.1.0 p.1.1)

-- `F`, behind `error`
abbrev pub failed_behind : Result (ℕ × ℕ × ℕ) Cause → List (List ℕ) → Result Entry Cause
failed_behind place words =
    shape (one_of words) >>= λ w. both place (fence w)
    >>= λ p. Ok (Failed (record { 0 = p.0.0 }) (record { 0 = p.0.1 }) (record { 0 = p.0.2 }) p.1)

abbrev pub returned : Result (ℕ × ℕ × ℕ) Cause → List ℕ → List (List ℕ) → Result Entry Cause
returned place how words =
    if bytes_eq how (codes "ok") then filled_behind place words
    else (if bytes_eq how (codes "error") then failed_behind place words
    else Err BadLine)

-- `N S bB` and what stands behind it
unfoldable pub buffer_of : List (List ℕ) → Result Entry Cause
buffer_of (n ∷ s ∷ b ∷ how ∷ words) = returned (returned_buffer n s b) how words
buffer_of _ = Err BadLine

abbrev pub one_frame : List (List ℕ) → Result FrameNo Cause
one_frame words = one small words >>= λ n. Ok (record { 0 = n })

abbrev pub error_buffer : List (List ℕ) → Result Entry Cause
error_buffer words = two small byte words >>= λ p. Ok (ErrorBuffer (record { 0 = p.0 }) (record { 0 = p.1 }))

unfoldable pub error_of : List (List ℕ) → Result Entry Cause
error_of [] = Err BadLine
error_of (kind ∷ words) =
    if bytes_eq kind (codes "request") then (one_frame words >>= λ n. Ok (ErrorRequest n))
    else (if bytes_eq kind (codes "result") then (one_frame words >>= λ n. Ok (ErrorResult n))
    else (if bytes_eq kind (codes "buffer") then error_buffer words
    else (if bytes_eq kind (codes "device") then nothing ErrorDevice words
    else Err BadLine)))

-- ---- fences

abbrev pub release_of : List (List ℕ) → Result Entry Cause
release_of words = two buffer fence_number words >>= λ p. Ok (Release (record { 0 = p.0 }) (record { 0 = p.1 }))

abbrev pub signal_of : List (List ℕ) → Result Entry Cause
signal_of words = one fence_number words >>= λ k. Ok (Signal (record { 0 = k }))

-- ---- buffers that come back before they are filled

-- `dK`
abbrev pub early_behind : Result (ℕ × ℕ × ℕ) Cause → List (List ℕ) → Result Entry Cause
early_behind place words =
    shape (one_of words) >>= λ w. both place (device_fence w)
    >>= λ p. Ok (Early (record { 0 = p.0.0 }) (record { 0 = p.0.1 }) (record { 0 = p.0.2 }) (record { 0 = p.1 }))

-- `N S bB dK`
unfoldable pub early_of : List (List ℕ) → Result Entry Cause
early_of (n ∷ s ∷ b ∷ words) = early_behind (returned_buffer n s b) words
early_of _ = Err BadLine

-- `dK HEX`
abbrev pub late_of : List (List ℕ) → Result Entry Cause
late_of words = two device_fence digest words >>= λ p. Ok (Late (record { 0 = p.0 }) p.1)

-- ---- a line

-- the kind of a line, by its first word
unfoldable pub kind_of : List ℕ → Option Kind
kind_of word =
    if bytes_eq word (codes "partial") then Some kind.Partial
    else (if bytes_eq word (codes "buffer") then Some kind.Buffer
    else (if bytes_eq word (codes "release") then Some kind.Release
    else (if bytes_eq word (codes "send") then Some kind.Send
    else (if bytes_eq word (codes "shutter") then Some kind.Shutter
    else (if bytes_eq word (codes "signal") then Some kind.Signal
    else (if bytes_eq word (codes "begin") then Some kind.Begin
    else (if bytes_eq word (codes "call") then Some kind.Call
    else (if bytes_eq word (codes "filled") then Some kind.Late
    else (if bytes_eq word (codes "early") then Some kind.Early
    else (if bytes_eq word (codes "error") then Some kind.Error
    else (if bytes_eq word (codes "drop") then Some kind.Drop
    else None)))))))))))

-- a line by its kind and the words behind the first
unfoldable pub entry_in : Kind → List (List ℕ) → Result Entry Cause
entry_in kind.Begin words = begin_of words
entry_in kind.Call words = call_of words
entry_in kind.Send words = send_of words
entry_in kind.Drop words = drop_of words
entry_in kind.Shutter words = shutter_of words
entry_in kind.Partial words = partial_of words
entry_in kind.Buffer words = buffer_of words
entry_in kind.Error words = error_of words
entry_in kind.Release words = release_of words
entry_in kind.Signal words = signal_of words
entry_in kind.Early words = early_of words
entry_in kind.Late words = late_of words

-- a line by its first word and the words behind it
abbrev pub entry_with : List ℕ → List (List ℕ) → Result Entry Cause
entry_with word words = shape (kind_of word) >>= λ k. entry_in k words

abbrev pub entry_by : List (List ℕ) → Result Entry Cause
entry_by [] = Err BadLine
entry_by (word ∷ words) = entry_with word words

-- ASCII alone, and no word is empty
abbrev pub is_plain_line : List ℕ → Bool
is_plain_line line = list_all (λ b. nat_lt b 128) line && list_all (λ word. not (length word == 0)) (strict_words line)

unfoldable pub entry_of : List ℕ → Result Entry Cause
entry_of line = if is_plain_line line then entry_by (strict_words line) else Err BadLine

-- ---- the first line

abbrev pub no_profile : List (List ℕ) → Result (Option Profile) Cause
no_profile words = nothing None words

-- `DEPTH RAW YUV`
abbrev pub profile_of : List (List ℕ) → Result (Option Profile) Cause
profile_of words =
    shape (three_of words) >>= λ w. both (profile_number w.0) (both (profile_number w.1) (profile_number w.2))
    >>= λ p. Ok (Some (record { depth = p.0; raw = p.1.0; yuv = p.1.1 }))

-- the version, and the profile that the second one has
unfoldable pub version_of : List (List ℕ) → Result (Option Profile) Cause
version_of [] = Err BadLine
version_of (version ∷ words) =
    if bytes_eq version (codes "1") then no_profile words
    else (if bytes_eq version (codes "2") then profile_of words
    else Err BadLine)

abbrev pub first_with : List ℕ → List (List ℕ) → Result (Option Profile) Cause
first_with word words = if bytes_eq word (codes "trace") then version_of words else Err BadLine

abbrev pub first_by : List (List ℕ) → Result (Option Profile) Cause
first_by [] = Err BadLine
first_by (word ∷ words) = first_with word words

-- the profile that a first line names, if it names one
unfoldable pub named_profile : List ℕ → Result (Option Profile) Cause
named_profile line = if is_plain_line line then first_by (strict_words line) else Err BadLine
