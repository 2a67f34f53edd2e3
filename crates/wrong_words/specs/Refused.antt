-- What `explain` writes of an input that isn't read. (our own choice; docs/FORMATS.md, Causes, and What explain writes)
use Rattle.std.specs.Prelude.{ℕ, ◌==◌, ◌+◌, ◌-◌, List, [], ◌∷◌, ◌++◌, Option, Some, None, bytes_eq, codes, decimal, if◌then◌else◌, length, nat_lt}
use Rattle.std.specs.List.{slice_get}
use Rattle.cam_types.specs.declared.profile.Profile.{Profile}
use Rattle.text_parts.specs.Causes.{number_of}
use Rattle.text_parts.specs.LineReading.{is_printable}
use Rattle.text_parts.specs.declared.cause.Cause.{Cause}
use Rattle.text_parts.specs.declared.cause.Cause.TheVariants.{NotAscii, Version, UnknownWord, BadNumber, Missing, Extra, Limit, FaultAfterCommand}
use Rattle.text_parts.specs.Cuts.{parts_at}
use Rattle.text_parts.specs.Lines.{lines_of}
use Rattle.text_parts.specs.Words.{loose_words, strict_words}
use Rattle.trace_reader.specs.Causes.{number_of as trace_number_of}
use Rattle.trace_reader.specs.declared.cause.Cause.{Cause as TraceCause}
use Rattle.trace_reader.specs.declared.cause.Cause.TheVariants as trace
use Rattle.wrong_words.specs.declared.word_kind.WordKind.{WordKind}
use Rattle.wrong_words.specs.WordPlaces.{wrong_in_script, wrong_in_trace}
use Rattle.wrong_words.specs.Sentences.{fault_words, kind_text, line_words, long_input, long_script, other_profile, packed_part, script_form, script_limits, script_sentence, trace_form, trace_sentence, trace_words, version_lines}
use Rattle.wrong_words.specs.Shown.{shown}

-- ---- what every refusal has

-- ` line N`; line 0 stands for no line
unfoldable pub line_place : ℕ → List ℕ
line_place n = if n == 0 then [] else codes " line " ++ decimal n

-- ` (cause C)`
unfoldable pub cause_place : ℕ → List ℕ
cause_place cause = codes " (cause " ++ (decimal cause ++ codes ")\n")

-- the line, where there is one that isn't empty
abbrev pub shown_at : Option (List ℕ) → List ℕ
shown_at None = []
shown_at (Some []) = []
shown_at (Some (b ∷ bs)) = codes "    " ++ (shown (b ∷ bs) ++ 10 ∷ [])

-- the sentence of the cause, and where all causes stand
unfoldable pub sentence_text : List ℕ → List ℕ
sentence_text sentence = sentence ++ codes ".\n(docs/FORMATS.md, Causes)\n"

-- a number between two texts
abbrev pub between : List ℕ → ℕ → List ℕ → List ℕ
between front n back = front ++ (decimal n ++ back)

-- the first line: what is refused, its line and the number of its cause
unfoldable pub refused_head : List ℕ → ℕ → ℕ → List ℕ
refused_head front n cause = front ++ (line_place n ++ cause_place cause)

-- a heading, a text and the end of the line
abbrev pub told : List ℕ → List ℕ → List ℕ
told heading text = heading ++ (text ++ 10 ∷ [])

-- the word that is wrong, and what may stand in its place
abbrev pub word_and_place : List ℕ → List ℕ → List ℕ
word_and_place word place = told (codes "The word: ") (shown word) ++ told (codes "There may stand: ") place

abbrev pub wrong_part : Option (WordKind × List ℕ) → List ℕ
wrong_part None = []
wrong_part (Some wrong) = word_and_place wrong.1 (kind_text wrong.0)

-- ---- a script

-- `Byte P of the line`
unfoldable pub byte_place : ℕ → List ℕ
byte_place place = between (codes "Byte ") place (codes " of the line")

-- ` is B.`
unfoldable pub byte_value : ℕ → List ℕ
byte_value byte = between (codes " is ") byte (codes ".\n")

-- the first byte that isn't from space to `~`, with its place; the first of these has the place
abbrev pub byte_part : ℕ → List ℕ → List ℕ
byte_part place [] = []
byte_part place (b ∷ bs) = if is_printable b then byte_part (place + 1) bs else byte_place place ++ byte_value b

-- the word that isn't known: the first one, or that behind `fault`
abbrev pub fault_word_part : List (List ℕ) → List ℕ
fault_word_part [] = []
fault_word_part (word ∷ words) = word_and_place word fault_words

abbrev pub unknown_part : List (List ℕ) → List ℕ
unknown_part [] = []
unknown_part (first ∷ words) =
    if bytes_eq first (codes "fault") then fault_word_part words else word_and_place first line_words

abbrev pub form_or : List ℕ → Option (List ℕ) → List ℕ
form_or first None = first
form_or first (Some form) = form

-- how many words the line has, and the form that it should have
abbrev pub form_part : List (List ℕ) → List ℕ
form_part [] = []
form_part (first ∷ words) =
    told (codes "Its words: ") (decimal (length (first ∷ words)))
    ++ told (codes "Its form: ") (form_or first (script_form first))

-- the limits that the line may pass
abbrev pub limit_part : List (List ℕ) → List ℕ
limit_part [] = []
limit_part (first ∷ words) = told (codes "The limits: ") (script_limits first)

-- what is told of a line besides the sentence of its cause
unfoldable pub script_detail : Cause → List ℕ → List ℕ
script_detail NotAscii line = byte_part 1 line
script_detail Version line = told (codes "There may stand: ") version_lines
script_detail UnknownWord line = unknown_part (loose_words line)
script_detail BadNumber line = wrong_part (wrong_in_script line)
script_detail Missing line = form_part (loose_words line)
script_detail Extra line = form_part (loose_words line)
script_detail Limit line = limit_part (loose_words line)
script_detail FaultAfterCommand line = []

abbrev pub script_detail_at : Cause → Option (List ℕ) → List ℕ
script_detail_at cause None = []
script_detail_at cause (Some line) = script_detail cause line

-- line n of a script, counted from 1
unfoldable pub script_line : List ℕ → ℕ → Option (List ℕ)
script_line part n = if n == 0 then None else slice_get (lines_of part) (n - 1)

-- the cause of line 0 is the length of the whole
unfoldable pub sentence_at : ℕ → Cause → List ℕ
sentence_at n cause = if n == 0 then long_script else script_sentence cause

unfoldable pub script_head : ℕ → Cause → List ℕ
script_head n cause = refused_head (codes "refused: script") n (number_of cause)

-- of a script: the line and the number of the cause, that line, the sentence of the cause, and what it is of
unfoldable pub refused_script : List ℕ → ℕ → Cause → List ℕ
refused_script part n cause =
    script_head n cause
    ++ (shown_at (script_line part n)
    ++ (sentence_text (sentence_at n cause) ++ script_detail_at cause (script_line part n)))

-- ---- a trace

-- the forms that lines with this first word have
abbrev pub trace_form_told : Option (List ℕ) → List ℕ
trace_form_told None = told (codes "There may stand: ") trace_words
trace_form_told (Some form) = told (codes "Its form: ") form

abbrev pub trace_form_part : List (List ℕ) → List ℕ
trace_form_part [] = []
trace_form_part (first ∷ words) = trace_form_told (trace_form first)

-- the text of a `partial` line
abbrev pub metadata_part : List (List ℕ) → List ℕ
metadata_part (first ∷ frame ∷ number ∷ text ∷ words) = word_and_place text packed_part
metadata_part _ = []

unfoldable pub trace_detail : TraceCause → List ℕ → List ℕ
trace_detail trace.Truncated line = []
trace_detail trace.BadNumber line = wrong_part (wrong_in_trace line)
trace_detail trace.BadLine line = trace_form_part (strict_words line)
trace_detail trace.BadMetadata line = metadata_part (strict_words line)

abbrev pub trace_detail_at : TraceCause → Option (List ℕ) → List ℕ
trace_detail_at cause None = []
trace_detail_at cause (Some line) = trace_detail cause line

-- line n of a trace, whose first line has a number
unfoldable pub trace_line : List ℕ → ℕ → ℕ → Option (List ℕ)
trace_line text first n = if nat_lt n first then None else slice_get (parts_at 10 text) (n - first)

abbrev pub trace_head : ℕ → ℕ → List ℕ
trace_head n cause = refused_head (codes "refused: trace") n cause

-- of a trace, whose first line has a number
unfoldable pub refused_trace : List ℕ → ℕ → ℕ → TraceCause → List ℕ
refused_trace text first n cause =
    trace_head n (trace_number_of cause)
    ++ (shown_at (trace_line text first n)
    ++ (sentence_text (trace_sentence cause) ++ trace_detail_at cause (trace_line text first n)))

-- ---- both

-- of an input that is too long
unfoldable pub refused_input : List ℕ
refused_input = trace_head 0 45 ++ sentence_text long_input

-- `DEPTH RAW YUV`
unfoldable pub profile_numbers : Profile → List ℕ
profile_numbers profile =
    decimal profile.depth ++ (codes " " ++ (decimal profile.raw ++ (codes " " ++ decimal profile.yuv)))

-- `The script's profile: DEPTH RAW YUV`
unfoldable pub profile_part : Profile → List ℕ
profile_part profile = told (codes "The script's profile: ") (profile_numbers profile)

-- of a trace, whose first line has the number, beside a script of another profile
unfoldable pub refused_profile : List ℕ → ℕ → Profile → List ℕ
refused_profile text first profile =
    trace_head first 46
    ++ (shown_at (trace_line text first first) ++ (sentence_text other_profile ++ profile_part profile))
