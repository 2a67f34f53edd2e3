-- What a line means by its words. (docs/FORMATS.md, script text)
use Rattle.std.specs.Prelude.{ℕ, ◌==◌, ◌^◌, List, [], ◌∷◌, Option, Some, None, Result, Ok, Err, if◌then◌else◌, codes, bytes_eq}
use Rattle.cam_types.specs.Limits.{profile_limit}
use Rattle.cam_types.specs.declared.profile.Profile.{Profile}
use Rattle.cam_types.specs.declared.script.Command.{Command}
use Rattle.cam_types.specs.declared.script.Command.TheVariants as command
use Rattle.cam_types.specs.declared.script.Fault.{Fault}
use Rattle.cam_types.specs.declared.script.Fault.TheVariants as fault
use Rattle.cam_types.specs.declared.script.Word.{Word}
use Rattle.cam_types.specs.declared.script.Word.TheVariants.{Configure, Once, Burst, Repeat, Stop, Wait, Await, Flush, Close, Disconnect}
use Rattle.text_parts.specs.declared.cause.Cause.{Cause}
use Rattle.text_parts.specs.declared.cause.Cause.TheVariants.{UnknownWord, Missing}
use Rattle.text_parts.specs.Values.{number}
use Rattle.text_parts.specs.LineWords.{◌>>=◌, good, ends, one, many, picks_of}
use Rattle.script_text.specs.Values.{spec_of, item_of}
use Rattle.text_parts.specs.CommandWords.{command_word}
use Rattle.text_parts.specs.Numbers.{number_below, number_within}

-- a line that has a place in a script, after the version line
pub data Line : Type 0 where
  FaultLine : Fault → Line
  EarlyLine : Line
  DeviceLine : Profile → Line
  PickLine : List ℕ → Line
  CommandLine : Command → Line

-- a stream, and what an `await` waits for
abbrev pub stream : List ℕ → Option ℕ
stream word = number_below (2 ^ 8) word

abbrev pub at_least_one : Option ℕ → Option ℕ
at_least_one None = None
at_least_one (Some k) = if k == 0 then None else Some k

abbrev pub awaited : List ℕ → Option ℕ
awaited word = at_least_one (number word)

-- two words, with their values
abbrev pub two : {A B : Type 0} → (List ℕ → Option A) → (List ℕ → Option B) → List (List ℕ) → Result (A × B) Cause
two front back [] = Err Missing
two front back (word ∷ words) = do
  x ← good (front word)
  y ← one back words
  Ok (x, y)

-- `N S`
unfoldable pub frame_and_stream : List (List ℕ) → Result (ℕ × ℕ) Cause
frame_and_stream words = two number stream words

-- `fault` and these words
unfoldable pub fault_of : List (List ℕ) → Result Fault Cause
fault_of [] = Err Missing
fault_of (kind ∷ words) =
    if bytes_eq kind (codes "request") then (one number words >>= λ n. Ok (fault.Request (record { 0 = n })))
    else (if bytes_eq kind (codes "result") then (one number words >>= λ n. Ok (fault.Result (record { 0 = n })))
    else (if bytes_eq kind (codes "buffer")
    then (frame_and_stream words >>= λ p. Ok (fault.Buffer (record { 0 = p.0 }) (record { 0 = p.1 })))
    else (if bytes_eq kind (codes "device") then (one number words >>= λ n. Ok (fault.Device (record { 0 = n })))
    else Err UnknownWord)))

-- each number of a profile is from 1 to 16
abbrev pub profile_number : List ℕ → Option ℕ
profile_number word = number_within 1 profile_limit word

-- `RAW YUV`
unfoldable pub raw_and_yuv : List (List ℕ) → Result (ℕ × ℕ) Cause
raw_and_yuv words = two profile_number profile_number words

-- `device` and these words: `DEPTH RAW YUV`
unfoldable pub device_of : List (List ℕ) → Result Profile Cause
device_of [] = Err Missing
device_of (depth ∷ words) = do
  d ← good (profile_number depth)
  p ← raw_and_yuv words
  Ok (record { depth = d; raw = p.0; yuv = p.1 })

-- a command by its word and the words behind it
unfoldable pub command_of : Word → List (List ℕ) → Result Command Cause
command_of Configure words = many spec_of words >>= λ specs. Ok (command.Configure specs)
command_of Once words = one item_of words >>= λ item. Ok (command.Once item)
command_of Burst words = many item_of words >>= λ items. Ok (command.Burst items)
command_of Repeat words = many item_of words >>= λ items. Ok (command.Repeat items)
command_of Stop words = ends command.Stop words
command_of Wait words = ends command.Wait words
command_of Await words = one awaited words >>= λ k. Ok (command.Await k)
command_of Flush words = ends command.Flush words
command_of Close words = ends command.Close words
command_of Disconnect words = ends command.Disconnect words

abbrev pub fault_line : List (List ℕ) → Result Line Cause
fault_line words = fault_of words >>= λ fault. Ok (FaultLine fault)

-- `early`, which has no further words
abbrev pub early_line : List (List ℕ) → Result Line Cause
early_line words = ends EarlyLine words

-- the first version has no `device`
abbrev pub device_line : ℕ → List (List ℕ) → Result Line Cause
device_line version words =
    if version == 2 then (device_of words >>= λ profile. Ok (DeviceLine profile)) else Err UnknownWord

abbrev pub pick_line : List (List ℕ) → Result Line Cause
pick_line words = picks_of words >>= λ picks. Ok (PickLine picks)

abbrev pub command_line : Option Word → List (List ℕ) → Result Line Cause
command_line None words = Err UnknownWord
command_line (Some word) words = command_of word words >>= λ c. Ok (CommandLine c)

-- a line of a script of the version, by its first word and the words behind it
unfoldable pub other_line : ℕ → List ℕ → List (List ℕ) → Result Line Cause
other_line version word words =
    if bytes_eq word (codes "early") then early_line words
    else (if bytes_eq word (codes "device") then device_line version words
    else command_line (command_word word) words)

unfoldable pub line_of : ℕ → List ℕ → List (List ℕ) → Result Line Cause
line_of version word words =
    if bytes_eq word (codes "fault") then fault_line words
    else (if bytes_eq word (codes "pick") then pick_line words
    else other_line version word words)
