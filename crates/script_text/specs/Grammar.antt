-- What a text means as a script: a function of the whole text. (docs/FORMATS.md, script text)
use Rattle.std.specs.Prelude.{ℕ, ◌==◌, ◌+◌, Bool, true, false, ◌&&◌, not, List, [], ◌∷◌, ◌++◌, length, nat_lt, nat_le, Option, Some, None, Result, Ok, Err, if◌then◌else◌, codes, bytes_eq, sum_by}
use Rattle.std.specs.List.{list_all, list_any}
use Rattle.cam_types.specs.declared.profile.Profile.{Profile}
use Rattle.cam_types.specs.declared.script.Command.{Command}
use Rattle.cam_types.specs.declared.script.Command.TheVariants.{Close}
use Rattle.cam_types.specs.declared.script.Script.{Script}
use Rattle.cam_types.specs.Limits.{command_limit, awaited_limit, fault_limit}
use Rattle.cam_types.specs.Script.{awaited_by, is_closing_command}
use Rattle.text_parts.specs.declared.cause.Cause.{Cause}
use Rattle.text_parts.specs.declared.cause.Cause.TheVariants.{NotAscii, Version, Limit, FaultAfterCommand}
use Rattle.text_parts.specs.declared.cause.TextRefused.{TextRefused}
use Rattle.text_parts.specs.declared.cause.TextRefused.TheVariants.{Bad}
use Rattle.text_parts.specs.LineReading.{at_line, is_comment, is_printable, text_limit}
use Rattle.text_parts.specs.Lines.{lines_of}
use Rattle.text_parts.specs.Words.{loose_words}
use Rattle.text_parts.specs.LineWords.{◌>>=◌}
use Rattle.script_text.specs.Lines.{Line, FaultLine, EarlyLine, DeviceLine, PickLine, CommandLine, line_of}
use Rattle.script_text.specs.Within.{within, picks_within}

-- a `close` is added where none, and no `disconnect`, stands
abbrev pub closed : List Command → List Command
closed commands = if list_any is_closing_command commands then commands else commands ++ Close ∷ []

-- the profile of a script that names none
abbrev pub plain_profile : Profile
plain_profile = record { depth = 6; raw = 3; yuv = 4 }

-- what stands so far: a script, and how many `device` lines it has
pub record Begun : Type 0 where
  pub script : Script
  pub devices : ℕ

abbrev pub begun : Script → ℕ → Begun
begun script devices = record { script = script; devices = devices }

-- nothing but the version line
abbrev pub empty : ℕ → Begun
empty version =
    begun
    (record { version = version; profile = plain_profile; early = false; faults = []; picks = []; commands = [] }) 0

-- the same with one more line
abbrev pub with_line : Begun → Line → Begun
with_line b (FaultLine fault) = begun (record b.script { faults = b.script.faults ++ fault ∷ [] }) b.devices
with_line b EarlyLine = begun (record b.script { early = true }) b.devices
with_line b (DeviceLine profile) = begun (record b.script { profile = profile }) (b.devices + 1)
with_line b (PickLine picks) = begun (record b.script { picks = b.script.picks ++ picks }) b.devices
with_line b (CommandLine command) = begun (record b.script { commands = b.script.commands ++ command ∷ [] }) b.devices

-- each counted number is within its limit, with the `close` that would be added; one `device` line at most
abbrev pub script_within : Script → Bool
script_within script =
    (nat_le (length script.faults) fault_limit && picks_within script.picks)
    && ((nat_le (length (closed script.commands)) command_limit && list_all within script.commands)
    && nat_le (sum_by awaited_by script.commands) awaited_limit)

abbrev pub counts_within : Begun → Bool
counts_within b = nat_le b.devices 1 && script_within b.script

-- a line that isn't a command stands after a command line
abbrev pub is_late : Begun → Line → Bool
is_late before (CommandLine command) = false
is_late before _ = not (length before.script.commands == 0)

-- what stands after one more line
unfoldable pub added : Begun → Line → Result Begun Cause
added before line =
    if not (counts_within (with_line before line)) then Err Limit
    else (if is_late before line then Err FaultAfterCommand
    else Ok (with_line before line))

abbrev pub then_added : Begun → Result Line Cause → Result Begun Cause
then_added before (Ok line) = added before line
then_added before (Err cause) = Err cause

-- the version line: `camera 1` or `camera 2`
abbrev pub version_number : List ℕ → Option ℕ
version_number word = if bytes_eq word (codes "1") then Some 1 else (if bytes_eq word (codes "2") then Some 2 else None)

abbrev pub version_of : List (List ℕ) → Option ℕ
version_of (first ∷ second ∷ []) = if bytes_eq first (codes "camera") then version_number second else None
version_of _ = None

abbrev pub first_line : Option ℕ → Result (Option Begun) Cause
first_line None = Err Version
first_line (Some version) = Ok (Some (empty version))

-- a line that isn't ignored, by its first word and the words behind it: what stands after it
unfoldable pub after_words : Option Begun → List ℕ → List (List ℕ) → Result (Option Begun) Cause
after_words None word words = first_line (version_of (word ∷ words))
after_words (Some before) word words =
    then_added before (line_of before.script.version word words) >>= λ next. Ok (Some next)

-- a line of spaces alone, and a comment, are ignored
abbrev pub after_line : Option Begun → List (List ℕ) → Result (Option Begun) Cause
after_line before [] = Ok before
after_line before (word ∷ words) = if is_comment word then Ok before else after_words before word words

-- What stands after a line: nothing before the version line, a script from then on.
-- The causes of one line are tried in the order of their numbers.
unfoldable pub after : Option Begun → List ℕ → Result (Option Begun) Cause
after before line = if list_all is_printable line then after_line before (loose_words line) else Err NotAscii

-- what stands at the end of a text, of which n is the number that a next line would have
abbrev pub at_end : ℕ → Option Begun → Result Script TextRefused
at_end n None = Err (Bad n Version)
at_end n (Some b) = Ok (record b.script { commands = closed b.script.commands })

-- the lines from number n on, after what stands before them
unfoldable pub script_from : Option Begun → ℕ → List (List ℕ) → Result Script TextRefused
script_from before n [] = at_end n before
script_from before n (line ∷ lines) = at_line n (after before line) (λ next. script_from next (n + 1) lines)

-- the script that a text means, or the first line that has a cause, with the first of its causes
unfoldable pub script_of : List ℕ → Result Script TextRefused
script_of text = if nat_lt text_limit (length text) then Err (Bad 0 Limit) else script_from None 1 (lines_of text)
