-- The script of a seed and a count, our own choice: a command for each word, with faults where words ask for them.
use Rattle.std.specs.Prelude.{ℕ, ◌+◌, ◌/◌, ◌%◌, ◌==◌, Bool, false, List, [], ◌∷◌, ◌++◌, map, take, replicate, nat_lt, if◌then◌else◌}
use Rattle.std.specs.List.{filter, range_with_len}
use Rattle.cam_types.specs.Limits.{fault_limit}
use Rattle.cam_types.specs.declared.item.Item.{Item}
use Rattle.cam_types.specs.declared.item.Targets.{Targets}
use Rattle.cam_types.specs.declared.script.Command.{Command}
use Rattle.cam_types.specs.declared.script.Command.TheVariants.{Configure, Once, Burst, Repeat, Stop, Wait, Await, Flush, Close}
use Rattle.cam_types.specs.declared.script.Fault.{Fault}
use Rattle.cam_types.specs.declared.script.Fault.TheVariants.{Request, Result, Buffer}
use Rattle.cam_types.specs.declared.script.Script.{Script}
use Rattle.cam_types.specs.declared.stream.Format.TheVariants.{Raw16, Yuv}
use Rattle.cam_types.specs.declared.stream.StreamSpec.{StreamSpec}
use Rattle.play_calls.specs.Words.{word}

-- What a word w says, each in bits of its own.

-- the kind of the command
abbrev pub kind_of : ℕ → ℕ
kind_of w = w % 8

-- how many more: of items in a burst, of frames awaited; and which of the commands without either
abbrev pub extra_of : ℕ → ℕ
extra_of w = w / 8 % 4

abbrev pub pattern_of : ℕ → ℕ
pattern_of w = w / 32 % 3

abbrev pub level_of : ℕ → ℕ
level_of w = w / 128 % 256

abbrev pub has_fault : ℕ → Bool
has_fault w = (w / 1024 % 16) == 0

abbrev pub target_choice : ℕ → ℕ
target_choice w = w / 4096 % 3

abbrev pub fault_choice : ℕ → ℕ
fault_choice w = w / 16384 % 3

-- The command of a word.

-- stream 0, stream 1, or both
abbrev pub targets_by : ℕ → Targets
targets_by choice =
    if choice == 0 then record { count = 1; list = 0 ∷ 0 ∷ 0 ∷ 0 ∷ 0 ∷ 0 ∷ 0 ∷ 0 ∷ [] }
    else (if choice == 1 then record { count = 1; list = 1 ∷ 0 ∷ 0 ∷ 0 ∷ 0 ∷ 0 ∷ 0 ∷ 0 ∷ [] }
    else record { count = 2; list = 0 ∷ 1 ∷ 0 ∷ 0 ∷ 0 ∷ 0 ∷ 0 ∷ 0 ∷ [] })

abbrev pub item_of : ℕ → Item
item_of w = record {
  settings = record { pattern = pattern_of w; level = level_of w; exposure = 10000000; iso = 100 };
  targets = targets_by (target_choice w);
}

-- `yuv:80x60` as stream 0, and `raw16:160x120` as stream 1
abbrev pub two_streams : List StreamSpec
two_streams =
    record { input = false; format = Yuv; width = 80; height = 60 }
    ∷ record { input = false; format = Raw16; width = 160; height = 120 } ∷ []

abbrev pub plain_command : ℕ → Command
plain_command choice =
    if choice == 0 then Stop
    else (if choice == 1 then Flush
    else (if choice == 2 then Wait
    else Configure two_streams))

abbrev pub command_of : ℕ → Command
command_of w =
    if nat_lt (kind_of w) 3 then Once (item_of w)
    else (if nat_lt (kind_of w) 5 then Burst (replicate (1 + extra_of w) (item_of w))
    else (if kind_of w == 5 then Repeat (item_of w ∷ [])
    else (if kind_of w == 6 then Await (1 + extra_of w)
    else plain_command (extra_of w))))

-- The fault that word number j gives the frame of that number.
abbrev pub fault_by : ℕ → ℕ → Fault
fault_by choice j =
    if choice == 0 then Request (record { 0 = j })
    else (if choice == 1 then Result (record { 0 = j })
    else Buffer (record { 0 = j }) (record { 0 = 0 }))

-- the numbers of the words: 1 to the count
abbrev pub numbers : ℕ → List ℕ
numbers count = range_with_len 1 count

-- a configuration, the commands of the words, and a `close`
abbrev pub commands_of : ℕ → ℕ → List Command
commands_of seed count =
    Configure two_streams ∷ map (λ j. command_of (word seed j)) (numbers count) ++ Close ∷ []

-- the faults of the first 64 words that have one
abbrev pub faults_of : ℕ → ℕ → List Fault
faults_of seed count =
    map (λ j. fault_by (fault_choice (word seed j)) j)
    (take fault_limit (filter (λ j. has_fault (word seed j)) (numbers count)))

-- the script of a seed and a count of words
unfoldable pub generated : ℕ → ℕ → Script
generated seed count = record {
  version = 1;
  profile = record { depth = 6; raw = 3; yuv = 4 };
  early = false;
  faults = faults_of seed count;
  picks = [];
  commands = commands_of seed count;
}
