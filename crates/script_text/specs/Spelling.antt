-- The one spelling of a script. (docs/FORMATS.md, script text)
use Rattle.std.specs.Prelude.{ℕ, ◌==◌, Bool, List, [], ◌∷◌, ◌++◌, take, map, if◌then◌else◌, codes, decimal}
use Rattle.std.specs.List.{flat_map, join_by}
use Rattle.cam_types.specs.declared.item.Item.{Item}
use Rattle.cam_types.specs.declared.item.Settings.{Settings}
use Rattle.cam_types.specs.declared.item.Targets.{Targets}
use Rattle.cam_types.specs.declared.profile.Profile.{Profile}
use Rattle.cam_types.specs.declared.script.Command.{Command}
use Rattle.cam_types.specs.declared.script.Command.TheVariants as command
use Rattle.cam_types.specs.declared.script.Fault.{Fault}
use Rattle.cam_types.specs.declared.script.Fault.TheVariants as fault
use Rattle.cam_types.specs.declared.script.Script.{Script}
use Rattle.cam_types.specs.declared.stream.Format.{Format}
use Rattle.cam_types.specs.declared.stream.Format.TheVariants.{Raw16, Yuv, Other}
use Rattle.cam_types.specs.declared.stream.StreamSpec.{StreamSpec}
use Rattle.text_parts.specs.CommandWords.{word_of, word_text}
use Rattle.text_parts.specs.Lines.{line_text}

-- words, each behind a space
abbrev pub behind_spaces : List (List ℕ) → List ℕ
behind_spaces words = flat_map (λ word. 32 ∷ word) words

-- `PATTERN,LEVEL,EXPOSURE,ISO`: settings are four numbers
abbrev pub settings_text : Settings → List ℕ
settings_text s = join_by decimal (codes ",") (s.pattern ∷ s.level ∷ s.exposure ∷ s.iso ∷ [])

abbrev pub targets_text : Targets → List ℕ
targets_text t = if t.count == 0 then codes "-" else join_by decimal (codes "+") (take t.count t.list)

abbrev pub item_text : Item → List ℕ
item_text i = settings_text i.settings ++ 64 ∷ targets_text i.targets

abbrev pub format_text : Format → List ℕ
format_text Raw16 = codes "raw16"
format_text Yuv = codes "yuv"
format_text (Other n) = 120 ∷ decimal n

abbrev pub spec_text : StreamSpec → List ℕ
spec_text s =
    (if s.input then codes "in:" else []) ++ (format_text s.format ++ 58 ∷ (decimal s.width ++ 120 ∷ decimal s.height))

-- the words of a line
abbrev pub fault_arguments : Fault → List (List ℕ)
fault_arguments (fault.Request n) = codes "request" ∷ decimal n.0 ∷ []
fault_arguments (fault.Result n) = codes "result" ∷ decimal n.0 ∷ []
fault_arguments (fault.Buffer n s) = codes "buffer" ∷ decimal n.0 ∷ decimal s.0 ∷ []
fault_arguments (fault.Device n) = codes "device" ∷ decimal n.0 ∷ []

abbrev pub fault_words : Fault → List (List ℕ)
fault_words fault = codes "fault" ∷ fault_arguments fault

abbrev pub arguments_of : Command → List (List ℕ)
arguments_of (command.Configure specs) = map spec_text specs
arguments_of (command.Once item) = item_text item ∷ []
arguments_of (command.Burst items) = map item_text items
arguments_of (command.Repeat items) = map item_text items
arguments_of (command.Await k) = decimal k ∷ []
arguments_of _ = []

abbrev pub command_line_words : Command → List (List ℕ)
command_line_words command = word_text (word_of command) ∷ arguments_of command

-- one line, where there are picks
abbrev pub pick_lines : List ℕ → List (List (List ℕ))
pick_lines [] = []
pick_lines (pick ∷ picks) = (codes "pick" ∷ decimal pick ∷ map decimal picks) ∷ []

-- `camera 1` or `camera 2`
abbrev pub version_words : ℕ → List (List ℕ)
version_words version = codes "camera" ∷ decimal version ∷ []

-- `device DEPTH RAW YUV`, in a script of the second version
abbrev pub device_lines : ℕ → Profile → List (List (List ℕ))
device_lines version p =
    if version == 2 then (codes "device" ∷ decimal p.depth ∷ decimal p.raw ∷ decimal p.yuv ∷ []) ∷ [] else []

-- `early`, where it stands
abbrev pub early_lines : Bool → List (List (List ℕ))
early_lines early = if early then (codes "early" ∷ []) ∷ [] else []

-- the version line, the device, `early`, the faults, the picks, the commands
abbrev pub script_lines : Script → List (List (List ℕ))
script_lines s =
    version_words s.version
    ∷
    (device_lines s.version s.profile
    ++
    (early_lines s.early
    ++ (map fault_words s.faults ++ (pick_lines s.picks ++ map command_line_words s.commands))))

unfoldable pub text_of : Script → List ℕ
text_of s = flat_map line_text (script_lines s)
