-- Words that stand for values: numbers, streams and captures. (docs/FORMATS.md, script text)
use Rattle.std.specs.Prelude.{ℕ, ◌==◌, ◌-◌, ◌^◌, Bool, true, false, ◌||◌, List, [], ◌∷◌, ◌++◌, length, drop, replicate, Option, Some, None, nat_eq, if◌then◌else◌, codes, bytes_eq}
use Rattle.std.specs.List.{starts_with}
use Rattle.cam_types.specs.declared.item.Item.{Item}
use Rattle.cam_types.specs.declared.item.Settings.{Settings}
use Rattle.cam_types.specs.declared.item.Targets.{Targets}
use Rattle.cam_types.specs.declared.stream.Format.{Format}
use Rattle.cam_types.specs.declared.stream.Format.TheVariants.{Raw16, Yuv, Other}
use Rattle.cam_types.specs.declared.stream.StreamSpec.{StreamSpec}
use Rattle.text_parts.specs.Values.{◌>>=◌, all_of, four_numbers}
use Rattle.text_parts.specs.Cuts.{parts_at, in_two}
use Rattle.text_parts.specs.Numbers.{number_below}

-- a format that has no name: `x` (120) and its number, which is neither that of `raw16` (0x20) nor that of `yuv` (0x23)
abbrev pub unnamed : ℕ → Option Format
unnamed n = if n == 32 || n == 35 then None else Some (Other n)

abbrev pub numbered_format : List ℕ → Option Format
numbered_format [] = None
numbered_format (letter ∷ number) = if letter == 120 then number_below (2 ^ 32) number >>= unnamed else None

-- `raw16`, `yuv`, or `x` and a number other than theirs
unfoldable pub format_of : List ℕ → Option Format
format_of word =
    if bytes_eq word (codes "raw16") then Some Raw16
    else (if bytes_eq word (codes "yuv") then Some Yuv else numbered_format word)

-- a width or a height: 1 to 65535
unfoldable pub side_of : List ℕ → Option ℕ
side_of word = number_below (2 ^ 16) word >>= λ n. if n == 0 then None else Some n

-- `FORMAT:WxH`: 58 is `:`, and 120 is `x`
unfoldable pub stream_of : Bool → List ℕ → Option StreamSpec
stream_of is_input word = do
  parts ← in_two 58 word
  format ← format_of parts.0
  sides ← in_two 120 parts.1
  width ← side_of sides.0
  height ← side_of sides.1
  Some (record { input = is_input; format = format; width = width; height = height })

-- SPEC: a stream, or an input stream behind `in:`
unfoldable pub spec_of : List ℕ → Option StreamSpec
spec_of word = if starts_with nat_eq word (codes "in:") then stream_of true (drop 3 word) else stream_of false word

-- the settings of the templates
abbrev pub preview : Settings
preview = record { pattern = 2; level = 128; exposure = 10000000; iso = 100 }

abbrev pub still : Settings
still = record { pattern = 1; level = 200; exposure = 20000000; iso = 100 }

-- SETTINGS: a template, or four numbers
unfoldable pub settings_of : List ℕ → Option Settings
settings_of word =
    if bytes_eq word (codes "preview") then Some preview
    else (if bytes_eq word (codes "still") then Some still else four_numbers word)

-- streams as targets: zeros stand past them, up to eight places
abbrev pub targets : List ℕ → Targets
targets streams = record { count = length streams; list = streams ++ replicate (8 - length streams) 0 }

-- streams joined by `+` (43)
unfoldable pub joined_targets : List ℕ → Option Targets
joined_targets word = all_of (number_below (2 ^ 8)) (parts_at 43 word) >>= λ streams. Some (targets streams)

-- TARGETS: `-`, or streams
unfoldable pub targets_of : List ℕ → Option Targets
targets_of word = if bytes_eq word (codes "-") then Some (targets []) else joined_targets word

-- ITEM: `SETTINGS@TARGETS`; 64 is `@`
unfoldable pub item_of : List ℕ → Option Item
item_of word = do
  parts ← in_two 64 word
  settings ← settings_of parts.0
  targets ← targets_of parts.1
  Some (record { settings = settings; targets = targets })
