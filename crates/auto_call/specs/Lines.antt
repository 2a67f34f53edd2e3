-- What a line means by its words. (docs/FORMATS.md, automatic exposure)
use Rattle.std.specs.Prelude.{ℕ, List, [], ◌∷◌, Result, Ok, Err, if◌then◌else◌, codes, bytes_eq}
use Rattle.text_parts.specs.declared.cause.Cause.{Cause}
use Rattle.text_parts.specs.declared.cause.Cause.TheVariants.{UnknownWord, Missing}
use Rattle.text_parts.specs.LineWords.{◌>>=◌, good}
use Rattle.text_parts.specs.Numbers.{number_within}
use Rattle.call_parts.specs.Reading.{named_number, two_numbers}
use Rattle.auto_call.specs.declared.text.Scene.{Scene}

-- `target T`: a mean brightness from 16 to 240
abbrev pub target_line : List ℕ → List (List ℕ) → Result ℕ Cause
target_line = named_number (codes "target") 16 240

-- `iso I`: a sensitivity from 100 to 1600
abbrev pub iso_line : List ℕ → List (List ℕ) → Result ℕ Cause
iso_line = named_number (codes "iso") 100 1600

-- `LEVEL FRAMES`: a level up to 255, and 1 to 64 frames
abbrev pub level_and_frames : List (List ℕ) → Result (ℕ × ℕ) Cause
level_and_frames = two_numbers 255 64

-- `PATTERN LEVEL FRAMES`: the pattern is solid, 0, or bars, 1
unfoldable pub scene_of : List (List ℕ) → Result Scene Cause
scene_of [] = Err Missing
scene_of (pattern ∷ words) = do
  p ← good (number_within 0 1 pattern)
  r ← level_and_frames words
  Ok (record { pattern = p; level = r.0; frames = r.1 })

-- `scene` and these words
abbrev pub scene_line : List ℕ → List (List ℕ) → Result Scene Cause
scene_line word words = if bytes_eq word (codes "scene") then scene_of words else Err UnknownWord
