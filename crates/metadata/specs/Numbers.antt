-- Settings as a packed list, one number under each tag.
use Rattle.std.specs.Prelude.{ℕ, Bool, if◌then◌else◌, List, [], ◌∷◌, Option, Some, None, Result, Ok, Err, pos}
use Rattle.cam_types.specs.declared.item.Settings.{Settings}
use Rattle.cam_types.specs.Metadata.{pattern_tag, level_tag, exposure_tag, sensitivity_tag, is_pattern, is_level, is_exposure, is_sensitivity}
use Rattle.metadata.specs.declared.entry.Entry.{Entry}
use Rattle.metadata.specs.declared.values.Values.{Values}
use Rattle.metadata.specs.declared.values.Values.TheVariants.{Bytes, Int32, Int64}
use Rattle.metadata.specs.Entries.{values_at}
use Rattle.metadata.specs.declared.settings.SettingsRefused.{SettingsRefused}
use Rattle.metadata.specs.declared.settings.SettingsRefused.TheVariants.{BadSetting}

-- The one number of a type, if it isn't negative. (No setting and no part has a negative one.)
abbrev pub one_byte : Option Values → Option ℕ
one_byte (Some (Bytes (n ∷ []))) = Some n
one_byte _ = None

abbrev pub one_int32 : Option Values → Option ℕ
one_int32 (Some (Int32 (pos n ∷ []))) = Some n
one_int32 _ = None

abbrev pub one_int64 : Option Values → Option ℕ
one_int64 (Some (Int64 (pos n ∷ []))) = Some n
one_int64 _ = None

abbrev pub byte_entry : ℕ → ℕ → Entry
byte_entry tag n = record { tag = tag; values = Bytes (n ∷ []) }

abbrev pub int32_entry : ℕ → ℕ → Entry
int32_entry tag n = record { tag = tag; values = Int32 (pos n ∷ []) }

abbrev pub int64_entry : ℕ → ℕ → Entry
int64_entry tag n = record { tag = tag; values = Int64 (pos n ∷ []) }

abbrev pub settings_entries : Settings → List Entry
settings_entries s =
    byte_entry pattern_tag s.pattern ∷ int32_entry level_tag s.level ∷ int64_entry exposure_tag s.exposure
    ∷ int32_entry sensitivity_tag s.iso ∷ []

infixl 10 ◌>>=◌
abbrev pub ◌>>=◌ : {A B : Type 0} → Result A SettingsRefused → (A → Result B SettingsRefused) → Result B SettingsRefused
(Ok x) >>= f = f x
(Err e) >>= f = Err e

-- a number that is there and in its range
abbrev pub ruled_by : ℕ → (ℕ → Bool) → Option ℕ → Result ℕ SettingsRefused
ruled_by tag is_right None = Err (BadSetting tag)
ruled_by tag is_right (Some n) = if is_right n then Ok n else Err (BadSetting tag)

abbrev pub pattern_in : List Entry → Result ℕ SettingsRefused
pattern_in es = ruled_by pattern_tag is_pattern (one_byte (values_at pattern_tag es))

abbrev pub level_in : List Entry → Result ℕ SettingsRefused
level_in es = ruled_by level_tag is_level (one_int32 (values_at level_tag es))

abbrev pub exposure_in : List Entry → Result ℕ SettingsRefused
exposure_in es = ruled_by exposure_tag is_exposure (one_int64 (values_at exposure_tag es))

abbrev pub sensitivity_in : List Entry → Result ℕ SettingsRefused
sensitivity_in es = ruled_by sensitivity_tag is_sensitivity (one_int32 (values_at sensitivity_tag es))

-- The settings that a list has. The tags are tried in ascending order, and other tags don't matter.
unfoldable pub settings_in : List Entry → Result Settings SettingsRefused
settings_in es = do
  pattern ← pattern_in es
  level ← level_in es
  exposure ← exposure_in es
  iso ← sensitivity_in es
  Ok (record { pattern = pattern; level = level; exposure = exposure; iso = iso })
