-- The partial results of a frame as packed lists.
use Rattle.std.specs.Prelude.{ℕ, ◌<◌, ◌^◌, ◌==◌, if◌then◌else◌, List, [], ◌∷◌, length, Option, Some, None}
use Rattle.cam_types.specs.Metadata.{pattern_tag, level_tag, exposure_tag, sensitivity_tag, timestamp_tag}
use Rattle.cam_types.specs.declared.partial_result.PartialResult.{PartialResult}
use Rattle.cam_types.specs.declared.partial_result.PartialResult.TheVariants.{Look, Light, Time}
use Rattle.metadata.specs.declared.entry.Entry.{Entry}
use Rattle.metadata.specs.Entries.{values_at}
use Rattle.metadata.specs.Numbers.{one_byte, one_int32, one_int64, byte_entry, int32_entry, int64_entry}

-- which part of the frame's metadata it is
abbrev pub part_number : PartialResult → ℕ
part_number (Look _ _) = 1
part_number (Light _ _) = 2
part_number (Time _) = 3

abbrev pub part_entries : PartialResult → List Entry
part_entries (Look pattern level) = byte_entry pattern_tag pattern ∷ int32_entry level_tag level ∷ []
part_entries (Light exposure iso) = int64_entry exposure_tag exposure ∷ int32_entry sensitivity_tag iso ∷ []
part_entries (Time timestamp) = int64_entry timestamp_tag timestamp ∷ []

-- its numbers are those that an INT32 or an INT64 can have
abbrev pub PartFits : PartialResult → Type 0
PartFits (Look pattern level) = level < 2 ^ 31
PartFits (Light exposure iso) = (exposure < 2 ^ 63) × (iso < 2 ^ 31)
PartFits (Time timestamp) = timestamp < 2 ^ 63

abbrev pub PatternFits : PartialResult → Type 0
PatternFits (Look pattern level) = pattern < 2 ^ 8
PatternFits _ = Unit {0}

infixl 10 ◌>>=◌
abbrev pub ◌>>=◌ : {A B : Type 0} → Option A → (A → Option B) → Option B
(Some x) >>= f = f x
None >>= f = None

-- the parts whose entries a list of so many has
abbrev pub look_in : List Entry → Option PartialResult
look_in es = do
  pattern ← one_byte (values_at pattern_tag es)
  level ← one_int32 (values_at level_tag es)
  if length es == 2 then Some (Look pattern level) else None

abbrev pub light_in : List Entry → Option PartialResult
light_in es = do
  exposure ← one_int64 (values_at exposure_tag es)
  iso ← one_int32 (values_at sensitivity_tag es)
  if length es == 2 then Some (Light exposure iso) else None

abbrev pub time_in : List Entry → Option PartialResult
time_in es = do
  timestamp ← one_int64 (values_at timestamp_tag es)
  if length es == 1 then Some (Time timestamp) else None

-- part k, where the entries are that part's and no others
unfoldable pub part_in : ℕ → List Entry → Option PartialResult
part_in k es = if k == 1 then look_in es else (if k == 2 then light_in es else (if k == 3 then time_in es else None))
