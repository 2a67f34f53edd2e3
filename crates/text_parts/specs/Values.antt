-- Words that stand for values in every text. (docs/FORMATS.md, script text)
use Rattle.std.specs.Prelude.{ℕ, ◌^◌, List, [], ◌∷◌, Option, Some, None}
use Rattle.cam_types.specs.declared.item.Settings.{Settings}
use Rattle.text_parts.specs.Cuts.{in_four}
use Rattle.text_parts.specs.Numbers.{number_below}

-- the second value, where the first is there
infixl 10 ◌>>=◌
abbrev pub ◌>>=◌ : {A B : Type 0} → Option A → (A → Option B) → Option B
None >>= f = None
(Some x) >>= f = f x

-- the values of words, where each has one
abbrev pub all_of : {A : Type 0} → (List ℕ → Option A) → List (List ℕ) → Option (List A)
all_of read [] = Some []
all_of read (word ∷ words) = do
  x ← read word
  xs ← all_of read words
  Some (x ∷ xs)

-- a number of 32 bits
abbrev pub number : List ℕ → Option ℕ
number word = number_below (2 ^ 32) word

-- `PATTERN,LEVEL,EXPOSURE,ISO`: 44 is `,`
unfoldable pub four_numbers : List ℕ → Option Settings
four_numbers word = do
  parts ← in_four 44 word
  pattern ← number_below (2 ^ 8) parts.0
  level ← number_below (2 ^ 31) parts.1
  exposure ← number_below (2 ^ 63) parts.2
  iso ← number_below (2 ^ 31) parts.3
  Some (record { pattern = pattern; level = level; exposure = exposure; iso = iso })
