-- Which cause a line has whose words mean nothing: BadNumber comes before Missing, and Missing before Extra.
-- (docs/FORMATS.md, script text)
use Rattle.std.specs.Prelude.{ℕ, Bool, List, [], ◌∷◌, ◌++◌, length, nat_le, Option, Some, None, Result, Ok, Err, if◌then◌else◌}
use Rattle.text_parts.specs.Values.{all_of, number}
use Rattle.text_parts.specs.declared.cause.Cause.{Cause}
use Rattle.text_parts.specs.declared.cause.Cause.TheVariants.{BadNumber, Missing, Extra, Limit}

infixl 10 ◌>>=◌
abbrev pub ◌>>=◌ : {A B : Type 0} → Result A Cause → (A → Result B Cause) → Result B Cause
(Ok x) >>= f = f x
(Err cause) >>= f = Err cause

-- a word's value
abbrev pub good : {A : Type 0} → Option A → Result A Cause
good None = Err BadNumber
good (Some x) = Ok x

-- no more words
abbrev pub ends : {A : Type 0} → A → List (List ℕ) → Result A Cause
ends x [] = Ok x
ends x (word ∷ words) = Err Extra

-- one more word, with its value
abbrev pub one : {A : Type 0} → (List ℕ → Option A) → List (List ℕ) → Result A Cause
one read [] = Err Missing
one read (word ∷ words) = good (read word) >>= λ x. ends x words

-- any number of words, with their values
abbrev pub many : {A : Type 0} → (List ℕ → Option A) → List (List ℕ) → Result (List A) Cause
many read words = good (all_of read words)

-- the numbers of a `pick`, of which there is one at least
unfoldable pub picks_of : List (List ℕ) → Result (List ℕ) Cause
picks_of [] = Err Missing
picks_of (word ∷ words) = many number (word ∷ words)

-- a value within a limit
abbrev pub limited : {A : Type 0} → (A → Bool) → Result A Cause → Result A Cause
limited fits (Ok x) = if fits x then Ok x else Err Limit
limited fits (Err cause) = Err cause

-- where a limit is passed, that is the cause, unless a word behind is bad
abbrev pub past_limit : {A : Type 0} → Option A → Cause
past_limit None = BadNumber
past_limit (Some x) = Limit

-- a list behind what stands already
abbrev pub behind : {A : Type 0} → List A → Result (List A) Cause → Result (List A) Cause
behind front (Ok xs) = Ok (front ++ xs)
behind front (Err cause) = Err cause

-- so many numbers at most
abbrev pub few : ℕ → List ℕ → Bool
few limit numbers = nat_le (length numbers) limit
