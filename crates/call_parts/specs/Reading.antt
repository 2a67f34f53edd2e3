-- What a text means that is read line by line: behind its version line each line adds to what stands. (docs/FORMATS.md)
use Rattle.std.specs.Prelude.{◌≡◌, ℕ, ◌+◌, Bool, false, ◌&&◌, List, [], ◌∷◌, length, nat_lt, Option, Some, None, Result, Ok, Err, if◌then◌else◌, bytes_eq, codes, decimal}
use Rattle.std.specs.List.{list_all}
use Rattle.text_parts.specs.Causes.{number_of}
use Rattle.text_parts.specs.declared.cause.Cause.{Cause}
use Rattle.text_parts.specs.declared.cause.Cause.TheVariants.{NotAscii, Version, UnknownWord, Missing, Limit}
use Rattle.text_parts.specs.declared.cause.TextRefused.{TextRefused}
use Rattle.text_parts.specs.declared.cause.TextRefused.TheVariants.{Bad}
use Rattle.text_parts.specs.LineReading.{at_line, is_comment, is_printable, text_limit}
use Rattle.text_parts.specs.LineWords.{◌>>=◌, good, one}
use Rattle.text_parts.specs.Lines.{line_text, lines_of}
use Rattle.text_parts.specs.Numbers.{number_within}
use Rattle.text_parts.specs.Words.{loose_words}
use Rattle.call_parts.specs.Meanings.{OfMeaning}

-- A kind of text: its name, what stands behind the version line, what stands after one more line, by its first word and
-- the words behind it, and what is meant at the end, if all that it takes stands.
pub record Grammar (S X : Type 0) : Type 0 where
  pub name : List ℕ
  pub begun : S
  pub with_line : S → List ℕ → List (List ℕ) → Result S Cause
  pub meant : S → Option X

-- the version line: the name, and `1`
abbrev pub is_version : List ℕ → List (List ℕ) → Bool
is_version name (first ∷ second ∷ []) = bytes_eq first name && bytes_eq second (codes "1")
is_version name _ = false

-- What stands after a line that isn't ignored; nothing stands before the version line.
unfoldable pub after_words : {S X : Type 0} → Grammar S X → Option S → List ℕ → List (List ℕ) → Result (Option S) Cause
after_words grammar None word words =
    if is_version grammar.name (word ∷ words) then Ok (Some grammar.begun) else Err Version
after_words grammar (Some stands) word words = grammar.with_line stands word words >>= λ next. Ok (Some next)

-- a line of spaces alone, and a comment, are ignored
abbrev pub after_line : {S X : Type 0} → Grammar S X → Option S → List (List ℕ) → Result (Option S) Cause
after_line grammar before [] = Ok before
after_line grammar before (word ∷ words) =
    if is_comment word then Ok before else after_words grammar before word words

-- What stands after a line. The causes of one line are tried in the order of their numbers.
unfoldable pub after : {S X : Type 0} → Grammar S X → Option S → List ℕ → Result (Option S) Cause
after grammar before line =
    if list_all is_printable line then after_line grammar before (loose_words line) else Err NotAscii

-- what stands at the end of a text, of which n is the number that a next line would have
abbrev pub meant_by : {X : Type 0} → ℕ → Option X → Result X TextRefused
meant_by n (Some x) = Ok x
meant_by n None = Err (Bad n Missing)

abbrev pub at_end : {S X : Type 0} → Grammar S X → ℕ → Option S → Result X TextRefused
at_end grammar n (Some stands) = meant_by n (grammar.meant stands)
at_end grammar n None = Err (Bad n Version)

-- the lines from number n on, after what stands before them
unfoldable pub text_from : {S X : Type 0} → Grammar S X → Option S → ℕ → List (List ℕ) → Result X TextRefused
text_from grammar before n [] = at_end grammar n before
text_from grammar before n (line ∷ lines) =
    at_line n (after grammar before line) (λ next. text_from grammar next (n + 1) lines)

-- what a text means, or the first line that has a cause, with the first of its causes
unfoldable pub text_of : {S X : Type 0} → Grammar S X → List ℕ → Result X TextRefused
text_of grammar text =
    if nat_lt text_limit (length text) then Err (Bad 0 Limit) else text_from grammar None 1 (lines_of text)

-- a line of a name and one number from the least to the greatest
abbrev pub named_number : List ℕ → ℕ → ℕ → List ℕ → List (List ℕ) → Result ℕ Cause
named_number name least greatest word words =
    if bytes_eq word name then one (number_within least greatest) words else Err UnknownWord

-- two numbers, the first one up to its greatest and the second one from 1 to its greatest
unfoldable pub two_numbers : ℕ → ℕ → List (List ℕ) → Result (ℕ × ℕ) Cause
two_numbers first second [] = Err Missing
two_numbers first second (word ∷ words) = do
  m ← good (number_within 0 first word)
  n ← one (number_within 1 second) words
  Ok (m, n)

-- `refused NAME LINE CAUSE`
abbrev pub refused_line : List ℕ → ℕ → Cause → List ℕ
refused_line name line cause =
    line_text (codes "refused" ∷ name ∷ decimal line ∷ decimal (number_of cause) ∷ [])

-- the status and the whole text that belong to an input that is read as such a text: 0 and one that is told of what it
-- means, or 1 and the line that refuses it
abbrev pub OfText : {S X : Type 0} → Grammar S X → (X → List ℕ → Type 0) → List ℕ → ℕ → List ℕ → Type 0
OfText grammar IsTold input status text =
    OfMeaning (refused_line grammar.name) (λ x number told. (number ≡ 0) × IsTold x told) (text_of grammar input) status text
