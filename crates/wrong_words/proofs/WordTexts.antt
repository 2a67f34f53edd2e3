-- A script that is refused for a bad word has a line with one.
use Rattle.std.proofs.Common.{◌≡◌, ℕ, Bool, true, false, List, [], ◌∷◌, Option, Some, None, Result, Ok, Err, ap, sym, ◌∙◌, cond, is_some, not}
use Rattle.std.specs.List.{list_all}
use Rattle.text_parts.specs.LineReading.{is_comment, is_printable}
use Rattle.text_parts.specs.declared.cause.Cause.{Cause}
use Rattle.text_parts.specs.declared.cause.Cause.TheVariants.{BadNumber, FaultAfterCommand, Limit, NotAscii}
use Rattle.script_text.specs.Grammar.{Begun, added, after, after_line, after_words, counts_within, first_line, is_late, then_added, version_of, with_line}
use Rattle.script_text.specs.Lines.{Line, line_of}
use Rattle.text_parts.specs.Words.{loose_words}
use Rattle.wrong_words.specs.WordPlaces.{script_wrong, wrong_in_script}
use Rattle.wrong_words.proofs.Bad.{bad_line, bad_before}
use Rattle.wrong_words.proofs.Growth.{added_is}

abbrev added_by : Bool → Bool → Begun → Result Begun Cause
added_by few late b = cond few (Err Limit) (cond late (Err FaultAfterCommand) (Ok b))

by_fine : (few late : Bool) (b : Begun) → added_by few late b ≡ Err BadNumber → ⊥
by_fine true late b h = cc
by_fine false true b h = cc
by_fine false false b h = cc

added_fine : (before : Begun) (line : Line) → added before line ≡ Err BadNumber → ⊥
added_fine before line h =
    by_fine (not (counts_within (with_line before line))) (is_late before line) (with_line before line) (sym (added_is before line) ∙ h)

line_bad : (before : Begun) (r : Result Line Cause) → then_added before r ≡ Err BadNumber → r ≡ Err BadNumber
line_bad before (Ok line) h = absurd (added_fine before line h)
line_bad before (Err c) h = let e : c ≡ BadNumber = cc in ap Err e

first_fine : (o : Option ℕ) → first_line o ≡ Err BadNumber → ⊥
first_fine None h = cc
first_fine (Some version) h = cc

words_wrong : (before : Option Begun) (word : List ℕ) (words : List (List ℕ)) → after_words before word words ≡ Err BadNumber → is_some (script_wrong (word ∷ words)) ≡ true
unfolding after_words
words_wrong None word words h = absurd (first_fine (version_of (word ∷ words)) h)
words_wrong (Some b) word words h =
    bad_line b.script.version word words (line_bad b (line_of b.script.version word words) (bad_before (then_added b (line_of b.script.version word words)) Some h))

unless_comment : (comment : Bool) (before : Option Begun) (word : List ℕ) (words : List (List ℕ)) → cond comment (Ok before) (after_words before word words) ≡ Err BadNumber → is_some (script_wrong (word ∷ words)) ≡ true
unless_comment true before word words h = absurd (cc)
unless_comment false before word words h = words_wrong before word words h

line_wrong : (before : Option Begun) (words : List (List ℕ)) → after_line before words ≡ Err BadNumber → is_some (script_wrong words) ≡ true
line_wrong before [] h = absurd (cc)
line_wrong before (word ∷ words) h = unless_comment (is_comment word) before word words h

when_printable : (printable : Bool) (before : Option Begun) (line : List ℕ) → cond printable (after_line before (loose_words line)) (Err NotAscii) ≡ Err BadNumber → is_some (script_wrong (loose_words line)) ≡ true
when_printable true before line h = line_wrong before (loose_words line) h
when_printable false before line h = absurd (cc)

-- a line that is refused for a bad word, after whatever stands before it
pub bad_word : (before : Option Begun) (line : List ℕ) → after before line ≡ Err BadNumber → is_some (wrong_in_script line) ≡ true
unfolding after wrong_in_script
bad_word before line h = when_printable (list_all is_printable line) before line h
