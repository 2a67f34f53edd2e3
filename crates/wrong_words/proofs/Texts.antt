-- The lines of a text that is read are those of its script.
use Rattle.std.proofs.Common.{◌≡◌, ℕ, ◌+◌, Bool, true, false, List, [], ◌∷◌, Option, Some, None, Result, Ok, Err, ap, refl, ◌∙◌, cond, length, map, codes}
use Rattle.std.specs.List.{flat_map, list_all}
use Rattle.std.specs.Prelude.{nat_lt}
use Rattle.std.specs.Str.{bytes_eq}
use Rattle.std.proofs.lemmas.Slice.Eq.{bytes_eq-Decides}
use Rattle.std.proofs.lemmas.Bool.Decides.{Decides-eqb}
use Rattle.cam_types.specs.declared.script.Script.{Script}
use Rattle.text_parts.specs.LineReading.{at_line, is_comment, is_printable, text_limit}
use Rattle.text_parts.specs.declared.cause.Cause.{Cause}
use Rattle.text_parts.specs.declared.cause.Cause.TheVariants.{Limit, NotAscii}
use Rattle.text_parts.specs.declared.cause.TextRefused.TheVariants.{Bad}
use Rattle.script_text.specs.Grammar.{Begun, after, after_line, after_words, empty, first_line, script_from, script_of, version_of}
use Rattle.text_parts.specs.Lines.{lines_of}
use Rattle.text_parts.specs.Words.{loose_words}
use Rattle.wrong_words.specs.Places.{kind_lines, numbered, numbers_of, picks_of}
use Rattle.wrong_words.specs.declared.kind.LineKind.{LineKind}
use Rattle.wrong_words.specs.declared.kind.LineKind.TheVariants as kind
use Rattle.wrong_words.specs.Laws.{StandsIn, meaning, pick_meant}
use Rattle.wrong_words.proofs.Growth.{Grown, Kinds, grown, kinds_by, no_kinds}
use Rattle.wrong_words.proofs.Words.{comment_begins, version_begins}

-- the line is of no kind, and nothing stands after it, or an empty script
data Before (line : List ℕ) : Option Begun → Type 0 where
  Nothing : Kinds false false false line → Before line None
  Begins : (v : ℕ) → Kinds false false false line → Before line (Some (empty v))

first_by : (line : List ℕ) (o : Option ℕ) (next : Option Begun) → Kinds false false false line → first_line o ≡ Ok next → Before line next
first_by line None next k h = absurd (cc)
first_by line (Some v) next k h =
    let e : Some (empty v) ≡ next = cc in rw (← e) (Begins v k)

-- a line with a version begins with `camera`
camera : (first : List ℕ) (words : List (List ℕ)) (b : Bool) (v : ℕ) → bytes_eq first (codes "camera") ≡ b → version_of (first ∷ words) ≡ Some v → first ≡ codes "camera"
camera first words true v is h = (bytes_eq-Decides first (codes "camera")).0 is
camera first [] false v is h = absurd (cc)
camera first (second ∷ []) false v is h =
    let e : version_of (first ∷ second ∷ []) ≡ None = rw is refl in absurd (cc)
camera first (second ∷ third ∷ words) false v is h = absurd (cc)

version_before : (line word : List ℕ) (words : List (List ℕ)) (o : Option ℕ) (next : Option Begun) → loose_words line ≡ word ∷ words → version_of (word ∷ words) ≡ o → first_line o ≡ Ok next → Before line next
version_before line word words None next is v h = absurd (cc)
version_before line word words (Some n) next is v h =
    let e = camera word words (bytes_eq word (codes "camera")) n refl v in
    let is' : loose_words line ≡ codes "camera" ∷ words = is ∙ ap (λ (w : List ℕ). w ∷ words) e in
    first_by line (Some n) next (kinds_by line (codes "camera") words is' version_begins) h

comment_kinds : (line word : List ℕ) (words : List (List ℕ)) → loose_words line ≡ word ∷ words → is_comment word ≡ true → Kinds false false false line
comment_kinds line [] words is h = absurd (cc)
comment_kinds line (x ∷ bs) words is h =
    let e : x ≡ 35 = (Decides-eqb x 35).0 h in
    kinds_by line (35 ∷ bs) words (is ∙ ap (λ (z : ℕ). (z ∷ bs) ∷ words) e) (comment_begins bs)

none_before : (line : List ℕ) (next : Option Begun) → Kinds false false false line → ◌≡◌ {A = Result (Option Begun) Cause} (Ok None) (Ok next) → Before line next
none_before line next k h = let e : None ≡ next = cc in rw (← e) (Nothing k)

words_before : (line word : List ℕ) (words : List (List ℕ)) (next : Option Begun) → loose_words line ≡ word ∷ words → after_words None word words ≡ Ok next → Before line next
unfolding after_words
words_before line word words next is h = version_before line word words (version_of (word ∷ words)) next is refl h

unless_comment : (comment : Bool) (line word : List ℕ) (words : List (List ℕ)) (next : Option Begun) → loose_words line ≡ word ∷ words → is_comment word ≡ comment → cond comment (Ok None) (after_words None word words) ≡ Ok next → Before line next
unless_comment true line word words next is c h = none_before line next (comment_kinds line word words is c) h
unless_comment false line word words next is c h = words_before line word words next is h

by_words : (words : List (List ℕ)) (line : List ℕ) (next : Option Begun) → loose_words line ≡ words → after_line None words ≡ Ok next → Before line next
by_words [] line next is h = none_before line next (no_kinds line is) h
by_words (word ∷ words) line next is h = unless_comment (is_comment word) line word words next is refl h

when_printable : (printable : Bool) (line : List ℕ) (next : Option Begun) → cond printable (after_line None (loose_words line)) (Err NotAscii) ≡ Ok next → Before line next
when_printable true line next h = by_words (loose_words line) line next refl h
when_printable false line next h = absurd (cc)

line_before : (line : List ℕ) (next : Option Begun) → after None line ≡ Ok next → Before line next
unfolding after
line_before line next h = when_printable (list_all is_printable line) line next h

-- ---- all lines of a text, of which n is the number of the first

record Stands (n : ℕ) (lines : List (List ℕ)) (script : Script) : Type 0 where
  v : ℕ
  first : ℕ
  rest : List (List ℕ)
  faults : (k : LineKind) (u : ℕ) → map (meaning u) (kind_lines k n lines) ≡ map (meaning u) (kind_lines k first rest)
  picks : map pick_meant (flat_map numbers_of (numbered n lines)) ≡ map pick_meant (flat_map numbers_of (numbered first rest))
  grows : Grown v first rest (empty v) script

skipped : (k : LineKind) (u n : ℕ) (line : List ℕ) (lines : List (List ℕ)) → Kinds false false false line → map (meaning u) (kind_lines k n (line ∷ lines)) ≡ map (meaning u) (kind_lines k (n + 1) lines)
skipped kind.Fault u n line lines h = rw h.fault refl
skipped kind.Command u n line lines h = rw h.command refl
skipped kind.Pick u n line lines h = rw h.pick refl

skipped_picks : (n : ℕ) (line : List ℕ) (lines : List (List ℕ)) → Kinds false false false line → map pick_meant (flat_map numbers_of (numbered n (line ∷ lines))) ≡ map pick_meant (flat_map numbers_of (numbered (n + 1) lines))
skipped_picks n line lines h = rw h.pick refl

by_next : (next : Option Begun) (n : ℕ) (line : List ℕ) (lines : List (List ℕ)) (script : Script) → Before line next → script_from next (n + 1) lines ≡ Ok script → (script_from None (n + 1) lines ≡ Ok script → Stands (n + 1) lines script) → Stands n (line ∷ lines) script
by_next next n line lines script (Nothing k) h ih =
    let s = ih h in
    record {
      v = s.v;
      first = s.first;
      rest = s.rest;
      faults = λ q u. skipped q u n line lines k ∙ s.faults q u;
      picks = skipped_picks n line lines k ∙ s.picks;
      grows = s.grows;
    }
by_next next n line lines script (Begins v k) h ih = record {
  v = v;
  first = n + 1;
  rest = lines;
  faults = λ q u. skipped q u n line lines k;
  picks = skipped_picks n line lines k;
  grows = grown lines v (n + 1) (empty v) script refl h;
}

go : (r : Result (Option Begun) Cause) (n : ℕ) (line : List ℕ) (lines : List (List ℕ)) (script : Script) → after None line ≡ r → at_line n r (λ next. script_from next (n + 1) lines) ≡ Ok script → (script_from None (n + 1) lines ≡ Ok script → Stands (n + 1) lines script) → Stands n (line ∷ lines) script
go (Err cause) n line lines script is h ih = absurd (cc)
go (Ok next) n line lines script is h ih = by_next next n line lines script (line_before line next is) h ih

stands : (lines : List (List ℕ)) (n : ℕ) (script : Script) → script_from None n lines ≡ Ok script → Stands n lines script
unfolding script_from
stands [] n script h = absurd (cc)
stands (line ∷ lines) n script h = go (after None line) n line lines script refl h (λ read. stands lines (n + 1) script read)

whole : (text : List ℕ) (script : Script) → Stands 1 (lines_of text) script → StandsIn text script
unfolding picks_of
whole text script s =
    let g = s.grows in record {
      faults = rw g.version (s.faults kind.Fault s.v ∙ g.faults);
      written = g.written;
      commands = rw g.version (s.faults kind.Command s.v ∙ g.commands);
      all = g.all;
      picks = s.picks ∙ g.picks;
    }

within : (long : Bool) (text : List ℕ) (script : Script) → cond long (Err (Bad 0 Limit)) (script_from None 1 (lines_of text)) ≡ Ok script → StandsIn text script
within true text script h = absurd (cc)
within false text script h = whole text script (stands (lines_of text) 1 script h)

pub stands_in : (text : List ℕ) (script : Script) → script_of text ≡ Ok script → StandsIn text script
unfolding script_of
stands_in text script h = within (nat_lt text_limit (length text)) text script h
