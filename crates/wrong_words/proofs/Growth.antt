-- Each line of a text that is read adds what it means, and stands at its place.
use Rattle.std.proofs.Common.{◌≡◌, ℕ, ◌+◌, Bool, true, false, List, [], ◌∷◌, ◌++◌, Option, Some, None, Result, Ok, Err, ap, sym, refl, ◌∙◌, cond, map, not}
use Rattle.std.specs.List.{flat_map, list_all}
use Rattle.std.proofs.lemmas.List.{append-nil, append_assoc, map-append}
use Rattle.cam_types.specs.declared.script.Command.{Command}
use Rattle.std.proofs.lemmas.Bool.Decides.{Decides-eqb}
use Rattle.cam_types.specs.declared.script.Script.{Script}
use Rattle.text_parts.specs.LineReading.{at_line, is_comment, is_printable}
use Rattle.text_parts.specs.Values.{all_of, number}
use Rattle.text_parts.specs.LineWords.{◌>>=◌, good, picks_of}
use Rattle.text_parts.specs.declared.cause.Cause.{Cause}
use Rattle.text_parts.specs.declared.cause.TextRefused.{TextRefused}
use Rattle.text_parts.specs.declared.cause.Cause.TheVariants.{FaultAfterCommand, Limit, NotAscii}
use Rattle.script_text.specs.Grammar.{Begun, added, after, after_line, after_words, closed, counts_within, is_late, script_from, then_added, with_line}
use Rattle.script_text.specs.Lines.{Line, EarlyLine, DeviceLine, line_of}
use Rattle.text_parts.specs.Words.{loose_words}
use Rattle.wrong_words.specs.Places.{have_kind, is_of_kind, kind_lines, numbered, numbers_of, picks_in}
use Rattle.wrong_words.specs.declared.kind.LineKind.{LineKind}
use Rattle.wrong_words.specs.declared.kind.LineKind.TheVariants as kind
use Rattle.wrong_words.specs.Laws.{command_meant, fault_meant, meaning, pick_meant, words_meaning}
use Rattle.wrong_words.proofs.Words.{Begins, IsCommand, IsDevice, IsEarly, IsFault, IsPick, Shape, comment_begins, shape_of}

-- ---- of which kind a line is

-- the line is of these kinds
pub record Kinds (f c p : Bool) (line : List ℕ) : Type 0 where
  pub fault : is_of_kind kind.Fault line ≡ f
  pub command : is_of_kind kind.Command line ≡ c
  pub pick : is_of_kind kind.Pick line ≡ p

pub kinds_by : {f c p : Bool} (line word : List ℕ) (words : List (List ℕ)) → loose_words line ≡ word ∷ words → Begins f c p word → Kinds f c p line
kinds_by line word words is b = record {
  fault = ap (have_kind kind.Fault) is ∙ b.fault;
  command = ap (have_kind kind.Command) is ∙ b.command;
  pick = ap (have_kind kind.Pick) is ∙ b.pick;
}

pub no_kinds : (line : List ℕ) → loose_words line ≡ [] → Kinds false false false line
no_kinds line is = record {
  fault = ap (have_kind kind.Fault) is;
  command = ap (have_kind kind.Command) is;
  pick = ap (have_kind kind.Pick) is;
}

none_of : (k : LineKind) (v n : ℕ) (line : List ℕ) → is_of_kind k line ≡ false → map (meaning v) (kind_lines k n (line ∷ [])) ≡ []
none_of k v n line h = rw h refl

one_of : (k : LineKind) (v n : ℕ) (line : List ℕ) (x : Result Line Cause) → is_of_kind k line ≡ true → meaning v (n, line) ≡ x → map (meaning v) (kind_lines k n (line ∷ [])) ≡ x ∷ []
one_of k v n line x h m = rw h (ap (λ (z : Result Line Cause). z ∷ []) m)

no_picks : (n : ℕ) (line : List ℕ) → is_of_kind kind.Pick line ≡ false → map pick_meant (numbers_of (n, line)) ≡ []
no_picks n line h = rw h refl

with_none : {A : Type 0} (xs ys zs : List A) → ys ≡ xs → zs ≡ [] → ys ≡ xs ++ zs
with_none {A} xs ys zs same none = same ∙ (sym (append-nil xs) ∙ ap (λ (z : List A). xs ++ z) (sym none))

-- ---- what one line adds

pub record Adds (v n : ℕ) (line : List ℕ) (b c : Begun) : Type 0 where
  pub version : c.script.version ≡ b.script.version
  pub faults : map fault_meant c.script.faults ≡ map fault_meant b.script.faults ++ map (meaning v) (kind_lines kind.Fault n (line ∷ []))
  pub commands : map command_meant c.script.commands ≡ map command_meant b.script.commands ++ map (meaning v) (kind_lines kind.Command n (line ∷ []))
  pub picks : map Some c.script.picks ≡ map Some b.script.picks ++ map pick_meant (numbers_of (n, line))

-- nothing of the three
adds_none : (v n : ℕ) (line : List ℕ) (b c : Begun) → c.script.version ≡ b.script.version → c.script.faults ≡ b.script.faults → c.script.commands ≡ b.script.commands → c.script.picks ≡ b.script.picks → Kinds false false false line → Adds v n line b c
adds_none v n line b c version faults commands picks k = record {
  version = version;
  faults = with_none (map fault_meant b.script.faults) (map fault_meant c.script.faults) (map (meaning v) (kind_lines kind.Fault n (line ∷ []))) (ap (map fault_meant) faults) (none_of kind.Fault v n line k.fault);
  commands = with_none (map command_meant b.script.commands) (map command_meant c.script.commands) (map (meaning v) (kind_lines kind.Command n (line ∷ []))) (ap (map command_meant) commands) (none_of kind.Command v n line k.command);
  picks = with_none (map Some b.script.picks) (map Some c.script.picks) (map pick_meant (numbers_of (n, line))) (ap (map Some) picks) (no_picks n line k.pick);
}

-- the numbers of words that all have one
some_step : (word : List ℕ) (words : List (List ℕ)) (numbers : List ℕ) (o : Option ℕ) (os : Option (List ℕ)) → number word ≡ o → all_of number words ≡ os → all_of number (word ∷ words) ≡ Some numbers → ((ns : List ℕ) → all_of number words ≡ Some ns → map number words ≡ map Some ns) → map number (word ∷ words) ≡ map Some numbers
some_step word words numbers None os is all h ih =
    let e : all_of number (word ∷ words) ≡ None = rw is refl in absurd (cc)
some_step word words numbers (Some x) None is all h ih =
    let e : all_of number (word ∷ words) ≡ None = rw (is, all) refl in absurd (cc)
some_step word words numbers (Some x) (Some xs) is all h ih =
    let e : all_of number (word ∷ words) ≡ Some (x ∷ xs) = rw (is, all) refl in
    let two : Some (x ∷ xs) ≡ Some numbers = sym e ∙ h in
    let same : x ∷ xs ≡ numbers = cc in
    rw (← same) (ap (λ (z : Option ℕ). z ∷ map number words) is ∙ ap (λ (zs : List (Option ℕ)). Some x ∷ zs) (ih xs all))

all_some : (words : List (List ℕ)) (numbers : List ℕ) → all_of number words ≡ Some numbers → map number words ≡ map Some numbers
all_some [] numbers h =
    let same : [] ≡ numbers = cc in rw (← same) refl
all_some (word ∷ words) numbers h =
    some_step word words numbers (number word) (all_of number words) refl refl h (all_some words)

good_some : (o : Option (List ℕ)) (numbers : List ℕ) → good o ≡ Ok numbers → o ≡ Some numbers
good_some None numbers h = absurd (cc)
good_some (Some xs) numbers h = let e : xs ≡ numbers = cc in ap Some e

picks_some : (words : List (List ℕ)) (picks : List ℕ) → picks_of words ≡ Ok picks → map number words ≡ map Some picks
unfolding picks_of
picks_some [] picks h = absurd (cc)
picks_some (word ∷ words) picks h = all_some (word ∷ words) picks (good_some (all_of number (word ∷ words)) picks h)

pick_words : (n : ℕ) (words : List (List ℕ)) → map pick_meant (map (λ (w : List ℕ). (n, w)) words) ≡ map number words
pick_words n [] = refl
pick_words n (w ∷ words) = ap (λ (zs : List (Option ℕ)). number w ∷ zs) (pick_words n words)

drop_first : (word : List ℕ) (words : List (List ℕ)) (line : List ℕ) → loose_words line ≡ word ∷ words → is_of_kind kind.Pick line ≡ true → picks_in line ≡ words
drop_first word words line is h = rw h (rw is refl)

told_picks : (n : ℕ) (line word : List ℕ) (words : List (List ℕ)) (picks : List ℕ) → loose_words line ≡ word ∷ words → is_of_kind kind.Pick line ≡ true → picks_of words ≡ Ok picks → map pick_meant (numbers_of (n, line)) ≡ map Some picks
told_picks n line word words picks is h p =
    ap (λ (ws : List (List ℕ)). map pick_meant (map (λ (w : List ℕ). (n, w)) ws)) (drop_first word words line is h)
    ∙ (pick_words n words ∙ picks_some words picks p)

-- a line that isn't ignored, by its shape
shape_adds : (v n : ℕ) (line word : List ℕ) (words : List (List ℕ)) (b : Begun) (l : Line) → loose_words line ≡ word ∷ words → line_of v word words ≡ Ok l → Shape word words l → Adds v n line b (with_line b l)
shape_adds v n line word words b l is m (IsFault fault begun) =
    let k = kinds_by line word words is begun in
    let meant : meaning v (n, line) ≡ fault_meant fault = ap (words_meaning v) is ∙ m in
    record {
      version = refl;
      faults = map-append fault_meant b.script.faults (fault ∷ []) ∙ ap (λ (z : List (Result Line Cause)). map fault_meant b.script.faults ++ z) (sym (one_of kind.Fault v n line (fault_meant fault) k.fault meant));
      commands = with_none (map command_meant b.script.commands) (map command_meant b.script.commands) (map (meaning v) (kind_lines kind.Command n (line ∷ []))) refl (none_of kind.Command v n line k.command);
      picks = with_none (map Some b.script.picks) (map Some b.script.picks) (map pick_meant (numbers_of (n, line))) refl (no_picks n line k.pick);
    }
shape_adds v n line word words b l is m (IsCommand command begun) =
    let k = kinds_by line word words is begun in
    let meant : meaning v (n, line) ≡ command_meant command = ap (words_meaning v) is ∙ m in
    record {
      version = refl;
      faults = with_none (map fault_meant b.script.faults) (map fault_meant b.script.faults) (map (meaning v) (kind_lines kind.Fault n (line ∷ []))) refl (none_of kind.Fault v n line k.fault);
      commands = map-append command_meant b.script.commands (command ∷ []) ∙ ap (λ (z : List (Result Line Cause)). map command_meant b.script.commands ++ z) (sym (one_of kind.Command v n line (command_meant command) k.command meant));
      picks = with_none (map Some b.script.picks) (map Some b.script.picks) (map pick_meant (numbers_of (n, line))) refl (no_picks n line k.pick);
    }
shape_adds v n line word words b l is m (IsPick picks begun read) =
    let k = kinds_by line word words is begun in
    record {
      version = refl;
      faults = with_none (map fault_meant b.script.faults) (map fault_meant b.script.faults) (map (meaning v) (kind_lines kind.Fault n (line ∷ []))) refl (none_of kind.Fault v n line k.fault);
      commands = with_none (map command_meant b.script.commands) (map command_meant b.script.commands) (map (meaning v) (kind_lines kind.Command n (line ∷ []))) refl (none_of kind.Command v n line k.command);
      picks = map-append Some b.script.picks picks ∙ ap (λ (z : List (Option ℕ)). map Some b.script.picks ++ z) (sym (told_picks n line word words picks is k.pick read));
    }
shape_adds v n line word words b l is m (IsEarly begun) =
    adds_none v n line b (with_line b EarlyLine) refl refl refl refl (kinds_by line word words is begun)
shape_adds v n line word words b l is m (IsDevice profile begun) =
    adds_none v n line b (with_line b (DeviceLine profile)) refl refl refl refl (kinds_by line word words is begun)

-- ---- what stands after a line

abbrev added_by : Bool → Bool → Begun → Result Begun Cause
added_by few late b = cond few (Err Limit) (cond late (Err FaultAfterCommand) (Ok b))

pub added_is : (before : Begun) (line : Line) → added before line ≡ added_by (not (counts_within (with_line before line))) (is_late before line) (with_line before line)
unfolding added
added_is before line = refl

by_same : (few late : Bool) (b c : Begun) → added_by few late b ≡ Ok c → b ≡ c
by_same true late b c h = absurd (cc)
by_same false true b c h = absurd (cc)
by_same false false b c h = cc

added_same : (before : Begun) (line : Line) (c : Begun) → added before line ≡ Ok c → with_line before line ≡ c
added_same before line c h =
    by_same (not (counts_within (with_line before line))) (is_late before line) (with_line before line) c (sym (added_is before line) ∙ h)

-- what stands after the line, and that it adds what the line means
pub record Grows (v n : ℕ) (line : List ℕ) (b : Begun) (next : Option Begun) : Type 0 where
  pub after : Begun
  pub is : next ≡ Some after
  pub adds : Adds v n line b after

line_grows : (v n : ℕ) (line word : List ℕ) (words : List (List ℕ)) (b c : Begun) (r : Result Line Cause) → loose_words line ≡ word ∷ words → line_of v word words ≡ r → then_added b r ≡ Ok c → Adds v n line b c
line_grows v n line word words b c (Ok l) is m h =
    rw (← added_same b l c h) (shape_adds v n line word words b l is m (shape_of v word words l m))
line_grows v n line word words b c (Err cause) is m h = absurd (cc)

some_of : (v n : ℕ) (line : List ℕ) (b : Begun) (next : Option Begun) (r : Result Begun Cause) → (r >>= λ c. Ok (Some c)) ≡ Ok next → ((c : Begun) → r ≡ Ok c → Adds v n line b c) → Grows v n line b next
some_of v n line b next (Ok c) h adds = record { after = c; is = cc; adds = adds c refl }
some_of v n line b next (Err cause) h adds = absurd (cc)

words_grow : (v n : ℕ) (line word : List ℕ) (words : List (List ℕ)) (b : Begun) (next : Option Begun) → b.script.version ≡ v → loose_words line ≡ word ∷ words → after_words (Some b) word words ≡ Ok next → Grows v n line b next
unfolding after_words
words_grow v n line word words b next version is h =
    some_of v n line b next (then_added b (line_of b.script.version word words)) h
    (λ c e. line_grows v n line word words b c (line_of b.script.version word words) is (ap (λ (u : ℕ). line_of u word words) (sym version)) e)

comment_adds : (v n : ℕ) (line word : List ℕ) (words : List (List ℕ)) (b : Begun) → loose_words line ≡ word ∷ words → is_comment word ≡ true → Adds v n line b b
comment_adds v n line [] words b is h = absurd (cc)
comment_adds v n line (x ∷ bs) words b is h =
    let e : x ≡ 35 = (Decides-eqb x 35).0 h in
    let is' : loose_words line ≡ (35 ∷ bs) ∷ words = is ∙ ap (λ (z : ℕ). (z ∷ bs) ∷ words) e in
    adds_none v n line b b refl refl refl refl (kinds_by line (35 ∷ bs) words is' (comment_begins bs))

unless_comment : (comment : Bool) (v n : ℕ) (line word : List ℕ) (words : List (List ℕ)) (b : Begun) (next : Option Begun) → b.script.version ≡ v → loose_words line ≡ word ∷ words → is_comment word ≡ comment → cond comment (Ok (Some b)) (after_words (Some b) word words) ≡ Ok next → Grows v n line b next
unless_comment true v n line word words b next version is c h = record { after = b; is = cc; adds = comment_adds v n line word words b is c }
unless_comment false v n line word words b next version is c h = words_grow v n line word words b next version is h

by_words : (words : List (List ℕ)) (v n : ℕ) (line : List ℕ) (b : Begun) (next : Option Begun) → b.script.version ≡ v → loose_words line ≡ words → after_line (Some b) words ≡ Ok next → Grows v n line b next
by_words [] v n line b next version is h =
    record { after = b; is = cc; adds = adds_none v n line b b refl refl refl refl (no_kinds line is) }
by_words (word ∷ words) v n line b next version is h = unless_comment (is_comment word) v n line word words b next version is refl h

when_printable : (printable : Bool) (v n : ℕ) (line : List ℕ) (b : Begun) (next : Option Begun) → b.script.version ≡ v → cond printable (after_line (Some b) (loose_words line)) (Err NotAscii) ≡ Ok next → Grows v n line b next
when_printable true v n line b next version h = by_words (loose_words line) v n line b next version refl h
when_printable false v n line b next version h = absurd (cc)

pub line_adds : (v n : ℕ) (line : List ℕ) (b : Begun) (next : Option Begun) → b.script.version ≡ v → after (Some b) line ≡ Ok next → Grows v n line b next
unfolding after
line_adds v n line b next version h = when_printable (list_all is_printable line) v n line b next version h

-- ---- all lines

split_by : {A : Type 0} (b : Bool) (x : A) (xs : List A) → cond b (x ∷ xs) xs ≡ cond b (x ∷ []) [] ++ xs
split_by true x xs = refl
split_by false x xs = refl

split : (k : LineKind) (v n : ℕ) (line : List ℕ) (lines : List (List ℕ)) → map (meaning v) (kind_lines k n (line ∷ lines)) ≡ map (meaning v) (kind_lines k n (line ∷ [])) ++ map (meaning v) (kind_lines k (n + 1) lines)
split k v n line lines =
    ap (map (meaning v)) (split_by (is_of_kind k line) (n, line) (kind_lines k (n + 1) lines))
    ∙ map-append (meaning v) (kind_lines k n (line ∷ [])) (kind_lines k (n + 1) lines)

split_picks : (n : ℕ) (line : List ℕ) (lines : List (List ℕ)) → map pick_meant (flat_map numbers_of (numbered n (line ∷ lines))) ≡ map pick_meant (numbers_of (n, line)) ++ map pick_meant (flat_map numbers_of (numbered (n + 1) lines))
split_picks n line lines = map-append pick_meant (numbers_of (n, line)) (flat_map numbers_of (numbered (n + 1) lines))

joined : {A : Type 0} (bs cs xs ys zs all : List A) → cs ≡ bs ++ xs → zs ≡ xs ++ ys → cs ++ ys ≡ all → bs ++ zs ≡ all
joined {A} bs cs xs ys zs all adds parts rest =
    ap (λ (z : List A). bs ++ z) parts ∙ (sym (append_assoc bs xs ys) ∙ (ap (λ (z : List A). z ++ ys) (sym adds) ∙ rest))

-- what the lines from number n on add to a script, which is read then
pub record Grown (v n : ℕ) (lines : List (List ℕ)) (b : Begun) (script : Script) : Type 0 where
  pub version : script.version ≡ v
  pub faults : map fault_meant b.script.faults ++ map (meaning v) (kind_lines kind.Fault n lines) ≡ map fault_meant script.faults
  pub written : List Command
  pub commands : map command_meant b.script.commands ++ map (meaning v) (kind_lines kind.Command n lines) ≡ map command_meant written
  pub all : script.commands ≡ closed written
  pub picks : map Some b.script.picks ++ map pick_meant (flat_map numbers_of (numbered n lines)) ≡ map Some script.picks

grown_end : (v n : ℕ) (b : Begun) → b.script.version ≡ v → Grown v n [] b (record b.script { commands = closed b.script.commands })
grown_end v n b version = record {
  version = version;
  faults = append-nil (map fault_meant b.script.faults);
  written = b.script.commands;
  commands = append-nil (map command_meant b.script.commands);
  all = refl;
  picks = append-nil (map Some b.script.picks);
}

grown_more : (v n : ℕ) (line : List ℕ) (lines : List (List ℕ)) (b c : Begun) (script : Script) → Adds v n line b c → Grown v (n + 1) lines c script → Grown v n (line ∷ lines) b script
grown_more v n line lines b c script adds rest = record {
  version = rest.version;
  faults = joined (map fault_meant b.script.faults) (map fault_meant c.script.faults) (map (meaning v) (kind_lines kind.Fault n (line ∷ []))) (map (meaning v) (kind_lines kind.Fault (n + 1) lines)) (map (meaning v) (kind_lines kind.Fault n (line ∷ lines))) (map fault_meant script.faults) adds.faults (split kind.Fault v n line lines) rest.faults;
  written = rest.written;
  commands = joined (map command_meant b.script.commands) (map command_meant c.script.commands) (map (meaning v) (kind_lines kind.Command n (line ∷ []))) (map (meaning v) (kind_lines kind.Command (n + 1) lines)) (map (meaning v) (kind_lines kind.Command n (line ∷ lines))) (map command_meant rest.written) adds.commands (split kind.Command v n line lines) rest.commands;
  all = rest.all;
  picks = joined (map Some b.script.picks) (map Some c.script.picks) (map pick_meant (numbers_of (n, line))) (map pick_meant (flat_map numbers_of (numbered (n + 1) lines))) (map pick_meant (flat_map numbers_of (numbered n (line ∷ lines)))) (map Some script.picks) adds.picks (split_picks n line lines) rest.picks;
}

read_same : (x y : Script) → ◌≡◌ {A = Result Script TextRefused} (Ok x) (Ok y) → x ≡ y
read_same x y h = cc

go : (r : Result (Option Begun) Cause) (v n : ℕ) (line : List ℕ) (lines : List (List ℕ)) (b : Begun) (script : Script) → b.script.version ≡ v → after (Some b) line ≡ r → at_line n r (λ next. script_from next (n + 1) lines) ≡ Ok script → ((c : Begun) → c.script.version ≡ v → script_from (Some c) (n + 1) lines ≡ Ok script → Grown v (n + 1) lines c script) → Grown v n (line ∷ lines) b script
go (Err cause) v n line lines b script version is h ih = absurd (cc)
go (Ok next) v n line lines b script version is h ih =
    let g = line_adds v n line b next version is in
    let read : script_from (Some g.after) (n + 1) lines ≡ Ok script = ap (λ (o : Option Begun). script_from o (n + 1) lines) (sym g.is) ∙ h in
    grown_more v n line lines b g.after script g.adds (ih g.after (g.adds.version ∙ version) read)

pub grown : (lines : List (List ℕ)) (v n : ℕ) (b : Begun) (script : Script) → b.script.version ≡ v → script_from (Some b) n lines ≡ Ok script → Grown v n lines b script
unfolding script_from
grown [] v n b script version h =
    rw (← read_same (record b.script { commands = closed b.script.commands }) script h) (grown_end v n b version)
grown (line ∷ lines) v n b script version h =
    go (after (Some b) line) v n line lines b script version refl h (λ c same read. grown lines v (n + 1) c script same read)
