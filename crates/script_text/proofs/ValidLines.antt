-- What is read is a valid script.
use Rattle.std.proofs.Common.{◌≡◌, ◌⊎◌, inl, inr, ℕ, ◌+◌, ◌^◌, Bool, true, false, ◌&&◌, not, cond, eqb, ltb, leb, List, [], ◌∷◌, ◌++◌, length, Option, None, Some, Result, Ok, Err, refl, sym, ap, ◌∙◌, arith}
use Rattle.std.specs.Prelude.{sum_by, codes, bytes_eq}
use Rattle.std.specs.List.{list_all, list_any}
use Rattle.basic_lemmas.proofs.Tests.{chosen}
use Rattle.std.proofs.lemmas.Bool.{and_parts, and_from, eqb-true}
use Rattle.std.proofs.lemmas.Bool.Decides.{nat_tests}
use Rattle.std.proofs.lemmas.List.Folds.{list_all-append, list_any-append}
use Rattle.std.proofs.lemmas.List.Sums.{sum_by-append}
use Rattle.cam_types.specs.declared.item.Item.{Item}
use Rattle.cam_types.specs.declared.script.Command.{Command}
use Rattle.cam_types.specs.declared.script.Command.TheVariants as command
use Rattle.cam_types.specs.declared.script.Fault.{Fault}
use Rattle.cam_types.specs.declared.script.Script.{Script}
use Rattle.cam_types.specs.declared.script.Word.{Word}
use Rattle.cam_types.specs.declared.script.Word.TheVariants.{Configure, Once, Burst, Repeat, Stop, Wait, Await, Flush, Close, Disconnect}
use Rattle.cam_types.specs.declared.stream.StreamSpec.{StreamSpec}
use Rattle.cam_types.specs.Script.{is_closing_command, awaited_by}
use Rattle.script_text.proofs.Fitting.{item_fits, spec_fits, command_fits, script_fits, script-both}
use Rattle.script_text.specs.Fits.{fault_typed, fits}
use Rattle.text_parts.specs.declared.cause.Cause.{Cause}
use Rattle.text_parts.specs.declared.cause.Cause.TheVariants.{NotAscii, UnknownWord, Limit, FaultAfterCommand}
use Rattle.text_parts.specs.declared.cause.TextRefused.{TextRefused}
use Rattle.text_parts.specs.declared.cause.TextRefused.TheVariants.{Bad}
use Rattle.text_parts.specs.LineReading.{is_printable, is_comment, text_limit, at_line}
use Rattle.text_parts.specs.Words.{loose_words}
use Rattle.text_parts.specs.Lines.{lines_of}
use Rattle.text_parts.specs.Values.{all_of, number}
use Rattle.script_text.specs.Values.{spec_of, item_of}
use Rattle.text_parts.specs.LineWords.{◌>>=◌, good, ends, one, picks_of}
use Rattle.script_text.specs.Lines.{Line, FaultLine, EarlyLine, DeviceLine, PickLine, CommandLine, awaited, profile_number, raw_and_yuv, device_of, frame_and_stream, fault_of, command_of, fault_line, early_line, device_line, pick_line, command_line, other_line, line_of}
use Rattle.text_parts.specs.CommandWords.{command_word}
use Rattle.cam_types.specs.Profile.{is_profile, is_profile_number, profile_fits}
use Rattle.cam_types.specs.declared.profile.Profile.{Profile}
use Rattle.text_parts.proofs.Spelled.{number-below, number-within}
use Rattle.script_text.specs.Within.{item_within, within}
use Rattle.script_text.specs.Grammar.{closed, Begun, empty, counts_within, script_within, with_line, is_late, version_number, version_of, first_line, added, then_added, after_words, after_line, after, at_end, script_from, script_of}
use Rattle.script_text.proofs.Valid.{spec-fits, all-fit, item-fits, is_u32}

-- ---- steps that gave a value

ok-step : {A B : Type 0} (r : Result A Cause) (f : A → Result B Cause) (y : B) → (r >>= f) ≡ Ok y → (x : A) × (r ≡ Ok x) × (f x ≡ Ok y)
ok-step (Ok x) f y h = (x, refl, h)
ok-step (Err c) f y h = absurd (cc)

good-ok : (o : Option ℕ) (n : ℕ) → good o ≡ Ok n → o ≡ Some n
good-ok None n h = absurd (cc)
good-ok (Some x) n h = let e : x ≡ n = cc in ap Some e

ends-ok : {A : Type 0} (x y : A) (words : List (List ℕ)) → ends x words ≡ Ok y → x ≡ y
ends-ok x y [] h = cc
ends-ok x y (word ∷ words) h = absurd (cc)

-- ---- commands

configure-step : (o : Option (List StreamSpec)) (c : Command) → ((xs : List StreamSpec) → o ≡ Some xs → list_all spec_fits xs ≡ true) → (good o >>= λ xs. Ok (command.Configure xs)) ≡ Ok c → within c ≡ true → command_fits c ≡ true
configure-step None c each h w = absurd (cc)
configure-step (Some xs) c each h w = let e : command.Configure xs ≡ c = cc in ap command_fits (sym e) ∙ and_from _ _ (ap within e ∙ w) (each xs refl)

-- an item fits if its targets are few enough
abbrev pub may_fit : Item → Bool
may_fit i = cond (item_within i) (item_fits i) true

when_true : (a b : Bool) → (a ≡ true → b ≡ true) → cond a b true ≡ true
when_true true b h = h refl
when_true false b h = refl

then_true : (a b : Bool) → cond a b true ≡ true → a ≡ true → b ≡ true
then_true true b h k = h
then_true false b h k = absurd (cc)

item-may-fit : (word : List ℕ) (i : Item) → item_of word ≡ Some i → may_fit i ≡ true
item-may-fit word i h = when_true (item_within i) (item_fits i) (item-fits word i h)

items-fit : (items : List Item) → list_all may_fit items ≡ true → list_all item_within items ≡ true → list_all item_fits items ≡ true
items-fit [] h w = refl
items-fit (i ∷ items) h w =
    let p = and_parts (may_fit i) (list_all may_fit items) h in
    let q = and_parts (item_within i) (list_all item_within items) w in
    and_from _ _ (then_true (item_within i) (item_fits i) p.0 q.0) (items-fit items p.1 q.1)

-- a command of items within a limit
items-step : (make : List Item → Command) (limit : ℕ) → ((xs : List Item) → within (make xs) ≡ leb (length xs) limit && list_all item_within xs) → ((xs : List Item) → command_fits (make xs) ≡ leb (length xs) limit && list_all item_fits xs) →
    (o : Option (List Item)) (c : Command) → ((xs : List Item) → o ≡ Some xs → list_all may_fit xs ≡ true) → (good o >>= λ xs. Ok (make xs)) ≡ Ok c → within c ≡ true → command_fits c ≡ true
items-step make limit asks fits None c each h w = absurd (cc)
items-step make limit asks fits (Some xs) c each h w =
    let e : make xs ≡ c = cc in
    let p = and_parts (leb (length xs) limit) (list_all item_within xs) (sym (asks xs) ∙ (ap within e ∙ w)) in
    ap command_fits (sym e) ∙ (fits xs ∙ and_from _ _ p.0 (items-fit xs (each xs refl) p.1))

once-step : (words : List (List ℕ)) (c : Command) → (one item_of words >>= λ i. Ok (command.Once i)) ≡ Ok c → within c ≡ true → command_fits c ≡ true
once-step [] c h w = absurd (cc)
once-step (word ∷ []) c h w = grind (arith, item-fits)
once-step (word ∷ more ∷ words) c h w = grind (arith, item-fits)

await-step : (words : List (List ℕ)) (c : Command) → (one awaited words >>= λ k. Ok (command.Await k)) ≡ Ok c → command_fits c ≡ true
await-step [] c h = absurd (cc)
await-step (word ∷ []) c h = grind (arith, nat_tests, number-below)
await-step (word ∷ more ∷ words) c h = grind (arith, nat_tests, number-below)

ends-step : (d : Command) (words : List (List ℕ)) (c : Command) → command_fits d ≡ true → ends d words ≡ Ok c → command_fits c ≡ true
ends-step d [] c f h = let e : d ≡ c = cc in ap command_fits (sym e) ∙ f
ends-step d (word ∷ words) c f h = absurd (cc)

command-fits : (word : Word) (words : List (List ℕ)) (c : Command) → command_of word words ≡ Ok c → within c ≡ true → command_fits c ≡ true
unfolding command_of
command-fits Configure words c h w = configure-step (all_of spec_of words) c (all-fit spec_of spec_fits spec-fits words) h w
command-fits Once words c h w = once-step words c h w
command-fits Burst words c h w = items-step command.Burst 32 (λ xs. refl) (λ xs. refl) (all_of item_of words) c (all-fit item_of may_fit item-may-fit words) h w
command-fits Repeat words c h w = items-step command.Repeat 8 (λ xs. refl) (λ xs. refl) (all_of item_of words) c (all-fit item_of may_fit item-may-fit words) h w
command-fits Stop words c h w = ends-step command.Stop words c refl h
command-fits Wait words c h w = ends-step command.Wait words c refl h
command-fits Await words c h w = await-step words c h
command-fits Flush words c h w = ends-step command.Flush words c refl h
command-fits Close words c h w = ends-step command.Close words c refl h
command-fits Disconnect words c h w = ends-step command.Disconnect words c refl h

-- ---- faults and picks

fault-fits : (words : List (List ℕ)) (f : Fault) → fault_of words ≡ Ok f → fault_typed f ≡ true
unfolding fault_of frame_and_stream
fault-fits [] f h = absurd (cc)
fault-fits (kind ∷ words) f h = grind (arith, nat_tests, number-below)

picks-step : (o : Option (List ℕ)) (ps : List ℕ) → ((xs : List ℕ) → o ≡ Some xs → list_all is_u32 xs ≡ true) → good o ≡ Ok ps → list_all is_u32 ps ≡ true
picks-step None ps each h = absurd (cc)
picks-step (Some xs) ps each h = let e : xs ≡ ps = cc in ap (list_all is_u32) (sym e) ∙ each xs refl

picks-fit : (words : List (List ℕ)) (ps : List ℕ) → picks_of words ≡ Ok ps → list_all is_u32 ps ≡ true
unfolding picks_of
picks-fit [] ps h = absurd (cc)
picks-fit (word ∷ words) ps h = picks-step (all_of number (word ∷ words)) ps (all-fit number is_u32 (number-below (2 ^ 32)) (word ∷ words)) h

-- ---- the device

profile-number-fits : (word : List ℕ) (n : ℕ) → profile_number word ≡ Some n → is_profile_number n ≡ true
profile-number-fits word n h = let p = number-within 1 16 word n h in grind (arith, nat_tests)

raw-and-yuv-fit : (words : List (List ℕ)) (r y : ℕ) → raw_and_yuv words ≡ Ok (r, y) → (is_profile_number r ≡ true) × (is_profile_number y ≡ true)
unfolding raw_and_yuv
raw-and-yuv-fit [] r y h = absurd (cc)
raw-and-yuv-fit (raw ∷ words) r y h =
    let a = ok-step (good (profile_number raw)) _ (r, y) h in
    let b = ok-step (one profile_number words) _ (r, y) a.2 in
    let e : (a.0, b.0) ≡ (r, y) = cc in
    let f = profile-number-fits raw a.0 (good-ok (profile_number raw) a.0 a.1) in
    let g = one-profile-fits words b.0 b.1 in
    (sym (ap (λ (p : ℕ × ℕ). is_profile_number p.0) e) ∙ f, sym (ap (λ (p : ℕ × ℕ). is_profile_number p.1) e) ∙ g)
  where
    one-profile-fits : (words : List (List ℕ)) (n : ℕ) → one profile_number words ≡ Ok n → is_profile_number n ≡ true
    one-profile-fits [] n h = absurd (cc)
    one-profile-fits (word ∷ words) n h =
        let a = ok-step (good (profile_number word)) (λ x. ends x words) n h in
        let e = ends-ok a.0 n words a.2 in
        ap is_profile_number (sym e) ∙ profile-number-fits word a.0 (good-ok (profile_number word) a.0 a.1)

device-fits : (words : List (List ℕ)) (p : Profile) → device_of words ≡ Ok p → is_profile p ≡ true
unfolding device_of
device-fits [] p h = absurd (cc)
device-fits (depth ∷ words) p h =
    let a = ok-step (good (profile_number depth)) _ p h in
    let b = ok-step (raw_and_yuv words) _ p a.2 in
    let e : record { depth = a.0; raw = b.0.0; yuv = b.0.1 } ≡ p = cc in
    let d = profile-number-fits depth a.0 (good-ok (profile_number depth) a.0 a.1) in
    let q = raw-and-yuv-fit words b.0.0 b.0.1 b.1 in
    ap is_profile (sym e) ∙ and_from _ _ d (and_from _ _ q.0 q.1)

-- ---- lines

-- a line fits a script of the version
abbrev line_fits : ℕ → Line → Bool
line_fits v (FaultLine f) = fault_typed f
line_fits v EarlyLine = true
line_fits v (DeviceLine p) = profile_fits v p
line_fits v (PickLine ps) = list_all is_u32 ps
line_fits v (CommandLine c) = cond (within c) (command_fits c) true

command-line-fits : (word : Word) (words : List (List ℕ)) (c : Command) → command_of word words ≡ Ok c → cond (within c) (command_fits c) true ≡ true
command-line-fits word words c h = when_true (within c) (command_fits c) (command-fits word words c h)

fault-line-fits : (v : ℕ) (words : List (List ℕ)) (line : Line) → fault_line words ≡ Ok line → line_fits v line ≡ true
fault-line-fits v words line h =
    let a = ok-step (fault_of words) _ line h in
    let e : FaultLine a.0 ≡ line = cc in
    ap (line_fits v) (sym e) ∙ fault-fits words a.0 a.1

pick-line-fits : (v : ℕ) (words : List (List ℕ)) (line : Line) → pick_line words ≡ Ok line → line_fits v line ≡ true
pick-line-fits v words line h =
    let a = ok-step (picks_of words) _ line h in
    let e : PickLine a.0 ≡ line = cc in
    ap (line_fits v) (sym e) ∙ picks-fit words a.0 a.1

early-line-fits : (v : ℕ) (words : List (List ℕ)) (line : Line) → early_line words ≡ Ok line → line_fits v line ≡ true
early-line-fits v words line h = let e = ends-ok EarlyLine line words h in ap (line_fits v) (sym e)

device-line-fits : (v : ℕ) (words : List (List ℕ)) (line : Line) → device_line v words ≡ Ok line → line_fits v line ≡ true
device-line-fits v words line h = elim (chosen (eqb v 2) (device_of words >>= λ p. Ok (DeviceLine p)) (Err UnknownWord) (Ok line) h) [
  | inl two ↦
      let a = ok-step (device_of words) (λ p. Ok (DeviceLine p)) line two.1 in
      let e : DeviceLine a.0 ≡ line = cc in
      ap (line_fits v) (sym e) ∙ (rw (eqb-true v 2 two.0) (device-fits words a.0 a.1))
  | inr other ↦ absurd (let none = other.1 in cc)
]

by-word-fits : (v : ℕ) (o : Option Word) (words : List (List ℕ)) (line : Line) → command_line o words ≡ Ok line → line_fits v line ≡ true
by-word-fits v None words line h = absurd (cc)
by-word-fits v (Some word) words line h =
    let a = ok-step (command_of word words) _ line h in
    let e : CommandLine a.0 ≡ line = cc in
    ap (line_fits v) (sym e) ∙ command-line-fits word words a.0 a.1

line-step : (v : ℕ) (a b : Bool) (first second third : Result Line Cause) (line : Line) → (first ≡ Ok line → line_fits v line ≡ true) → (second ≡ Ok line → line_fits v line ≡ true) → (third ≡ Ok line → line_fits v line ≡ true)
    → cond a first (cond b second third) ≡ Ok line → line_fits v line ≡ true
line-step v true b first second third line if-first if-second if-third h = if-first h
line-step v false true first second third line if-first if-second if-third h = if-second h
line-step v false false first second third line if-first if-second if-third h = if-third h

other-line-fits : (v : ℕ) (word : List ℕ) (words : List (List ℕ)) (line : Line) → other_line v word words ≡ Ok line → line_fits v line ≡ true
unfolding other_line
other-line-fits v word words line h =
    line-step v (bytes_eq word (codes "early")) (bytes_eq word (codes "device")) (early_line words) (device_line v words) (command_line (command_word word) words) line
    (early-line-fits v words line) (device-line-fits v words line) (by-word-fits v (command_word word) words line) h

line-fits : (v : ℕ) (word : List ℕ) (words : List (List ℕ)) (line : Line) → line_of v word words ≡ Ok line → line_fits v line ≡ true
unfolding line_of
line-fits v word words line h =
    line-step v (bytes_eq word (codes "fault")) (bytes_eq word (codes "pick")) (fault_line words) (pick_line words) (other_line v word words) line
    (fault-line-fits v words line) (pick-line-fits v words line) (other-line-fits v word words line) h

-- ---- the file

abbrev parts_fit : Script → Bool
parts_fit s = profile_fits s.version s.profile && (list_all fault_typed s.faults && (list_all is_u32 s.picks && list_all command_fits s.commands))

abbrev state_fits : Option Begun → Bool
state_fits None = true
state_fits (Some b) = parts_fit b.script && counts_within b

last-passes : {A : Type 0} (p : A → Bool) (xs : List A) (x : A) → list_all p (xs ++ x ∷ []) ≡ true → p x ≡ true
last-passes p [] x h = (and_parts (p x) true h).0
last-passes p (y ∷ xs) x h = last-passes p xs x (and_parts (p y) (list_all p (xs ++ x ∷ [])) h).1

push-passes : {A : Type 0} (p : A → Bool) (xs : List A) (x : A) → list_all p xs ≡ true → p x ≡ true → list_all p (xs ++ x ∷ []) ≡ true
push-passes p [] x h k = and_from _ _ k refl
push-passes p (y ∷ xs) x h k = let q = and_parts (p y) (list_all p xs) h in and_from _ _ q.0 (push-passes p xs x q.1 k)

record PartsFit (s : Script) : Type 0 where
  profile : profile_fits s.version s.profile ≡ true
  faults : list_all fault_typed s.faults ≡ true
  picks : list_all is_u32 s.picks ≡ true
  commands : list_all command_fits s.commands ≡ true

parts-fit : (s : Script) → parts_fit s ≡ true → PartsFit s
parts-fit s h =
    let a = and_parts (profile_fits s.version s.profile) _ h in
    let b = and_parts (list_all fault_typed s.faults) _ a.1 in
    let c = and_parts (list_all is_u32 s.picks) _ b.1 in
    record { profile = a.0; faults = b.0; picks = c.0; commands = c.1 }

with-line-fits : (b : Begun) (line : Line) → parts_fit b.script ≡ true → line_fits b.script.version line ≡ true → counts_within (with_line b line) ≡ true → parts_fit (with_line b line).script ≡ true
with-line-fits b (FaultLine f) h k w =
    let p = parts-fit b.script h in
    and_from _ _ p.profile (and_from _ _ (push-passes fault_typed b.script.faults f p.faults k) (and_from _ _ p.picks p.commands))
with-line-fits b EarlyLine h k w = h
with-line-fits b (DeviceLine profile) h k w =
    let p = parts-fit b.script h in
    and_from _ _ k (and_from _ _ p.faults (and_from _ _ p.picks p.commands))
with-line-fits b (PickLine ps) h k w =
    let p = parts-fit b.script h in
    and_from _ _ p.profile (and_from _ _ p.faults (and_from _ _ (list_all-append is_u32 b.script.picks ps ∙ and_from _ _ p.picks k) p.commands))
with-line-fits b (CommandLine c) h k w =
    let p = parts-fit b.script h in
    let all : list_all within (b.script.commands ++ c ∷ []) ≡ true = grind arith in
    let own = last-passes within b.script.commands c all in
    and_from _ _ p.profile (and_from _ _ p.faults (and_from _ _ p.picks (push-passes command_fits b.script.commands c p.commands (then_true (within c) (command_fits c) k own))))

added-step : (fits late : Bool) (new next : Begun) → cond (not fits) (Err Limit) (cond late (Err FaultAfterCommand) (Ok new)) ≡ Ok next → (fits ≡ true) × (new ≡ next)
added-step true true new next h = absurd (cc)
added-step true false new next h = (refl, cc)
added-step false late new next h = absurd (cc)

added-fits : (b : Begun) (line : Line) (next : Begun) → parts_fit b.script ≡ true → line_fits b.script.version line ≡ true → added b line ≡ Ok next → state_fits (Some next) ≡ true
unfolding added
added-fits b line next h k a =
    let p = added-step (counts_within (with_line b line)) (is_late b line) (with_line b line) next a in
    ap (λ n. state_fits (Some n)) (sym p.1) ∙ and_from _ _ (with-line-fits b line h k p.0) p.0

then-added-fits : (b : Begun) (r : Result Line Cause) (next : Begun) → parts_fit b.script ≡ true → ((line : Line) → r ≡ Ok line → line_fits b.script.version line ≡ true) → then_added b r ≡ Ok next → state_fits (Some next) ≡ true
then-added-fits b (Ok line) next h each a = added-fits b line next h (each line refl) a
then-added-fits b (Err cause) next h each a = absurd (cc)

version-fits : (o : Option ℕ) (next : Option Begun) → ((v : ℕ) → o ≡ Some v → (v ≡ 1) ⊎ (v ≡ 2)) → first_line o ≡ Ok next → state_fits next ≡ true
version-fits None next each h = absurd (cc)
version-fits (Some v) next each h =
    let e : Some (empty v) ≡ next = cc in
    ap state_fits (sym e) ∙ elim (each v refl) as (λ _. state_fits (Some (empty v)) ≡ true) [ inl one ↦ rw one refl | inr two ↦ rw two refl ]

version-number-is : (word : List ℕ) (v : ℕ) → version_number word ≡ Some v → (v ≡ 1) ⊎ (v ≡ 2)
version-number-is word v h = by (bytes_eq word (codes "1")) (bytes_eq word (codes "2")) h
  where
    by : (a b : Bool) → cond a (Some 1) (cond b (Some 2) None) ≡ Some v → (v ≡ 1) ⊎ (v ≡ 2)
    by true b h = inl (cc)
    by false true h = inr (cc)
    by false false h = absurd (cc)

version-is : (words : List (List ℕ)) (v : ℕ) → version_of words ≡ Some v → (v ≡ 1) ⊎ (v ≡ 2)
version-is [] v h = absurd (cc)
version-is (first ∷ []) v h = absurd (cc)
version-is (first ∷ second ∷ []) v h = by (bytes_eq first (codes "camera")) h
  where
    by : (a : Bool) → cond a (version_number second) None ≡ Some v → (v ≡ 1) ⊎ (v ≡ 2)
    by true h = version-number-is second v h
    by false h = absurd (cc)
version-is (first ∷ second ∷ third ∷ words) v h = absurd (cc)

after-words-fit : (before : Option Begun) (word : List ℕ) (words : List (List ℕ)) (next : Option Begun) → state_fits before ≡ true → after_words before word words ≡ Ok next → state_fits next ≡ true
unfolding after_words
after-words-fit None word words next f h = version-fits (version_of (word ∷ words)) next (version-is (word ∷ words)) h
after-words-fit (Some b) word words next f h =
    let q = and_parts (parts_fit b.script) (counts_within b) f in
    let a = ok-step (then_added b (line_of b.script.version word words)) (λ (x : Begun). Ok (Some x)) next h in
    let e : Some a.0 ≡ next = cc in
    ap state_fits (sym e) ∙ then-added-fits b (line_of b.script.version word words) a.0 q.0 (line-fits b.script.version word words) a.1

comment-step : (b : Bool) (before next : Option Begun) (r : Result (Option Begun) Cause) → state_fits before ≡ true → (r ≡ Ok next → state_fits next ≡ true) → cond b (Ok before) r ≡ Ok next → state_fits next ≡ true
comment-step true before next r f k h = let e : before ≡ next = cc in ap state_fits (sym e) ∙ f
comment-step false before next r f k h = k h

after-line-fit : (before : Option Begun) (words : List (List ℕ)) (next : Option Begun) → state_fits before ≡ true → after_line before words ≡ Ok next → state_fits next ≡ true
after-line-fit before [] next f h = let e : before ≡ next = cc in ap state_fits (sym e) ∙ f
after-line-fit before (word ∷ words) next f h = comment-step (is_comment word) before next (after_words before word words) f (after-words-fit before word words next f) h

printable-step : (b : Bool) (r : Result (Option Begun) Cause) (next : Option Begun) → (r ≡ Ok next → state_fits next ≡ true) → cond b r (Err NotAscii) ≡ Ok next → state_fits next ≡ true
printable-step true r next k h = k h
printable-step false r next k h = absurd (cc)

after-fits : (before : Option Begun) (line : List ℕ) (next : Option Begun) → state_fits before ≡ true → after before line ≡ Ok next → state_fits next ≡ true
unfolding after
after-fits before line next f h = printable-step (list_all is_printable line) (after_line before (loose_words line)) next (after-line-fit before (loose_words line) next f) h

-- the added `close`
closed-cases : (any : Bool) (cs : List Command) → list_any is_closing_command cs ≡ any → list_all command_fits cs ≡ true →
    (list_all command_fits (cond any cs (cs ++ command.Close ∷ [])) ≡ true) × (sum_by awaited_by (cond any cs (cs ++ command.Close ∷ [])) ≡ sum_by awaited_by cs) × (list_any is_closing_command (cond any cs (cs ++ command.Close ∷ [])) ≡ true)
closed-cases true cs e h = (h, refl, e)
closed-cases false cs e h = (
  push-passes command_fits cs command.Close h refl,
  sum_by-append awaited_by cs (command.Close ∷ []) ∙ omega arith,
  list_any-append is_closing_command cs (command.Close ∷ []) ∙ grind arith,
)

end-valid : (n : ℕ) (state : Option Begun) (s : Script) → state_fits state ≡ true → at_end n state ≡ Ok s → script_fits s ≡ true
end-valid n None s f h = absurd (cc)
end-valid n (Some b) s f h =
    let e : record b.script { commands = closed b.script.commands } ≡ s = cc in
    let q = and_parts (parts_fit b.script) (counts_within b) f in
    let p = parts-fit b.script q.0 in
    let c = closed-cases (list_any is_closing_command b.script.commands) b.script.commands refl p.commands in
    let counts : script_within b.script ≡ true = (and_parts (leb b.devices 1) (script_within b.script) q.1).1 in
    let profile = p.profile in
    let faults = p.faults in
    let picks = p.picks in
    let k : script_fits (record b.script { commands = closed b.script.commands }) ≡ true = grind arith in
    ap script_fits (sym e) ∙ k

at-line-ok : {A : Type 0} (n : ℕ) (r : Result A Cause) (f : A → Result Script TextRefused) (s : Script) → at_line n r f ≡ Ok s → (x : A) × (r ≡ Ok x) × (f x ≡ Ok s)
at-line-ok n (Ok x) f s h = (x, refl, h)
at-line-ok n (Err cause) f s h = absurd (cc)

script-valid : (before : Option Begun) (n : ℕ) (lines : List (List ℕ)) (s : Script) → state_fits before ≡ true → script_from before n lines ≡ Ok s → script_fits s ≡ true
unfolding script_from
script-valid before n [] s f h = end-valid n before s f h
script-valid before n (line ∷ lines) s f h =
    let p = at-line-ok n (after before line) (λ next. script_from next (n + 1) lines) s h in
    script-valid p.0 (n + 1) lines s (after-fits before line p.0 f p.1) p.2

long-step : (b : Bool) (r : Result Script TextRefused) (s : Script) → (r ≡ Ok s → script_fits s ≡ true) → cond b (Err (Bad 0 Limit)) r ≡ Ok s → script_fits s ≡ true
long-step true r s k h = absurd (cc)
long-step false r s k h = k h

-- what a text means is a valid script
pub text-valid : (text : List ℕ) (s : Script) → script_of text ≡ Ok s → fits s ≡ true
unfolding script_of
text-valid text s h = sym (script-both s) ∙ long-step (ltb text_limit (length text)) (script_from None 1 (lines_of text)) s (script-valid None 1 (lines_of text) s refl) h
