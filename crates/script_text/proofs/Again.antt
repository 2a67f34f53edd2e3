-- What is printed is read again.
use Rattle.std.proofs.Common.{◌≡◌, ◌⊎◌, inl, inr, ℕ, ◌+◌, ◌<◌, ◌≤◌, ◌^◌, Bool, true, false, ◌&&◌, cond, eqb, ltb, leb, List, [], ◌∷◌, ◌++◌, length, map, Option, None, Some, Ok, refl, sym, ap, ◌∙◌, arith, append_assoc}
use Rattle.std.specs.Prelude.{codes, decimal, sum_by}
use Rattle.std.specs.List.{flat_map, join_by, list_all, list_any}
use Rattle.std.proofs.lemmas.Bool.{and_parts, and_from, eqb-true, leb-true, le-leb, le-ltb}
use Rattle.std.proofs.lemmas.Bool.Decides.{nat_tests}
use Rattle.std.proofs.lemmas.Grind.{flat_map-append}
use Rattle.std.proofs.lemmas.List.{append-nil, length-append}
use Rattle.std.proofs.lemmas.List.Folds.{list_all-append}
use Rattle.std.proofs.lemmas.List.Sums.{sum_by-append}
use Rattle.cam_types.specs.declared.item.Item.{Item}
use Rattle.cam_types.specs.declared.script.Command.{Command}
use Rattle.cam_types.specs.declared.script.Command.TheVariants as command
use Rattle.cam_types.specs.declared.script.Fault.{Fault}
use Rattle.cam_types.specs.declared.script.Script.{Script}
use Rattle.cam_types.specs.Script.{awaited_by, is_closing_command}
use Rattle.script_text.proofs.Fitting.{targets_fit, item_fits, settings_fit, spec_fits, command_fits, script-both}
use Rattle.script_text.specs.Fits.{fault_typed, fits}
use Rattle.text_parts.specs.Lines.{lines_of}
use Rattle.text_parts.specs.LineReading.{is_printable, is_comment, text_limit}
use Rattle.script_text.specs.Lines.{Line, FaultLine, EarlyLine, DeviceLine, PickLine, CommandLine, line_of}
use Rattle.script_text.specs.Within.{item_within, within}
use Rattle.script_text.specs.Grammar.{closed, Begun, begun, empty, plain_profile, counts_within, added, after_words, after, script_from, script_of}
use Rattle.script_text.specs.Spelling.{arguments_of, command_line_words, device_lines, early_lines, fault_arguments, fault_words, pick_lines, text_of, version_words}
use Rattle.basic_lemmas.proofs.Lists.{all-where}
use Rattle.basic_lemmas.proofs.Tests.{chosen}
use Rattle.text_parts.specs.CommandWords.{word_of, word_text}
use Rattle.cam_types.specs.Profile.{is_plain as is_plain_profile, is_profile, profile_fits}
use Rattle.cam_types.specs.declared.profile.Profile.{Profile}
use Rattle.std.proofs.lemmas.Fmt.{decimal_digit}
use Rattle.text_parts.specs.Lines.{line_text}
use Rattle.text_parts.specs.Words.{is_plain, is_word}
use Rattle.text_parts.proofs.Joined.{line-all, line-text-cut, loose-words-again}
use Rattle.script_text.proofs.AgainLines.{fault-line-again, early-line-again, device-line-again, pick-line-again, command-line-again, fault-words, device-words, pick-words, command-words, command-no-comment}

-- ---- one line

plain-printable : (b : ℕ) → is_plain b ≡ true → is_printable b ≡ true
plain-printable b h = grind (arith, nat_tests)

abbrev joined : List (List ℕ) → List ℕ
joined words = join_by (λ w. w) (codes " ") words

line-printable : (w : List ℕ) (ws : List (List ℕ)) → list_all is_word (w ∷ ws) ≡ true → list_all is_printable (joined (w ∷ ws)) ≡ true
line-printable w ws h = line-all is_printable plain-printable refl w ws h

after-again : (before : Option Begun) (w : List ℕ) (ws : List (List ℕ)) → list_all is_word (w ∷ ws) ≡ true → is_comment w ≡ false → after before (joined (w ∷ ws)) ≡ after_words before w ws
unfolding after
after-again before w ws h k =
    rw (line-printable w ws h, loose-words-again w ws h, k) refl

-- one spelled line of a text
line-read : (before next : Option Begun) (n : ℕ) (w : List ℕ) (ws : List (List ℕ)) (rest : List ℕ) → list_all is_word (w ∷ ws) ≡ true → is_comment w ≡ false → after_words before w ws ≡ Ok next
    → script_from before n (lines_of (line_text (w ∷ ws) ++ rest)) ≡ script_from next (n + 1) (lines_of rest)
unfolding script_from
line-read before next n w ws rest h k a =
    rw (line-text-cut w ws rest h, after-again before w ws h k, a) refl

-- ---- the parts of the file

-- what stands of a script after its head and some lines, with so many `device` lines
abbrev made : Script → ℕ → List Fault → List ℕ → List Command → Begun
made s d faults picks commands = begun (record s { faults = faults; picks = picks; commands = commands }) d

after-known : (b next : Begun) (w : List ℕ) (ws : List (List ℕ)) (line : Line) → line_of b.script.version w ws ≡ Ok line → added b line ≡ Ok next → after_words (Some b) w ws ≡ Ok (Some next)
unfolding after_words
after-known b next w ws line h a = rw (h, a) refl

fault-added : (s : Script) (d : ℕ) (fs : List Fault) (f : Fault) → leb d 1 ≡ true → leb (length (fs ++ f ∷ [])) 64 ≡ true → added (made s d fs [] []) (FaultLine f) ≡ Ok (made s d (fs ++ f ∷ []) [] [])
unfolding added
fault-added s d fs f few h = rw (few, h) refl

faults-again : (s : Script) (d : ℕ) (fs rest : List Fault) (n : ℕ) (more : List ℕ) → leb d 1 ≡ true → list_all fault_typed rest ≡ true → length (fs ++ rest) ≤ 64
    → script_from (Some (made s d fs [] [])) n (lines_of (flat_map line_text (map fault_words rest) ++ more)) ≡ script_from (Some (made s d (fs ++ rest) [] [])) (n + length rest) (lines_of more)
faults-again s d fs [] n more few h l =
    let e : n ≡ n + 0 = omega arith in
    ap (λ xs. script_from (Some (made s d xs [] [])) n (lines_of more)) (sym (append-nil fs)) ∙ ap (λ m. script_from (Some (made s d (fs ++ []) [] [])) m (lines_of more)) e
faults-again s d fs (f ∷ rest) n more few h l =
    let p = and_parts (fault_typed f) (list_all fault_typed rest) h in
    let regrouped : (fs ++ f ∷ []) ++ rest ≡ fs ++ f ∷ rest = append_assoc fs (f ∷ []) rest in
    let long : length (fs ++ f ∷ []) + length rest ≤ 64 = omega (arith, length-append (fs ++ f ∷ []) rest, ap length regrouped) in
    let here = fault-added s d fs f few (le-leb _ _ (omega arith)) in
    let text = append_assoc (line_text (fault_words f)) (flat_map line_text (map fault_words rest)) more in
    let step = line-read (Some (made s d fs [] [])) (Some (made s d (fs ++ f ∷ []) [] [])) n (codes "fault") (fault_arguments f) (flat_map line_text (map fault_words rest) ++ more) (fault-words f p.0) refl
    (after-known (made s d fs [] []) (made s d (fs ++ f ∷ []) [] []) (codes "fault") (fault_arguments f) (FaultLine f) (fault-line-again s.version f p.0) here) in
    let ih = faults-again s d (fs ++ f ∷ []) rest (n + 1) more few p.1 (omega (arith, length-append (fs ++ f ∷ []) rest)) in
    let count : (n + 1) + length rest ≡ n + length (f ∷ rest) = omega arith in
    ap (λ t. script_from (Some (made s d fs [] [])) n (lines_of t)) text ∙ step ∙ ih
    ∙ ap (λ xs. script_from (Some (made s d xs [] [])) ((n + 1) + length rest) (lines_of more)) regrouped
    ∙ ap (λ m. script_from (Some (made s d (fs ++ f ∷ rest) [] [])) m (lines_of more)) count

abbrev pick_count : List ℕ → ℕ
pick_count [] = 0
pick_count (pick ∷ picks) = 1

picks-added : (s : Script) (d : ℕ) (fs : List Fault) (ps : List ℕ) → leb d 1 ≡ true → leb (length fs) 64 ≡ true → leb (length ps) 8192 ≡ true → added (made s d fs [] []) (PickLine ps) ≡ Ok (made s d fs ps [])
unfolding added
picks-added s d fs ps few h k = rw (few, h, k) refl

picks-again : (s : Script) (d : ℕ) (fs : List Fault) (ps : List ℕ) (n : ℕ) (more : List ℕ) → leb d 1 ≡ true → leb (length fs) 64 ≡ true → leb (length ps) 8192 ≡ true → list_all (λ p. ltb p (2 ^ 32)) ps ≡ true
    → script_from (Some (made s d fs [] [])) n (lines_of (flat_map line_text (pick_lines ps) ++ more)) ≡ script_from (Some (made s d fs ps [])) (n + pick_count ps) (lines_of more)
picks-again s d fs [] n more few f l h = let e : n ≡ n + 0 = omega arith in ap (λ m. script_from (Some (made s d fs [] [])) m (lines_of more)) e
picks-again s d fs (p ∷ ps) n more few f l h =
    let text : flat_map line_text (pick_lines (p ∷ ps)) ++ more ≡ line_text (codes "pick" ∷ map decimal (p ∷ ps)) ++ more = ap (λ t. t ++ more) (append-nil (line_text (codes "pick" ∷ map decimal (p ∷ ps)))) in
    ap (λ t. script_from (Some (made s d fs [] [])) n (lines_of t)) text
    ∙ line-read (Some (made s d fs [] [])) (Some (made s d fs (p ∷ ps) [])) n (codes "pick") (map decimal (p ∷ ps)) more (pick-words (p ∷ ps) h) refl
    (after-known (made s d fs [] []) (made s d fs (p ∷ ps) []) (codes "pick") (map decimal (p ∷ ps)) (PickLine (p ∷ ps)) (pick-line-again s.version p ps h) (picks-added s d fs (p ∷ ps) few f l))

-- ---- commands

items-within : (items : List Item) → list_all item_fits items ≡ true → list_all item_within items ≡ true
items-within items h = all-where item_fits item_within items item-within h
  where
    item-within : (i : Item) → item_fits i ≡ true → item_within i ≡ true
    item-within i k = (and_parts _ _ (and_parts (settings_fit i.settings) (targets_fit i.targets) k).1).0

command-within : (c : Command) → command_fits c ≡ true → within c ≡ true
command-within (command.Configure specs) h = (and_parts (leb (length specs) 16) (list_all spec_fits specs) h).0
command-within (command.Once item) h = (and_parts _ _ (and_parts (settings_fit item.settings) (targets_fit item.targets) h).1).0
command-within (command.Burst items) h = let p = and_parts (leb (length items) 32) (list_all item_fits items) h in and_from _ _ p.0 (items-within items p.1)
command-within (command.Repeat items) h = let p = and_parts (leb (length items) 8) (list_all item_fits items) h in and_from _ _ p.0 (items-within items p.1)
command-within command.Stop h = refl
command-within command.Wait h = refl
command-within (command.Await k) h = refl
command-within command.Flush h = refl
command-within command.Close h = refl
command-within command.Disconnect h = refl

record FitsCommands (cs : List Command) : Type 0 where
  fit : list_all command_fits cs ≡ true
  few : length cs ≤ 512
  awaited : sum_by awaited_by cs ≤ 16384
  ends : list_any is_closing_command cs ≡ true

-- a front that doesn't end the use is shorter than the whole
ends-later : (front rest : List Command) → list_any is_closing_command (front ++ rest) ≡ true → list_any is_closing_command front ≡ false → 0 < length rest
ends-later front [] h k = absurd (let e = ap (list_any is_closing_command) (append-nil front) in cc)
ends-later front (c ∷ rest) h k = omega arith

closed-step : (any : Bool) (front rest : List Command) → list_any is_closing_command front ≡ any → length (front ++ rest) ≤ 512 → list_any is_closing_command (front ++ rest) ≡ true → length (cond any front (front ++ command.Close ∷ [])) ≤ 512
closed-step true front rest e l h = omega (arith, length-append front rest)
closed-step false front rest e l h = omega (arith, length-append front rest, length-append front (command.Close ∷ []), ends-later front rest h e)

-- what holds of a front of the commands
front-counts : (front rest : List Command) → FitsCommands (front ++ rest) → (leb (length (closed front)) 512 ≡ true) × (list_all within front ≡ true) × (leb (sum_by awaited_by front) 16384 ≡ true)
front-counts front rest f =
    let fit : list_all command_fits front && list_all command_fits rest ≡ true = sym (list_all-append command_fits front rest) ∙ f.fit in (
      le-leb _ _ (closed-step (list_any is_closing_command front) front rest refl f.few f.ends),
      all-where command_fits within front command-within (and_parts _ _ fit).0,
      le-leb _ _ (omega (arith, sum_by-append awaited_by front rest, f.awaited)),
    )

command-added : (s : Script) (d : ℕ) (fs : List Fault) (ps : List ℕ) (cs : List Command) (c : Command) (rest : List Command) → leb d 1 ≡ true → leb (length fs) 64 ≡ true → leb (length ps) 8192 ≡ true → FitsCommands ((cs ++ c ∷ []) ++ rest) → added (made s d fs ps cs) (CommandLine c) ≡ Ok (made s d fs ps (cs ++ c ∷ []))
unfolding added
command-added s d fs ps cs c rest few f p h =
    let k = front-counts (cs ++ c ∷ []) rest h in
    let counts : counts_within (made s d fs ps (cs ++ c ∷ [])) ≡ true = and_from _ _ few (and_from _ _ (and_from _ _ f p) (and_from _ _ (and_from _ _ k.0 k.1) k.2)) in
    rw counts refl

closed-same : (cs : List Command) → list_any is_closing_command cs ≡ true → closed cs ≡ cs
closed-same cs h = rw h refl

commands-again : (s : Script) (d : ℕ) (fs : List Fault) (ps : List ℕ) (cs rest : List Command) (n : ℕ) → leb d 1 ≡ true → leb (length fs) 64 ≡ true → leb (length ps) 8192 ≡ true → FitsCommands (cs ++ rest)
    → script_from (Some (made s d fs ps cs)) n (lines_of (flat_map line_text (map command_line_words rest))) ≡ Ok (made s d fs ps (cs ++ rest)).script
unfolding script_from
commands-again s d fs ps cs [] n few f p h =
    let same : closed cs ≡ cs ++ [] = closed-same cs (sym (ap (list_any is_closing_command) (append-nil cs)) ∙ h.ends) ∙ sym (append-nil cs) in
    ap (λ xs. Ok (made s d fs ps xs).script) same
commands-again s d fs ps cs (c ∷ rest) n few f p h =
    let regrouped : (cs ++ c ∷ []) ++ rest ≡ cs ++ c ∷ rest = append_assoc cs (c ∷ []) rest in
    let h' : FitsCommands ((cs ++ c ∷ []) ++ rest) = rw regrouped h in
    let fit : list_all command_fits cs && (command_fits c && list_all command_fits rest) ≡ true = sym (list_all-append command_fits cs (c ∷ rest)) ∙ h.fit in
    let own = (and_parts (command_fits c) (list_all command_fits rest) (and_parts (list_all command_fits cs) _ fit).1).0 in
    line-read (Some (made s d fs ps cs)) (Some (made s d fs ps (cs ++ c ∷ []))) n (word_text (word_of c)) (arguments_of c) (flat_map line_text (map command_line_words rest)) (command-words c own) (command-no-comment c)
    (after-known (made s d fs ps cs) (made s d fs ps (cs ++ c ∷ [])) (word_text (word_of c)) (arguments_of c) (CommandLine c) (command-line-again s.version c own) (command-added s d fs ps cs c rest few f p h'))
    ∙ commands-again s d fs ps (cs ++ c ∷ []) rest (n + 1) few f p h'
    ∙ ap (λ xs. Ok (made s d fs ps xs).script) regrouped

-- ---- the head of a script: its version, its device and `early`

-- what stands after the version line, and after the device line
abbrev headed : ℕ → Profile → Bool → ℕ → Begun
headed v p early d = begun (record { version = v; profile = p; early = early; faults = []; picks = []; commands = [] }) d

version-read : (v : ℕ) → (v ≡ 1) ⊎ (v ≡ 2) → after_words None (codes "camera") (decimal v ∷ []) ≡ Ok (Some (empty v))
unfolding after_words
version-read v (inl one) = rw (one, decimal_digit 1 (omega arith)) refl
version-read v (inr two) = rw (two, decimal_digit 2 (omega arith)) refl

version-words : (v : ℕ) → (v ≡ 1) ⊎ (v ≡ 2) → list_all is_word (version_words v) ≡ true
version-words v (inl one) = rw (one, decimal_digit 1 (omega arith)) refl
version-words v (inr two) = rw (two, decimal_digit 2 (omega arith)) refl

plain-is : (p : Profile) → is_plain_profile p ≡ true → plain_profile ≡ p
plain-is p h =
    let a = and_parts (eqb p.depth 6) _ h in
    let b = and_parts (eqb p.raw 3) (eqb p.yuv 4) a.1 in
    let k : plain_profile ≡ record { depth = p.depth; raw = p.raw; yuv = p.yuv } = rw (eqb-true p.depth 6 a.0, eqb-true p.raw 3 b.0, eqb-true p.yuv 4 b.1) refl in k

device-added : (p : Profile) → added (empty 2) (DeviceLine p) ≡ Ok (headed 2 p false 1)
unfolding added
device-added p = refl

early-added : (v d : ℕ) (p : Profile) → leb d 1 ≡ true → added (headed v p false d) EarlyLine ≡ Ok (headed v p true d)
unfolding added
early-added v d p few = rw few refl

-- a front of a text that leaves this, some lines on
record Leaves (before : Begun) (n : ℕ) (front : List ℕ) (v : ℕ) (p : Profile) (early : Bool) : Type 0 where
  devices : ℕ
  number : ℕ
  few : leb devices 1 ≡ true
  same : (more : List ℕ) → script_from (Some before) n (lines_of (front ++ more)) ≡ script_from (Some (headed v p early devices)) number (lines_of more)

device-head : (n v : ℕ) (p : Profile) → profile_fits v p ≡ true → Leaves (empty v) n (flat_map line_text (device_lines v p)) v p false
device-head n v p h = elim (chosen (eqb v 1) (is_plain_profile p) (eqb v 2 && is_profile p) true h) [
  | inl one ↦ first-version n v p (eqb-true v 1 one.0) (plain-is p one.1)
  | inr other ↦ (let q = and_parts (eqb v 2) (is_profile p) other.1 in second-version n v p (eqb-true v 2 q.0) q.1)
]
  where
    first-version : (n v : ℕ) (p : Profile) → v ≡ 1 → plain_profile ≡ p → Leaves (empty v) n (flat_map line_text (device_lines v p)) v p false
    first-version n v p one same = record {
      devices = 0;
      number = n;
      few = refl;
      same = λ more. rw one (ap (λ (x : Profile). script_from (Some (headed 1 x false 0)) n (lines_of more)) same);
    }

    second-version : (n v : ℕ) (p : Profile) → v ≡ 2 → is_profile p ≡ true → Leaves (empty v) n (flat_map line_text (device_lines v p)) v p false
    second-version n v p two h = record {
      devices = 1;
      number = n + 1;
      few = refl;
      same = λ more. rw two (
          ap (λ t. script_from (Some (empty 2)) n (lines_of (t ++ more))) (append-nil (line_text (codes "device" ∷ decimal p.depth ∷ decimal p.raw ∷ decimal p.yuv ∷ [])))
          ∙ line-read (Some (empty 2)) (Some (headed 2 p false 1)) n (codes "device") (decimal p.depth ∷ decimal p.raw ∷ decimal p.yuv ∷ []) more (device-words p h) refl
          (after-known (empty 2) (headed 2 p false 1) (codes "device") (decimal p.depth ∷ decimal p.raw ∷ decimal p.yuv ∷ []) (DeviceLine p) (device-line-again p h) (device-added p)));
    }

early-head : (n v d : ℕ) (p : Profile) (early : Bool) → leb d 1 ≡ true → Leaves (headed v p false d) n (flat_map line_text (early_lines early)) v p early
early-head n v d p false few = record { devices = d; number = n; few = few; same = λ more. refl }
early-head n v d p true few = record {
  devices = d;
  number = n + 1;
  few = few;
  same = λ more. line-read (Some (headed v p false d)) (Some (headed v p true d)) n (codes "early") [] more refl refl
      (after-known (headed v p false d) (headed v p true d) (codes "early") [] EarlyLine (early-line-again v) (early-added v d p few));
}

-- ---- the whole text

parts-text : (s : Script) → text_of s ≡ line_text (version_words s.version) ++ (flat_map line_text (device_lines s.version s.profile) ++ (flat_map line_text (early_lines s.early) ++ (flat_map line_text (map fault_words s.faults) ++ (flat_map line_text (pick_lines s.picks) ++ flat_map line_text (map command_line_words s.commands)))))
unfolding text_of
parts-text s =
    ap (λ t. line_text (version_words s.version) ++ t)
    (flat_map-append line_text (device_lines s.version s.profile) _
    ∙ ap (λ t. flat_map line_text (device_lines s.version s.profile) ++ t) (flat_map-append line_text (early_lines s.early) _
    ∙ ap (λ t. flat_map line_text (early_lines s.early) ++ t) (flat_map-append line_text (map fault_words s.faults) (pick_lines s.picks ++ map command_line_words s.commands)
    ∙ ap (λ t. flat_map line_text (map fault_words s.faults) ++ t) (flat_map-append line_text (pick_lines s.picks) (map command_line_words s.commands)))))

version-is : (v : ℕ) (p : Profile) → profile_fits v p ≡ true → (v ≡ 1) ⊎ (v ≡ 2)
version-is v p h = elim (chosen (eqb v 1) (is_plain_profile p) (eqb v 2 && is_profile p) true h) [
  | inl one ↦ inl (eqb-true v 1 one.0)
  | inr other ↦ inr (eqb-true v 2 (and_parts (eqb v 2) (is_profile p) other.1).0)
]

-- the text of a valid script means the script
pub text-again : (s : Script) → fits s ≡ true → length (text_of s) ≤ text_limit → script_of (text_of s) ≡ Ok s
unfolding script_of
text-again s h l =
    let a = and_parts (profile_fits s.version s.profile && (leb (length s.faults) 64 && list_all fault_typed s.faults)) _ (script-both s ∙ h) in
    let head = and_parts (profile_fits s.version s.profile) (leb (length s.faults) 64 && list_all fault_typed s.faults) a.0 in
    let faults = and_parts (leb (length s.faults) 64) (list_all fault_typed s.faults) head.1 in
    let b = and_parts (leb (length s.picks) 8192 && list_all (λ p. ltb p (2 ^ 32)) s.picks) _ a.1 in
    let picks = and_parts (leb (length s.picks) 8192) (list_all (λ p. ltb p (2 ^ 32)) s.picks) b.0 in
    let c = and_parts (leb (length s.commands) 512 && list_all command_fits s.commands) _ b.1 in
    let d = and_parts (leb (length s.commands) 512) (list_all command_fits s.commands) c.0 in
    let e = and_parts (leb (sum_by awaited_by s.commands) 16384) (list_any is_closing_command s.commands) c.1 in
    let commands : FitsCommands s.commands = record { fit = d.1; few = leb-true _ _ d.0; awaited = leb-true _ _ e.0; ends = e.1 } in
    let fault_text : List ℕ = flat_map line_text (map fault_words s.faults) in
    let pick_text : List ℕ = flat_map line_text (pick_lines s.picks) in
    let command_text : List ℕ = flat_map line_text (map command_line_words s.commands) in
    let early_text : List ℕ = flat_map line_text (early_lines s.early) in
    let device_text : List ℕ = flat_map line_text (device_lines s.version s.profile) in
    let version = version-is s.version s.profile head.0 in
    let device = device-head (1 + 1) s.version s.profile head.0 in
    let early = early-head device.number s.version device.devices s.profile s.early device.few in
    let short : ltb text_limit (length (text_of s)) ≡ false = le-ltb _ _ l in
    rw short (
    ap (λ t. script_from None 1 (lines_of t)) (parts-text s)
    ∙ line-read None (Some (empty s.version)) 1 (codes "camera") (decimal s.version ∷ []) (device_text ++ (early_text ++ (fault_text ++ (pick_text ++ command_text)))) (version-words s.version version) refl (version-read s.version version)
    ∙ device.same (early_text ++ (fault_text ++ (pick_text ++ command_text)))
    ∙ early.same (fault_text ++ (pick_text ++ command_text))
    ∙ faults-again s early.devices [] s.faults early.number (pick_text ++ command_text) early.few faults.1 (leb-true _ _ faults.0)
    ∙ picks-again s early.devices s.faults s.picks (early.number + length s.faults) command_text early.few faults.0 picks.0 picks.1
    ∙ commands-again s early.devices s.faults s.picks [] s.commands ((early.number + length s.faults) + pick_count s.picks) early.few faults.0 picks.0 commands)
