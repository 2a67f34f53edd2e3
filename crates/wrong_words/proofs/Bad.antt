-- A line of a script that is refused for a bad word has a word that isn't of the kind which its place asks for.
use Rattle.std.proofs.Common.{◌≡◌, ℕ, ◌+◌, ◌==◌, Bool, true, false, List, [], ◌∷◌, Option, Some, None, Result, Ok, Err, ap, sym, refl, ◌∙◌, is_some, codes, cond}
use Rattle.std.specs.Str.{bytes_eq}
use Rattle.std.proofs.lemmas.Slice.Eq.{bytes_eq-Decides}
use Rattle.cam_types.specs.declared.script.Command.TheVariants as command
use Rattle.cam_types.specs.declared.script.Fault.{Fault}
use Rattle.cam_types.specs.declared.script.Fault.TheVariants as fault
use Rattle.cam_types.specs.declared.script.Word.{Word}
use Rattle.cam_types.specs.declared.script.Word.TheVariants.{Configure, Once, Burst, Repeat, Stop, Wait, Await, Flush, Close, Disconnect}
use Rattle.text_parts.specs.CommandWords.{command_word, word_text}
use Rattle.text_parts.proofs.Texts.{word-is}
use Rattle.text_parts.specs.Values.{all_of, number}
use Rattle.text_parts.specs.LineWords.{◌>>=◌, good, ends, one, many, picks_of}
use Rattle.text_parts.specs.declared.cause.Cause.{Cause}
use Rattle.text_parts.specs.declared.cause.Cause.TheVariants.{BadNumber, UnknownWord}
use Rattle.script_text.specs.Lines.{FaultLine, DeviceLine, PickLine, CommandLine, awaited, command_line, command_of, device_line, device_of, early_line, fault_line, fault_of, frame_and_stream, line_of, other_line, pick_line, profile_number, raw_and_yuv, stream}
use Rattle.script_text.specs.Values.{item_of, spec_of}
use Rattle.wrong_words.specs.Kinds.{fits}
use Rattle.wrong_words.specs.WordPlaces.{first_wrong, script_kind}
use Rattle.wrong_words.specs.declared.word_kind.WordKind.{WordKind}

-- ---- one word

wrong_here : (kind : ℕ → WordKind) (place : ℕ) (w : List ℕ) (ws : List (List ℕ)) → fits (kind place) w ≡ false → is_some (first_wrong kind place (w ∷ ws)) ≡ true
wrong_here kind place w ws h = rw h refl

wrong_later : (kind : ℕ → WordKind) (place : ℕ) (w : List ℕ) (ws : List (List ℕ)) → fits (kind place) w ≡ true → is_some (first_wrong kind (place + 1) ws) ≡ true → is_some (first_wrong kind place (w ∷ ws)) ≡ true
wrong_later kind place w ws h later = rw h later

-- the word is bad, or what comes behind it
first_step : {A B : Type 0} (read : List ℕ → Option A) (kind : ℕ → WordKind) (place : ℕ) (w : List ℕ) (ws : List (List ℕ)) (k : A → Result B Cause) → fits (kind place) w ≡ is_some (read w) → ((x : A) → k x ≡ Err BadNumber → is_some (first_wrong kind (place + 1) ws) ≡ true) → (o : Option A) → read w ≡ o → (good o >>= k) ≡ Err BadNumber → is_some (first_wrong kind place (w ∷ ws)) ≡ true
first_step read kind place w ws k same later None is h = wrong_here kind place w ws (same ∙ ap is_some is)
first_step read kind place w ws k same later (Some x) is h = wrong_later kind place w ws (same ∙ ap is_some is) (later x h)

ends_fine : {A : Type 0} (x : A) (ws : List (List ℕ)) → ends x ws ≡ Err BadNumber → ⊥
ends_fine x [] h = cc
ends_fine x (w ∷ ws) h = cc

pub bad_before : {A B : Type 0} (r : Result A Cause) (f : A → B) → (r >>= λ x. Ok (f x)) ≡ Err BadNumber → r ≡ Err BadNumber
bad_before (Ok x) f h = absurd (cc)
bad_before (Err c) f h = let e : c ≡ BadNumber = cc in ap Err e

one_wrong : {A : Type 0} (read : List ℕ → Option A) (kind : ℕ → WordKind) (place : ℕ) → ((w : List ℕ) → fits (kind place) w ≡ is_some (read w)) → (words : List (List ℕ)) → one read words ≡ Err BadNumber → is_some (first_wrong kind place words) ≡ true
one_wrong read kind place same [] h = absurd (cc)
one_wrong read kind place same (w ∷ ws) h =
    first_step read kind place w ws (λ x. ends x ws) (same w) (λ x b. absurd (ends_fine x ws b)) (read w) refl h

-- ---- any number of words

rest_none : {A : Type 0} (read : List ℕ → Option A) (w : List ℕ) (ws : List (List ℕ)) (x : A) (o : Option (List A)) → read w ≡ Some x → all_of read ws ≡ o → all_of read (w ∷ ws) ≡ None → o ≡ None
rest_none read w ws x None is all h = refl
rest_none read w ws x (Some xs) is all h =
    let e : all_of read (w ∷ ws) ≡ Some (x ∷ xs) = rw (is, all) refl in absurd (cc)

many_step : {A : Type 0} (read : List ℕ → Option A) (kind : ℕ → WordKind) (place : ℕ) (w : List ℕ) (ws : List (List ℕ)) → fits (kind place) w ≡ is_some (read w) → (all_of read ws ≡ None → is_some (first_wrong kind (place + 1) ws) ≡ true) → (o : Option A) → read w ≡ o → all_of read (w ∷ ws) ≡ None → is_some (first_wrong kind place (w ∷ ws)) ≡ true
many_step read kind place w ws same later None is h = wrong_here kind place w ws (same ∙ ap is_some is)
many_step read kind place w ws same later (Some x) is h =
    wrong_later kind place w ws (same ∙ ap is_some is) (later (rest_none read w ws x (all_of read ws) is refl h))

all_wrong : {A : Type 0} (read : List ℕ → Option A) (kind : ℕ → WordKind) → ((n : ℕ) (w : List ℕ) → fits (kind n) w ≡ is_some (read w)) → (place : ℕ) (words : List (List ℕ)) → all_of read words ≡ None → is_some (first_wrong kind place words) ≡ true
all_wrong read kind same place [] h = absurd (cc)
all_wrong read kind same place (w ∷ ws) h =
    many_step read kind place w ws (same place w) (all_wrong read kind same (place + 1) ws) (read w) refl h

good_none : {A : Type 0} (o : Option A) → good o ≡ Err BadNumber → o ≡ None
good_none None h = refl
good_none (Some x) h = absurd (cc)

many_wrong : {A : Type 0} (read : List ℕ → Option A) (kind : ℕ → WordKind) → ((n : ℕ) (w : List ℕ) → fits (kind n) w ≡ is_some (read w)) → (place : ℕ) (words : List (List ℕ)) → many read words ≡ Err BadNumber → is_some (first_wrong kind place words) ≡ true
many_wrong read kind same place words h = all_wrong read kind same place words (good_none (all_of read words) h)

-- ---- which kinds the places ask for

number_fits : (w : List ℕ) → fits (script_kind (codes "fault") 2) w ≡ is_some (number w)
unfolding fits script_kind
number_fits w = refl

stream_fits : (w : List ℕ) → fits (script_kind (codes "fault") 3) w ≡ is_some (stream w)
unfolding fits script_kind
stream_fits w = refl

any_fits : (w : List ℕ) → fits (script_kind (codes "fault") 1) w ≡ true
unfolding fits script_kind
any_fits w = refl

-- behind a word, each place has the kind of words that are read so
abbrev Reads : {A : Type 0} → List ℕ → (List ℕ → Option A) → Type 0
Reads first read = (n : ℕ) (w : List ℕ) → fits (script_kind first n) w ≡ is_some (read w)

record Kinds : Type 0 where
  pick : Reads (codes "pick") number
  profile : Reads (codes "device") profile_number
  spec : Reads (codes "configure") spec_of
  once : Reads (codes "once") item_of
  burst : Reads (codes "burst") item_of
  repeated : Reads (codes "repeat") item_of
  count : Reads (codes "await") awaited

kinds : Kinds
unfolding fits script_kind
kinds = record { pick = λ n w. refl; profile = λ n w. refl; spec = λ n w. refl; once = λ n w. refl; burst = λ n w. refl; repeated = λ n w. refl; count = λ n w. refl }

-- ---- faults

pair_wrong : (words : List (List ℕ)) → frame_and_stream words ≡ Err BadNumber → is_some (first_wrong (script_kind (codes "fault")) 2 words) ≡ true
unfolding frame_and_stream
pair_wrong [] h = absurd (cc)
pair_wrong (w ∷ ws) h =
    first_step number (script_kind (codes "fault")) 2 w ws (λ n. one stream ws >>= λ s. Ok (n, s)) (number_fits w)
    (λ n b. one_wrong stream (script_kind (codes "fault")) 3 stream_fits ws (bad_before (one stream ws) (λ s. (n, s)) b))
    (number w) refl h

-- what a fault is by the four words that may stand behind `fault`
abbrev fault_by : Bool → Bool → Bool → Bool → List (List ℕ) → Result Fault Cause
fault_by r s b d words =
    cond r (one number words >>= λ n. Ok (fault.Request (record { 0 = n })))
    (cond s (one number words >>= λ n. Ok (fault.Result (record { 0 = n })))
    (cond b (frame_and_stream words >>= λ p. Ok (fault.Buffer (record { 0 = p.0 }) (record { 0 = p.1 })))
    (cond d (one number words >>= λ n. Ok (fault.Device (record { 0 = n })))
    (Err UnknownWord))))

fault_is : (kind : List ℕ) (words : List (List ℕ)) → fault_of (kind ∷ words) ≡ fault_by (bytes_eq kind (codes "request")) (bytes_eq kind (codes "result")) (bytes_eq kind (codes "buffer")) (bytes_eq kind (codes "device")) words
unfolding fault_of
fault_is kind words = refl

number_wrong : (words : List (List ℕ)) → one number words ≡ Err BadNumber → is_some (first_wrong (script_kind (codes "fault")) 2 words) ≡ true
number_wrong words h = one_wrong number (script_kind (codes "fault")) 2 number_fits words h

by_wrong : (r s b d : Bool) (words : List (List ℕ)) → fault_by r s b d words ≡ Err BadNumber → is_some (first_wrong (script_kind (codes "fault")) 2 words) ≡ true
by_wrong true s b d words h = number_wrong words (bad_before (one number words) (λ n. fault.Request (record { 0 = n })) h)
by_wrong false true b d words h = number_wrong words (bad_before (one number words) (λ n. fault.Result (record { 0 = n })) h)
by_wrong false false true d words h =
    pair_wrong words (bad_before (frame_and_stream words) (λ p. fault.Buffer (record { 0 = p.0 }) (record { 0 = p.1 })) h)
by_wrong false false false true words h = number_wrong words (bad_before (one number words) (λ n. fault.Device (record { 0 = n })) h)
by_wrong false false false false words h = absurd (cc)

fault_wrong : (words : List (List ℕ)) → fault_of words ≡ Err BadNumber → is_some (first_wrong (script_kind (codes "fault")) 1 words) ≡ true
unfolding fault_of
fault_wrong [] h = absurd (cc)
fault_wrong (kind ∷ words) h =
    wrong_later (script_kind (codes "fault")) 1 kind words (any_fits kind)
    (by_wrong (bytes_eq kind (codes "request")) (bytes_eq kind (codes "result")) (bytes_eq kind (codes "buffer")) (bytes_eq kind (codes "device")) words (sym (fault_is kind words) ∙ h))

-- ---- picks and profiles

pick_wrong : (words : List (List ℕ)) → picks_of words ≡ Err BadNumber → is_some (first_wrong (script_kind (codes "pick")) 1 words) ≡ true
unfolding picks_of
pick_wrong [] h = absurd (cc)
pick_wrong (w ∷ ws) h = many_wrong number (script_kind (codes "pick")) kinds.pick 1 (w ∷ ws) h

raw_wrong : (words : List (List ℕ)) → raw_and_yuv words ≡ Err BadNumber → is_some (first_wrong (script_kind (codes "device")) 2 words) ≡ true
unfolding raw_and_yuv
raw_wrong [] h = absurd (cc)
raw_wrong (w ∷ ws) h =
    first_step profile_number (script_kind (codes "device")) 2 w ws (λ r. one profile_number ws >>= λ y. Ok (r, y)) (kinds.profile 2 w)
    (λ r b. one_wrong profile_number (script_kind (codes "device")) 3 (kinds.profile 3) ws (bad_before (one profile_number ws) (λ y. (r, y)) b))
    (profile_number w) refl h

device_wrong : (words : List (List ℕ)) → device_of words ≡ Err BadNumber → is_some (first_wrong (script_kind (codes "device")) 1 words) ≡ true
unfolding device_of
device_wrong [] h = absurd (cc)
device_wrong (w ∷ ws) h =
    first_step profile_number (script_kind (codes "device")) 1 w ws (λ d. raw_and_yuv ws >>= λ p. Ok (record { depth = d; raw = p.0; yuv = p.1 })) (kinds.profile 1 w)
    (λ d b. raw_wrong ws (bad_before (raw_and_yuv ws) (λ p. record { depth = d; raw = p.0; yuv = p.1 }) b))
    (profile_number w) refl h

of_version : (b : Bool) (words : List (List ℕ)) → cond b (device_of words >>= λ profile. Ok (DeviceLine profile)) (Err UnknownWord) ≡ Err BadNumber → device_of words ≡ Err BadNumber
of_version true words h = bad_before (device_of words) DeviceLine h
of_version false words h = absurd (cc)

-- ---- commands

command_wrong : (word : Word) (words : List (List ℕ)) → command_of word words ≡ Err BadNumber → is_some (first_wrong (script_kind (word_text word)) 1 words) ≡ true
unfolding command_of
command_wrong Configure words h = many_wrong spec_of (script_kind (codes "configure")) kinds.spec 1 words (bad_before (many spec_of words) command.Configure h)
command_wrong Once words h = one_wrong item_of (script_kind (codes "once")) 1 (kinds.once 1) words (bad_before (one item_of words) command.Once h)
command_wrong Burst words h = many_wrong item_of (script_kind (codes "burst")) kinds.burst 1 words (bad_before (many item_of words) command.Burst h)
command_wrong Repeat words h = many_wrong item_of (script_kind (codes "repeat")) kinds.repeated 1 words (bad_before (many item_of words) command.Repeat h)
command_wrong Stop words h = absurd (ends_fine command.Stop words h)
command_wrong Wait words h = absurd (ends_fine command.Wait words h)
command_wrong Await words h = one_wrong awaited (script_kind (codes "await")) 1 (kinds.count 1) words (bad_before (one awaited words) command.Await h)
command_wrong Flush words h = absurd (ends_fine command.Flush words h)
command_wrong Close words h = absurd (ends_fine command.Close words h)
command_wrong Disconnect words h = absurd (ends_fine command.Disconnect words h)

by_word : (first : List ℕ) (words : List (List ℕ)) (o : Option Word) → command_word first ≡ o → command_line o words ≡ Err BadNumber → is_some (first_wrong (script_kind first) 1 words) ≡ true
by_word first words None is h = absurd (cc)
by_word first words (Some word) is h =
    rw (word-is first word is) (command_wrong word words (bad_before (command_of word words) CommandLine h))

-- ---- a line

pub of_fault : (v : ℕ) (first : List ℕ) (words : List (List ℕ)) → bytes_eq first (codes "fault") ≡ true → line_of v first words ≡ fault_line words
unfolding line_of
of_fault v first words f = rw f refl

pub of_pick : (v : ℕ) (first : List ℕ) (words : List (List ℕ)) → bytes_eq first (codes "fault") ≡ false → bytes_eq first (codes "pick") ≡ true → line_of v first words ≡ pick_line words
unfolding line_of
of_pick v first words f p = rw (f, p) refl

pub of_other : (v : ℕ) (first : List ℕ) (words : List (List ℕ)) → bytes_eq first (codes "fault") ≡ false → bytes_eq first (codes "pick") ≡ false → line_of v first words ≡ other_line v first words
unfolding line_of
of_other v first words f p = rw (f, p) refl

pub of_early : (v : ℕ) (first : List ℕ) (words : List (List ℕ)) → bytes_eq first (codes "early") ≡ true → other_line v first words ≡ early_line words
unfolding other_line
of_early v first words e = rw e refl

pub of_device : (v : ℕ) (first : List ℕ) (words : List (List ℕ)) → bytes_eq first (codes "early") ≡ false → bytes_eq first (codes "device") ≡ true → other_line v first words ≡ device_line v words
unfolding other_line
of_device v first words e d = rw (e, d) refl

pub of_command : (v : ℕ) (first : List ℕ) (words : List (List ℕ)) → bytes_eq first (codes "early") ≡ false → bytes_eq first (codes "device") ≡ false → other_line v first words ≡ command_line (command_word first) words
unfolding other_line
of_command v first words e d = rw (e, d) refl

other_wrong : (v : ℕ) (first : List ℕ) (words : List (List ℕ)) (e d : Bool) → bytes_eq first (codes "early") ≡ e → bytes_eq first (codes "device") ≡ d → other_line v first words ≡ Err BadNumber → is_some (first_wrong (script_kind first) 1 words) ≡ true
other_wrong v first words true d re rd h =
    let b : early_line words ≡ Err BadNumber = sym (of_early v first words re) ∙ h in
    absurd (ends_fine _ words b)
other_wrong v first words false true re rd h =
    let b : device_line v words ≡ Err BadNumber = sym (of_device v first words re rd) ∙ h in
    let is : first ≡ codes "device" = (bytes_eq-Decides first (codes "device")).0 rd in
    rw is (device_wrong words (of_version (v == 2) words b))
other_wrong v first words false false re rd h =
    by_word first words (command_word first) refl (sym (of_command v first words re rd) ∙ h)

line_wrong : (v : ℕ) (first : List ℕ) (words : List (List ℕ)) (f p : Bool) → bytes_eq first (codes "fault") ≡ f → bytes_eq first (codes "pick") ≡ p → line_of v first words ≡ Err BadNumber → is_some (first_wrong (script_kind first) 1 words) ≡ true
line_wrong v first words true p rf rp h =
    let b : fault_line words ≡ Err BadNumber = sym (of_fault v first words rf) ∙ h in
    let is : first ≡ codes "fault" = (bytes_eq-Decides first (codes "fault")).0 rf in
    rw is (fault_wrong words (bad_before (fault_of words) FaultLine b))
line_wrong v first words false true rf rp h =
    let b : pick_line words ≡ Err BadNumber = sym (of_pick v first words rf rp) ∙ h in
    let is : first ≡ codes "pick" = (bytes_eq-Decides first (codes "pick")).0 rp in
    rw is (pick_wrong words (bad_before (picks_of words) PickLine b))
line_wrong v first words false false rf rp h =
    other_wrong v first words (bytes_eq first (codes "early")) (bytes_eq first (codes "device")) refl refl (sym (of_other v first words rf rp) ∙ h)

-- a line of a script of the version, by its words
pub bad_line : (v : ℕ) (first : List ℕ) (words : List (List ℕ)) → line_of v first words ≡ Err BadNumber → is_some (first_wrong (script_kind first) 1 words) ≡ true
bad_line v first words h = line_wrong v first words (bytes_eq first (codes "fault")) (bytes_eq first (codes "pick")) refl refl h
