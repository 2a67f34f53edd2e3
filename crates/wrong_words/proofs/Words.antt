-- Of which kind the lines are that have a meaning.
use Rattle.std.proofs.Common.{◌≡◌, ℕ, Bool, true, false, List, [], ◌∷◌, Option, Some, None, Result, Ok, Err, sym, refl, ◌∙◌, codes, cond}
use Rattle.std.specs.Str.{bytes_eq}
use Rattle.std.proofs.lemmas.Slice.Eq.{bytes_eq-Decides}
use Rattle.cam_types.specs.declared.profile.Profile.{Profile}
use Rattle.cam_types.specs.declared.script.Command.{Command}
use Rattle.cam_types.specs.declared.script.Fault.{Fault}
use Rattle.cam_types.specs.declared.script.Word.{Word}
use Rattle.cam_types.specs.declared.script.Word.TheVariants.{Configure}
use Rattle.text_parts.specs.CommandWords.{command_word, word_text}
use Rattle.text_parts.proofs.Texts.{word-is}
use Rattle.text_parts.specs.LineWords.{◌>>=◌, ends, picks_of}
use Rattle.text_parts.specs.declared.cause.Cause.{Cause}
use Rattle.text_parts.specs.declared.cause.Cause.TheVariants.{UnknownWord}
use Rattle.script_text.specs.Lines.{Line, FaultLine, EarlyLine, DeviceLine, PickLine, CommandLine, command_line, command_of, device_of, fault_of, line_of, other_line}
use Rattle.wrong_words.specs.Places.{begins}
use Rattle.wrong_words.specs.declared.kind.LineKind.TheVariants as kind
use Rattle.wrong_words.proofs.Bad.{of_fault, of_pick, of_other, of_early, of_device, of_command}

-- the word begins a line of a fault, of a command, of picks
pub record Begins (f c p : Bool) (word : List ℕ) : Type 0 where
  pub fault : begins kind.Fault word ≡ f
  pub command : begins kind.Command word ≡ c
  pub pick : begins kind.Pick word ≡ p

-- what a line is that its first word begins
pub data Shape (word : List ℕ) (words : List (List ℕ)) : Line → Type 0 where
  IsFault : (fault : Fault) → Begins true false false word → Shape word words (FaultLine fault)
  IsCommand : (command : Command) → Begins false true false word → Shape word words (CommandLine command)
  IsPick : (picks : List ℕ) → Begins false false true word → picks_of words ≡ Ok picks → Shape word words (PickLine picks)
  IsEarly : Begins false false false word → Shape word words EarlyLine
  IsDevice : (profile : Profile) → Begins false false false word → Shape word words (DeviceLine profile)

ok_same : {A : Type 0} (x y : A) → ◌≡◌ {A = Result A Cause} (Ok x) (Ok y) → x ≡ y
ok_same x y h = cc

record Lines : Type 0 where
  fault : Begins true false false (codes "fault")
  pick : Begins false false true (codes "pick")
  early : Begins false false false (codes "early")
  device : Begins false false false (codes "device")

begun : Lines
unfolding command_word
begun =
    record {
      fault = record { fault = refl; command = refl; pick = refl };
      pick = record { fault = refl; command = refl; pick = refl };
      early = record { fault = refl; command = refl; pick = refl };
      device = record { fault = refl; command = refl; pick = refl };
    }

command_begins : (word : Word) → Begins false true false (word_text word)
unfolding command_word
command_begins Configure = record { fault = refl; command = refl; pick = refl }
command_begins _ = record { fault = refl; command = refl; pick = refl }

-- ---- by what the words mean

fault_shape : (words : List (List ℕ)) (line : Line) (o : Result Fault Cause) → (o >>= λ fault. Ok (FaultLine fault)) ≡ Ok line → Shape (codes "fault") words line
fault_shape words line (Ok fault) h = rw (← ok_same (FaultLine fault) line h) (IsFault fault begun.fault)
fault_shape words line (Err c) h = absurd (cc)

pick_shape : (words : List (List ℕ)) (line : Line) (o : Result (List ℕ) Cause) → picks_of words ≡ o → (o >>= λ picks. Ok (PickLine picks)) ≡ Ok line → Shape (codes "pick") words line
pick_shape words line (Ok picks) is h = rw (← ok_same (PickLine picks) line h) (IsPick picks begun.pick is)
pick_shape words line (Err c) is h = absurd (cc)

early_shape : (words : List (List ℕ)) (line : Line) → ends EarlyLine words ≡ Ok line → Shape (codes "early") words line
early_shape [] line h = rw (← ok_same EarlyLine line h) (IsEarly begun.early)
early_shape (w ∷ words) line h = absurd (cc)

device_shape : (words : List (List ℕ)) (line : Line) (o : Result Profile Cause) → (o >>= λ profile. Ok (DeviceLine profile)) ≡ Ok line → Shape (codes "device") words line
device_shape words line (Ok profile) h = rw (← ok_same (DeviceLine profile) line h) (IsDevice profile begun.device)
device_shape words line (Err c) h = absurd (cc)

version_shape : (two : Bool) (words : List (List ℕ)) (line : Line) → cond two (device_of words >>= λ profile. Ok (DeviceLine profile)) (Err UnknownWord) ≡ Ok line → Shape (codes "device") words line
version_shape true words line h = device_shape words line (device_of words) h
version_shape false words line h = absurd (cc)

command_shape : (word : Word) (words : List (List ℕ)) (line : Line) (o : Result Command Cause) → (o >>= λ c. Ok (CommandLine c)) ≡ Ok line → Shape (word_text word) words line
command_shape word words line (Ok c) h = rw (← ok_same (CommandLine c) line h) (IsCommand c (command_begins word))
command_shape word words line (Err c) h = absurd (cc)

word_shape : (first : List ℕ) (words : List (List ℕ)) (line : Line) (o : Option Word) → command_word first ≡ o → command_line o words ≡ Ok line → Shape first words line
word_shape first words line None is h = absurd (cc)
word_shape first words line (Some word) is h = rw (word-is first word is) (command_shape word words line (command_of word words) h)

-- ---- by the first word

other_shape : (v : ℕ) (first : List ℕ) (words : List (List ℕ)) (line : Line) (e d : Bool) → bytes_eq first (codes "early") ≡ e → bytes_eq first (codes "device") ≡ d → other_line v first words ≡ Ok line → Shape first words line
other_shape v first words line true d re rd h =
    let is : first ≡ codes "early" = (bytes_eq-Decides first (codes "early")).0 re in
    rw is (early_shape words line (sym (of_early v first words re) ∙ h))
other_shape v first words line false true re rd h =
    let is : first ≡ codes "device" = (bytes_eq-Decides first (codes "device")).0 rd in
    rw is (version_shape _ words line (sym (of_device v first words re rd) ∙ h))
other_shape v first words line false false re rd h =
    word_shape first words line (command_word first) refl (sym (of_command v first words re rd) ∙ h)

line_shape : (v : ℕ) (first : List ℕ) (words : List (List ℕ)) (line : Line) (f p : Bool) → bytes_eq first (codes "fault") ≡ f → bytes_eq first (codes "pick") ≡ p → line_of v first words ≡ Ok line → Shape first words line
line_shape v first words line true p rf rp h =
    let is : first ≡ codes "fault" = (bytes_eq-Decides first (codes "fault")).0 rf in
    rw is (fault_shape words line (fault_of words) (sym (of_fault v first words rf) ∙ h))
line_shape v first words line false true rf rp h =
    let is : first ≡ codes "pick" = (bytes_eq-Decides first (codes "pick")).0 rp in
    rw is (pick_shape words line (picks_of words) refl (sym (of_pick v first words rf rp) ∙ h))
line_shape v first words line false false rf rp h =
    other_shape v first words line (bytes_eq first (codes "early")) (bytes_eq first (codes "device")) refl refl (sym (of_other v first words rf rp) ∙ h)

-- a line with a meaning has the shape of that
pub shape_of : (v : ℕ) (first : List ℕ) (words : List (List ℕ)) (line : Line) → line_of v first words ≡ Ok line → Shape first words line
shape_of v first words line h = line_shape v first words line (bytes_eq first (codes "fault")) (bytes_eq first (codes "pick")) refl refl h

-- a comment begins no line of a kind: 35 is `#`
pub comment_begins : (bs : List ℕ) → Begins false false false (35 ∷ bs)
unfolding command_word
comment_begins bs = record { fault = refl; command = refl; pick = refl }

-- nor does the version line
pub version_begins : Begins false false false (codes "camera")
unfolding command_word
version_begins = record { fault = refl; command = refl; pick = refl }
