-- Lines that are spelled are read again.
use Rattle.std.proofs.Common.{◌≡◌, ℕ, ◌^◌, true, false, eqb, ltb, leb, List, [], ◌∷◌, map, Some, Ok, refl, arith}
use Rattle.std.specs.Prelude.{codes, decimal, bytes_eq}
use Rattle.std.specs.List.{list_all}
use Rattle.std.proofs.lemmas.Bool.{and_parts, and_from, ltb-true, leb-true}
use Rattle.std.proofs.lemmas.Bool.Decides.{nat_tests}
use Rattle.cam_types.specs.declared.script.Command.{Command}
use Rattle.cam_types.specs.declared.script.Command.TheVariants as command
use Rattle.cam_types.specs.declared.script.Fault.{Fault}
use Rattle.cam_types.specs.declared.script.Fault.TheVariants as fault
use Rattle.cam_types.specs.declared.script.Word.{Word}
use Rattle.cam_types.specs.declared.script.Word.TheVariants.{Configure, Once, Burst, Repeat, Stop, Wait, Await, Flush, Close, Disconnect}
use Rattle.script_text.proofs.Fitting.{item_fits, spec_fits, command_fits}
use Rattle.script_text.specs.Fits.{fault_typed}
use Rattle.text_parts.specs.LineWords.{picks_of}
use Rattle.script_text.specs.Values.{spec_of, item_of}
use Rattle.text_parts.specs.Values.{number}
use Rattle.script_text.specs.Lines.{FaultLine, PickLine, CommandLine, EarlyLine, DeviceLine, profile_number, raw_and_yuv, device_of, frame_and_stream, fault_of, command_of, other_line, line_of}
use Rattle.text_parts.specs.LineReading.{is_comment}
use Rattle.script_text.specs.Spelling.{spec_text, item_text, fault_arguments, fault_words, arguments_of, command_line_words}
use Rattle.text_parts.specs.CommandWords.{word_of, word_text}
use Rattle.text_parts.proofs.Texts.{word-again, a-word}
use Rattle.cam_types.specs.declared.profile.Profile.{Profile}
use Rattle.cam_types.specs.Profile.{is_profile, is_profile_number}
use Rattle.text_parts.specs.Words.{is_word}
use Rattle.text_parts.proofs.Spelled.{number-again, number-word, within-again}
use Rattle.script_text.proofs.AgainValues.{spec-again, spec-word, item-again, item-word, all-again, all-words}

-- ---- what a line means

-- a command's word is none of the others that begin a line, and begins no comment
record NoOther (w : Word) : Type 0 where
  fault : bytes_eq (word_text w) (codes "fault") ≡ false
  early : bytes_eq (word_text w) (codes "early") ≡ false
  device : bytes_eq (word_text w) (codes "device") ≡ false
  pick : bytes_eq (word_text w) (codes "pick") ≡ false
  comment : is_comment (word_text w) ≡ false

no-other : (w : Word) → NoOther w
no-other Configure = record { fault = refl; early = refl; device = refl; pick = refl; comment = refl }
no-other _ = record { fault = refl; early = refl; device = refl; pick = refl; comment = refl }

number-here : (n : ℕ) → ltb n (2 ^ 32) ≡ true → number (decimal n) ≡ Some n
number-here n h = number-again (2 ^ 32) n (ltb-true _ _ h) (omega arith)

fault-again : (f : Fault) → fault_typed f ≡ true → fault_of (fault_arguments f) ≡ Ok f
unfolding fault_of frame_and_stream
fault-again (fault.Request n) h = rw (number-here n.0 h) refl
fault-again (fault.Result n) h = rw (number-here n.0 h) refl
fault-again (fault.Buffer n s) h =
    let p = and_parts (ltb n.0 (2 ^ 32)) (ltb s.0 (2 ^ 8)) h in
    rw (number-here n.0 p.0, number-again (2 ^ 8) s.0 (ltb-true _ _ p.1) (omega arith)) refl
fault-again (fault.Device n) h = rw (number-here n.0 h) refl

pub fault-line-again : (v : ℕ) (f : Fault) → fault_typed f ≡ true → line_of v (codes "fault") (fault_arguments f) ≡ Ok (FaultLine f)
unfolding line_of
fault-line-again v f h = rw (fault-again f h) refl

pub pick-line-again : (v : ℕ) (pick : ℕ) (picks : List ℕ) → list_all (λ p. ltb p (2 ^ 32)) (pick ∷ picks) ≡ true → line_of v (codes "pick") (decimal pick ∷ map decimal picks) ≡ Ok (PickLine (pick ∷ picks))
unfolding line_of picks_of
pick-line-again v pick picks h = rw (all-again number decimal (λ p. ltb p (2 ^ 32)) number-here (pick ∷ picks) h) refl

pub early-line-again : (v : ℕ) → line_of v (codes "early") [] ≡ Ok EarlyLine
unfolding line_of other_line
early-line-again v = refl

profile-number-again : (n : ℕ) → is_profile_number n ≡ true → profile_number (decimal n) ≡ Some n
profile-number-again n h = let p = and_parts (ltb 0 n) (leb n 16) h in within-again 1 16 n (ltb-true 0 n p.0) (leb-true n 16 p.1) (omega arith)

device-again : (p : Profile) → is_profile p ≡ true → device_of (decimal p.depth ∷ decimal p.raw ∷ decimal p.yuv ∷ []) ≡ Ok p
unfolding device_of raw_and_yuv
device-again p h =
    let a = and_parts (is_profile_number p.depth) _ h in
    let b = and_parts (is_profile_number p.raw) (is_profile_number p.yuv) a.1 in
    rw (profile-number-again p.depth a.0, profile-number-again p.raw b.0, profile-number-again p.yuv b.1) refl

pub device-line-again : (p : Profile) → is_profile p ≡ true → line_of 2 (codes "device") (decimal p.depth ∷ decimal p.raw ∷ decimal p.yuv ∷ []) ≡ Ok (DeviceLine p)
unfolding line_of other_line
device-line-again p h = rw (device-again p h) refl

command-again : (c : Command) → command_fits c ≡ true → command_of (word_of c) (arguments_of c) ≡ Ok c
unfolding command_of
command-again (command.Configure specs) h = rw (all-again spec_of spec_text spec_fits spec-again specs (and_parts _ (list_all spec_fits specs) h).1) refl
command-again (command.Once item) h = rw (item-again item h) refl
command-again (command.Burst items) h = rw (all-again item_of item_text item_fits item-again items (and_parts _ (list_all item_fits items) h).1) refl
command-again (command.Repeat items) h = rw (all-again item_of item_text item_fits item-again items (and_parts _ (list_all item_fits items) h).1) refl
command-again command.Stop h = refl
command-again command.Wait h = refl
command-again (command.Await k) h =
    let p = and_parts (ltb 0 k) (ltb k (2 ^ 32)) h in
    let z : eqb k 0 ≡ false = grind (arith, nat_tests) in
    rw (number-here k p.1, z) refl
command-again command.Flush h = refl
command-again command.Close h = refl
command-again command.Disconnect h = refl

pub command-line-again : (v : ℕ) (c : Command) → command_fits c ≡ true → line_of v (word_text (word_of c)) (arguments_of c) ≡ Ok (CommandLine c)
unfolding line_of other_line
command-line-again v c h = let o = no-other (word_of c) in rw (o.fault, o.pick, o.early, o.device, word-again (word_of c), command-again c h) refl

-- ---- the words of a line

small-word : (n : ℕ) → ltb n (2 ^ 32) ≡ true → is_word (decimal n) ≡ true
small-word n h = number-word n (omega (arith, ltb-true n (2 ^ 32) h))

pub fault-words : (f : Fault) → fault_typed f ≡ true → list_all is_word (fault_words f) ≡ true
fault-words (fault.Request n) h = rw (small-word n.0 h) refl
fault-words (fault.Result n) h = rw (small-word n.0 h) refl
fault-words (fault.Buffer n s) h =
    let p = and_parts (ltb n.0 (2 ^ 32)) (ltb s.0 (2 ^ 8)) h in
    rw (small-word n.0 p.0, number-word s.0 (omega (arith, ltb-true s.0 (2 ^ 8) p.1))) refl
fault-words (fault.Device n) h = rw (small-word n.0 h) refl

profile-number-word : (n : ℕ) → is_profile_number n ≡ true → is_word (decimal n) ≡ true
profile-number-word n h = number-word n (omega (arith, leb-true n 16 (and_parts (ltb 0 n) (leb n 16) h).1))

pub device-words : (p : Profile) → is_profile p ≡ true → list_all is_word (codes "device" ∷ decimal p.depth ∷ decimal p.raw ∷ decimal p.yuv ∷ []) ≡ true
device-words p h =
    let a = and_parts (is_profile_number p.depth) _ h in
    let b = and_parts (is_profile_number p.raw) (is_profile_number p.yuv) a.1 in
    rw (profile-number-word p.depth a.0, profile-number-word p.raw b.0, profile-number-word p.yuv b.1) refl

pub pick-words : (picks : List ℕ) → list_all (λ p. ltb p (2 ^ 32)) picks ≡ true → list_all is_word (codes "pick" ∷ map decimal picks) ≡ true
pick-words picks h = all-words decimal (λ p. ltb p (2 ^ 32)) small-word picks h

arguments-words : (c : Command) → command_fits c ≡ true → list_all is_word (arguments_of c) ≡ true
arguments-words (command.Configure specs) h = all-words spec_text spec_fits spec-word specs (and_parts _ (list_all spec_fits specs) h).1
arguments-words (command.Once item) h = rw (item-word item h) refl
arguments-words (command.Burst items) h = all-words item_text item_fits item-word items (and_parts _ (list_all item_fits items) h).1
arguments-words (command.Repeat items) h = all-words item_text item_fits item-word items (and_parts _ (list_all item_fits items) h).1
arguments-words command.Stop h = refl
arguments-words command.Wait h = refl
arguments-words (command.Await k) h = rw (small-word k (and_parts (ltb 0 k) (ltb k (2 ^ 32)) h).1) refl
arguments-words command.Flush h = refl
arguments-words command.Close h = refl
arguments-words command.Disconnect h = refl

pub command-words : (c : Command) → command_fits c ≡ true → list_all is_word (command_line_words c) ≡ true
command-words c h = and_from _ _ (a-word (word_of c)) (arguments-words c h)

pub command-no-comment : (c : Command) → is_comment (word_text (word_of c)) ≡ false
command-no-comment c = (no-other (word_of c)).comment
