-- What one word more adds to the commands and to the faults.
use Rattle.std.proofs.Common.{◌≡◌, ℕ, suc, ◌+◌, ◌-◌, ◌<◌, ◌≤◌, Bool, true, false, List, [], ◌∷◌, ◌++◌, map, min, take, length, refl, ap, sym, ◌∙◌, arith}
use Rattle.std.specs.List.{filter}
use Rattle.std.proofs.lemmas.List.{append-nil, map-append, length-map, length-take, take_all, take-append-le}
use Rattle.std.proofs.lemmas.List.{length-append}
use Rattle.std.proofs.lemmas.List.Elements.{filter-append}
use Rattle.std.proofs.lemmas.List.FromFn.{length-range_with_len}
use Rattle.rand_xoshiro.specs.SplitMix64.{mix_u64}
use Rattle.cam_types.specs.declared.script.Command.{Command}
use Rattle.cam_types.specs.declared.script.Command.TheVariants.{Configure}
use Rattle.cam_types.specs.declared.script.Fault.{Fault}
use Rattle.basic_lemmas.proofs.Ranges.{range-more}
use Rattle.play_calls.specs.Words.{state_after, word}
use Rattle.play_calls.specs.Generated.{command_of, fault_by, fault_choice, faults_of, has_fault, numbers, two_streams}

word-next : (seed n : ℕ) → word seed (n + 1) ≡ (mix_u64 (state_after seed n)).0
unfolding word
word-next seed n = let e : (n + 1) - 1 ≡ n = omega arith in ap (λ (k : ℕ). (mix_u64 (state_after seed k)).0) e

state-next : (seed n : ℕ) → state_after seed (n + 1) ≡ (mix_u64 (state_after seed n)).1
unfolding state_after
state-next seed n = let e : n + 1 ≡ suc n = omega arith in ap (λ (k : ℕ). state_after seed k) e

-- the generator's answer is the next word, and its state the state after that word
pub word-step : (seed n g w s : ℕ) → g ≡ state_after seed n → (w, s) ≡ mix_u64 g → (w ≡ word seed (n + 1)) × (s ≡ state_after seed (n + 1))
word-step seed n g w s at given =
    let at' : mix_u64 g ≡ mix_u64 (state_after seed n) = ap mix_u64 at in
    let whole : (w, s) ≡ mix_u64 (state_after seed n) = given ∙ at' in (
      ap (λ (p : ℕ × ℕ). p.0) whole ∙ sym (word-next seed n),
      ap (λ (p : ℕ × ℕ). p.1) whole ∙ sym (state-next seed n),
    )

numbers-more : (n : ℕ) → numbers (n + 1) ≡ numbers n ++ (n + 1) ∷ []
numbers-more n = let e : 1 + n ≡ n + 1 = omega arith in let more = range-more 1 n 1 in rw e at more

module _ {X : Type 0} (f : ℕ → X) where
  pub map-step : (n : ℕ) → map f (numbers (n + 1)) ≡ map f (numbers n) ++ f (n + 1) ∷ []
  map-step n = rw (numbers-more n) (map-append f (numbers n) ((n + 1) ∷ []))

  -- values of the first numbers that pass, so many at most
  abbrev pub firsts : (ℕ → Bool) → ℕ → ℕ → List X
  firsts test most n = map f (take most (filter test (numbers n)))

  firsts-length : (test : ℕ → Bool) (most n : ℕ) → length (firsts test most n) ≡ min most (length (filter test (numbers n)))
  firsts-length test most n = length-map (take most (filter test (numbers n))) f ∙ length-take most (filter test (numbers n))

  passes-more : (test : ℕ → Bool) (n : ℕ) → filter test (numbers (n + 1)) ≡ filter test (numbers n) ++ filter test ((n + 1) ∷ [])
  passes-more test n = rw (numbers-more n) (filter-append test (numbers n) ((n + 1) ∷ []))

  -- a number that passes is added where there is room
  pub firsts-more : (test : ℕ → Bool) (most n : ℕ) → test (n + 1) ≡ true → length (firsts test most n) < most → firsts test most (n + 1) ≡ firsts test most n ++ f (n + 1) ∷ []
  firsts-more test most n pass room =
      let few : length (filter test (numbers n)) < most = omega (arith, room, firsts-length test most n) in
      let now : take most (filter test (numbers n)) ≡ filter test (numbers n) = take_all most (filter test (numbers n)) (omega (arith, few)) in
      let longer : length (filter test (numbers n) ++ (n + 1) ∷ []) ≤ most = simp length-append (omega (arith, few)) in
      let then' : take most (filter test (numbers n) ++ (n + 1) ∷ []) ≡ filter test (numbers n) ++ (n + 1) ∷ [] = take_all most (filter test (numbers n) ++ (n + 1) ∷ []) longer in
      let more : filter test (numbers (n + 1)) ≡ filter test (numbers n) ++ (n + 1) ∷ [] = passes-more test n ∙ rw pass refl in
      rw (more, then', now) (map-append f (filter test (numbers n)) ((n + 1) ∷ []))

  -- and is left out where there is none
  pub firsts-full : (test : ℕ → Bool) (most n : ℕ) → most ≤ length (firsts test most n) → firsts test most (n + 1) ≡ firsts test most n
  firsts-full test most n full =
      let many : most ≤ length (filter test (numbers n)) = omega (arith, full, firsts-length test most n) in
      rw (passes-more test n, take-append-le most (filter test (numbers n)) (filter test ((n + 1) ∷ [])) many) refl

  -- one that doesn't pass changes nothing
  pub firsts-over : (test : ℕ → Bool) (most n : ℕ) → test (n + 1) ≡ false → firsts test most (n + 1) ≡ firsts test most n
  firsts-over test most n over =
      let same : filter test (numbers (n + 1)) ≡ filter test (numbers n) = passes-more test n ∙ rw (over, append-nil) refl in
      rw same refl

-- the commands of one word more
pub commands-step : (seed n w : ℕ) (old new : List Command) (command : Command) → old ≡ Configure two_streams ∷ map (λ j. command_of (word seed j)) (numbers n) → w ≡ word seed (n + 1) → command ≡ command_of w → new ≡ old ++ command ∷ [] → new ≡ Configure two_streams ∷ map (λ j. command_of (word seed j)) (numbers (n + 1))
commands-step seed n w old new command before this gives pushed =
    let said : command ≡ command_of (word seed (n + 1)) = gives ∙ ap command_of this in
    pushed ∙ rw (before, said) (ap (λ cs. Configure two_streams ∷ cs) (sym (map-step (λ j. command_of (word seed j)) n)))

-- so many commands
pub commands-length : (seed n : ℕ) (all : List Command) → all ≡ Configure two_streams ∷ map (λ j. command_of (word seed j)) (numbers n) → length all ≡ 1 + n
commands-length seed n all is = rw is (omega (arith, length-map (numbers n) (λ j. command_of (word seed j)), length-range_with_len 1 n))

module _ (seed n w : ℕ) (old : List Fault) (before : old ≡ faults_of seed n) (this : w ≡ word seed (n + 1)) where
  pub fault-added : (new : List Fault) (fault : Fault) → has_fault w ≡ true → length old < 64 → fault ≡ fault_by (fault_choice w) (n + 1) → new ≡ old ++ fault ∷ [] → new ≡ faults_of seed (n + 1)
  fault-added new fault has room gives pushed =
      let said : fault ≡ fault_by (fault_choice (word seed (n + 1))) (n + 1) = gives ∙ ap (λ v. fault_by (fault_choice v) (n + 1)) this in
      let has' : has_fault (word seed (n + 1)) ≡ true = rw this at has in
      let room' : length (faults_of seed n) < 64 = rw before at room in
      pushed ∙ rw (before, said) (sym (firsts-more (λ j. fault_by (fault_choice (word seed j)) j) (λ j. has_fault (word seed j)) 64 n has' room'))

  pub fault-without-room : (new : List Fault) → 64 ≤ length old → new ≡ old → new ≡ faults_of seed (n + 1)
  fault-without-room new full same =
      let full' : 64 ≤ length (faults_of seed n) = rw before at full in
      same ∙ before ∙ sym (firsts-full (λ j. fault_by (fault_choice (word seed j)) j) (λ j. has_fault (word seed j)) 64 n full')

  pub fault-none : (new : List Fault) → has_fault w ≡ false → new ≡ old → new ≡ faults_of seed (n + 1)
  fault-none new has same =
      let has' : has_fault (word seed (n + 1)) ≡ false = rw this at has in
      same ∙ before ∙ sym (firsts-over (λ j. fault_by (fault_choice (word seed j)) j) (λ j. has_fault (word seed j)) 64 n has')
