-- Generated scripts are valid, and have patterns and streams of a byte.
use Rattle.std.proofs.Common.{◌≡◌, ℕ, ◌+◌, ◌*◌, ◌≤◌, Bool, true, false, ◌||◌, List, [], ◌∷◌, ◌++◌, map, take, refl, arith, nat_le}
use Rattle.std.specs.Prelude.{sum_by, length}
use Rattle.std.specs.List.{filter, list_all, list_any}
use Rattle.std.proofs.lemmas.List.{length-append, length-map, length-take}
use Rattle.std.proofs.lemmas.List.Folds.{list_any-append}
use Rattle.std.proofs.lemmas.List.FromFn.{length-range_with_len}
use Rattle.std.proofs.lemmas.List.Sums.{sum_by-append, sum_by-cons}
use Rattle.std.proofs.lemmas.Bool.{and_from}
use Rattle.std.proofs.lemmas.Bool.Decides.{nat_tests}
use Rattle.basic_lemmas.proofs.Lists.{all-always, all-append, all-mapped}
use Rattle.cam_types.specs.Script.{awaited_by, command_fits, is_closing_command, is_valid}
use Rattle.cam_types.specs.declared.script.Command.{Command}
use Rattle.cam_types.specs.declared.script.Command.TheVariants.{Configure, Close}
use Rattle.trace_laws.specs.Typed.{command_typed, is_typed}
use Rattle.play_calls.specs.Words.{word}
use Rattle.play_calls.specs.Generated.{command_of, commands_of, fault_by, fault_choice, faults_of, generated, has_fault, numbers, two_streams}
use Rattle.play_calls.proofs.Commands.{command-awaits, command-fits, command-typed}
use Rattle.basic_lemmas.proofs.Tests.{or-true}

sum-most : {X : Type 0} (f : X → ℕ) (g : ℕ → X) → ((j : ℕ) → f (g j) ≤ 4) → (js : List ℕ) → sum_by f (map g js) ≤ length js * 4
sum-most f g each [] = omega arith
sum-most f g each (j ∷ js) =
    let more : sum_by f (map g (j ∷ js)) ≡ f (g j) + sum_by f (map g js) = sum_by-cons f (g j) (map g js) in
    let longer : length (j ∷ js) ≡ 1 + length js = omega arith in
    omega (arith, more, longer, each j, sum-most f g each js)

-- a test that the first, each word's and the last command pass
all-commands : (p : Command → Bool) → p (Configure two_streams) ≡ true → ((w : ℕ) → p (command_of w) ≡ true) → p Close ≡ true → (seed count : ℕ) → list_all p (commands_of seed count) ≡ true
all-commands p first each last seed count =
    let mapped : list_all p (map (λ j. command_of (word seed j)) (numbers count)) ≡ true =
    rw (all-mapped p (λ j. command_of (word seed j)) (numbers count)) (all-always (λ j. p (command_of (word seed j))) (numbers count) (λ j. each (word seed j))) in
    let closing : list_all p (Close ∷ []) ≡ true = and_from (p Close) true last refl in
    and_from _ _ first (all-append p (map (λ j. command_of (word seed j)) (numbers count)) (Close ∷ []) mapped closing)

commands-count : (seed count : ℕ) → length (commands_of seed count) ≡ count + 2
commands-count seed count =
    let commands = length-map (numbers count) (λ j. command_of (word seed j)) in
    let all = length-append (map (λ j. command_of (word seed j)) (numbers count)) (Close ∷ []) in
    omega (arith, commands, all, length-range_with_len 1 count)

faults-count : (seed count : ℕ) → length (faults_of seed count) ≤ 64
faults-count seed count =
    let same = length-map (take 64 (filter (λ j. has_fault (word seed j)) (numbers count))) (λ j. fault_by (fault_choice (word seed j)) j) in
    let few = length-take 64 (filter (λ j. has_fault (word seed j)) (numbers count)) in
    omega (arith, same, few)

awaited-few : (seed count : ℕ) → sum_by awaited_by (commands_of seed count) ≤ count * 4
awaited-few seed count =
    let words = sum-most awaited_by (λ j. command_of (word seed j)) (λ j. command-awaits (word seed j)) (numbers count) in
    let all = sum_by-append awaited_by (map (λ j. command_of (word seed j)) (numbers count)) (Close ∷ []) in
    let many = length-range_with_len 1 count in
    omega (arith, rw many at words, all)

any-last : {X : Type 0} (p : X → Bool) (xs : List X) (x : X) → p x ≡ true → list_any p (xs ++ x ∷ []) ≡ true
any-last p xs x h = rw (list_any-append p xs (x ∷ []), h) (or-true (list_any p xs))

closes : (seed count : ℕ) → list_any is_closing_command (commands_of seed count) ≡ true
closes seed count = any-last is_closing_command (map (λ j. command_of (word seed j)) (numbers count)) Close refl

pub generated_valid : (seed count : ℕ) → count ≤ 200 → is_valid (generated seed count) ≡ true
unfolding generated
generated_valid seed count few =
    let faults : nat_le (length (faults_of seed count)) 64 ≡ true = grind (arith, nat_tests, faults-count seed count) in
    let commands : nat_le (length (commands_of seed count)) 512 ≡ true = rw (commands-count seed count) (grind (arith, nat_tests, few)) in
    let awaited : nat_le (sum_by awaited_by (commands_of seed count)) 16384 ≡ true = grind (arith, nat_tests, awaited-few seed count, few) in
    let fit : list_all command_fits (commands_of seed count) ≡ true = all-commands command_fits refl command-fits refl seed count in
    and_from _ _ faults (and_from _ _ commands (and_from _ _ fit (and_from _ _ awaited (closes seed count))))

pub generated_typed : (seed count : ℕ) → is_typed (generated seed count) ≡ true
unfolding generated
generated_typed seed count = all-commands command_typed refl command-typed refl seed count
