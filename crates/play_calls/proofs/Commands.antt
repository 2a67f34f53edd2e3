-- What holds of the command of every word.
use Rattle.std.proofs.Common.{◌≡◌, ℕ, zero, suc, ◌+◌, ◌≤◌, ◌^◌, ◌==◌, Bool, true, false, [], ◌∷◌, replicate, refl, arith, nat_lt, nat_le, if◌then◌else◌}
use Rattle.std.specs.Prelude.{length}
use Rattle.std.specs.List.{list_all}
use Rattle.std.proofs.lemmas.Bool.{and_from}
use Rattle.std.proofs.lemmas.Bool.Decides.{nat_tests}
use Rattle.cam_types.specs.Script.{awaited_by, command_fits, item_fits, settings_fit, targets_fit}
use Rattle.cam_types.specs.declared.item.Targets.{Targets}
use Rattle.cam_types.specs.declared.script.Command.{Command}
use Rattle.cam_types.specs.declared.script.Command.TheVariants.{Configure, Once, Burst, Repeat, Stop, Wait, Await, Flush}
use Rattle.trace_laws.specs.Typed.{are_bytes, command_typed, item_typed}
use Rattle.trace_model.specs.Printable.{is_byte}
use Rattle.play_calls.specs.Generated.{command_of, extra_of, item_of, kind_of, level_of, pattern_of, target_choice, targets_by, two_streams}

either : {X : Type 0} (P : X → Type 0) (b : Bool) (x y : X) → P x → P y → P (if b then x else y)
either P true x y a b = a
either P false x y a b = b

-- what holds of each kind of command holds of every word's
by-kind : (P : Command → Type 0) (w : ℕ) → P (Once (item_of w)) → P (Burst (replicate (1 + extra_of w) (item_of w))) → P (Repeat (item_of w ∷ [])) → P (Await (1 + extra_of w)) → P Stop → P Flush → P Wait → P (Configure two_streams) → P (command_of w)
by-kind P w once burst repeat await stop flush wait configure =
    either P (nat_lt (kind_of w) 3) _ _ once
    (either P (nat_lt (kind_of w) 5) _ _ burst
    (either P (kind_of w == 5) _ _ repeat
    (either P (kind_of w == 6) _ _ await
    (either P (extra_of w == 0) _ _ stop
    (either P (extra_of w == 1) _ _ flush
    (either P (extra_of w == 2) _ _ wait configure))))))

all-copies : {X : Type 0} (p : X → Bool) (n : ℕ) (x : X) → p x ≡ true → list_all p (replicate n x) ≡ true
all-copies p zero x one = refl
all-copies p (suc n) x one = and_from (p x) (list_all p (replicate n x)) one (all-copies p n x one)

copies-length : {X : Type 0} (n : ℕ) (x : X) → length (replicate n x) ≡ n
copies-length zero x = refl
copies-length (suc n) x = rw (copies-length n x) refl

-- the targets of each choice
targets-fit : (choice : ℕ) → targets_fit (targets_by choice) ≡ true
targets-fit choice =
    either (λ (t : Targets). targets_fit t ≡ true) (choice == 0) _ _ refl
    (either (λ (t : Targets). targets_fit t ≡ true) (choice == 1) _ _ refl refl)

targets-typed : (choice : ℕ) → are_bytes (targets_by choice).list ≡ true
targets-typed choice =
    either (λ (t : Targets). are_bytes t.list ≡ true) (choice == 0) _ _ refl
    (either (λ (t : Targets). are_bytes t.list ≡ true) (choice == 1) _ _ refl refl)

item-fits : (w : ℕ) → item_fits (item_of w) ≡ true
item-fits w =
    let low : nat_lt (level_of w) (2 ^ 31) ≡ true = grind (arith, nat_tests) in
    and_from (settings_fit (item_of w).settings) (targets_fit (targets_by (target_choice w))) (rw low refl) (targets-fit (target_choice w))

item-typed : (w : ℕ) → item_typed (item_of w) ≡ true
item-typed w =
    let low : is_byte (pattern_of w) ≡ true = grind (arith, nat_tests) in
    and_from (is_byte (pattern_of w)) (are_bytes (targets_by (target_choice w)).list) low (targets-typed (target_choice w))

burst-fits : (w : ℕ) → command_fits (Burst (replicate (1 + extra_of w) (item_of w))) ≡ true
burst-fits w =
    let few : nat_le (length (replicate (1 + extra_of w) (item_of w))) 32 ≡ true = rw (copies-length (1 + extra_of w) (item_of w)) (grind (arith, nat_tests)) in
    and_from _ _ few (all-copies item_fits (1 + extra_of w) (item_of w) (item-fits w))

pub command-fits : (w : ℕ) → command_fits (command_of w) ≡ true
command-fits w =
    by-kind (λ (c : Command). command_fits c ≡ true) w (item-fits w) (burst-fits w) (rw (item-fits w) refl)
    (let some : nat_lt 0 (1 + extra_of w) ≡ true = grind (arith, nat_tests) in some) refl refl refl refl

pub command-typed : (w : ℕ) → command_typed (command_of w) ≡ true
command-typed w =
    by-kind (λ (c : Command). command_typed c ≡ true) w (item-typed w) (all-copies item_typed (1 + extra_of w) (item_of w) (item-typed w)) (rw (item-typed w) refl)
    refl refl refl refl refl

-- no word's command waits for more than four frames
pub command-awaits : (w : ℕ) → awaited_by (command_of w) ≤ 4
command-awaits w =
    by-kind (λ (c : Command). awaited_by c ≤ 4) w (omega arith) (omega arith) (omega arith)
    (let few : 1 + extra_of w ≤ 4 = omega arith in few) (omega arith) (omega arith) (omega arith) (omega arith)
