-- The signallers that stand are those of the fences that aren't signalled.
use Rattle.std.proofs.Common.{arith, ◌≡◌, ◌<◌, ◌≤◌, ℕ, zero, suc, ◌==◌, ◌+◌, Bool, true, false, ◌&&◌, not, List, [], ◌∷◌, ◌++◌, refl, sym, ap, ◌∙◌, inl, inr, length, nat_lt, slice_index_or, slice_set, subst}
use Rattle.std.specs.List.{list_all}
use Rattle.std.proofs.lemmas.Bool.{and_from, cases_Bool, false≢true}
use Rattle.std.proofs.lemmas.Bool.Decides.{nat_tests}
use Rattle.cam_types.specs.declared.script.Script.{Script}
use Rattle.state_facts.specs.Clients.{Clients}
use Rattle.buffer_manager.specs.Managed.{Managed}
use Rattle.buffer_pool.specs.Fences.{FencesMade}
use Rattle.buffer_pool.specs.Pending.{Pending, are_below, stands, without}
use Rattle.client_calls.specs.Captures.{Captures}
use Rattle.device_core.specs.View.{DeviceView}
use Rattle.service_state.specs.Serving.{IsKept, unsignalled}

-- ---- the numbers from n on

-- none of them is less
early-none : (f n : ℕ) → f < n → (xs : List Bool) → stands f (unsignalled n xs) ≡ false
early-none f n less [] = refl
early-none f n less (true ∷ xs) = early-none f (n + 1) (omega (arith, less)) xs
early-none f n less (false ∷ xs) =
    let other : (n == f) ≡ false = grind (arith, nat_tests, less) in
    rw other (early-none f (n + 1) (omega (arith, less)) xs)

early-same : (f n : ℕ) → f < n → (xs : List Bool) → without f (unsignalled n xs) ≡ unsignalled n xs
early-same f n less [] = refl
early-same f n less (true ∷ xs) = early-same f (n + 1) (omega (arith, less)) xs
early-same f n less (false ∷ xs) =
    let other : (n == f) ≡ false = grind (arith, nat_tests, less) in
    rw (other, early-same f (n + 1) (omega (arith, less)) xs) refl

same-lt : (k m : ℕ) → nat_lt (suc k) (suc m) ≡ nat_lt k m
same-lt k m = elim (cases_Bool (nat_lt k m)) [
  | inl less ↦ (let more : nat_lt (suc k) (suc m) ≡ true = grind (arith, nat_tests, less) in more ∙ sym less)
  | inr not' ↦ (let more : nat_lt (suc k) (suc m) ≡ false = grind (arith, nat_tests, not') in more ∙ sym not')
]

-- fence n + k stands exactly where there is such a one, and it isn't signalled
pub stands_at : (k n : ℕ) (xs : List Bool) → stands (n + k) (unsignalled n xs) ≡ (nat_lt k (length xs) && not (slice_index_or xs k false))
stands_at k n [] = let never : nat_lt k 0 ≡ false = grind (arith, nat_tests) in rw never refl
stands_at zero n (true ∷ xs) =
    let some : nat_lt 0 (length (true ∷ xs)) ≡ true = grind (arith, nat_tests) in
    rw some (early-none (n + 0) (n + 1) (omega arith) xs)
stands_at zero n (false ∷ xs) =
    let here : (n == n + 0) ≡ true = grind (arith, nat_tests) in
    let some : nat_lt 0 (length (false ∷ xs)) ≡ true = grind (arith, nat_tests) in
    rw (here, some) refl
stands_at (suc k) n (true ∷ xs) =
    let place : n + suc k ≡ (n + 1) + k = omega arith in
    let rest : stands (n + suc k) (unsignalled (n + 1) xs) ≡ (nat_lt k (length xs) && not (slice_index_or xs k false)) = rw place (stands_at k (n + 1) xs) in
    rest ∙ ap (λ b. b && not (slice_index_or xs k false)) (sym (same-lt k (length xs)))
stands_at (suc k) n (false ∷ xs) =
    let place : n + suc k ≡ (n + 1) + k = omega arith in
    let other : (n == n + suc k) ≡ false = grind (arith, nat_tests) in
    let rest : stands (n + suc k) (unsignalled (n + 1) xs) ≡ (nat_lt k (length xs) && not (slice_index_or xs k false)) = rw place (stands_at k (n + 1) xs) in
    rw other (rest ∙ ap (λ b. b && not (slice_index_or xs k false)) (sym (same-lt k (length xs))))

-- once it is signalled it doesn't stand
pub without_at : (k n : ℕ) (xs : List Bool) → without (n + k) (unsignalled n xs) ≡ unsignalled n (slice_set xs k true)
without_at k n [] = refl
without_at zero n (true ∷ xs) = early-same (n + 0) (n + 1) (omega arith) xs
without_at zero n (false ∷ xs) =
    let here : (n == n + 0) ≡ true = grind (arith, nat_tests) in
    rw here (early-same (n + 0) (n + 1) (omega arith) xs)
without_at (suc k) n (true ∷ xs) =
    let place : n + suc k ≡ (n + 1) + k = omega arith in
    rw place (without_at k (n + 1) xs)
without_at (suc k) n (false ∷ xs) =
    let place : n + suc k ≡ (n + 1) + k = omega arith in
    let other : (n == n + suc k) ≡ false = grind (arith, nat_tests) in
    let rest : without (n + suc k) (unsignalled (n + 1) xs) ≡ unsignalled (n + 1) (slice_set xs k true) = rw place (without_at k (n + 1) xs) in
    rw other (ap (λ ys. n ∷ ys) rest)

-- one more fence, which isn't signalled
pub with_more : (n : ℕ) (xs : List Bool) → unsignalled n (xs ++ false ∷ []) ≡ unsignalled n xs ++ (n + length xs) ∷ []
with_more n [] = let place : n ≡ n + 0 = omega arith in rw (sym place) refl
with_more n (true ∷ xs) =
    let place : n + length (true ∷ xs) ≡ (n + 1) + length xs = omega arith in
    rw place (with_more (n + 1) xs)
with_more n (false ∷ xs) =
    let place : n + length (false ∷ xs) ≡ (n + 1) + length xs = omega arith in
    rw place (ap (λ ys. n ∷ ys) (with_more (n + 1) xs))

-- all of them are less than the next
pub all_below : (n : ℕ) (xs : List Bool) → are_below (n + length xs) (unsignalled n xs) ≡ true
all_below n [] = refl
all_below n (true ∷ xs) =
    let place : n + length (true ∷ xs) ≡ (n + 1) + length xs = omega arith in
    rw place (all_below (n + 1) xs)
all_below n (false ∷ xs) =
    let place : n + length (false ∷ xs) ≡ (n + 1) + length xs = omega arith in
    let one : nat_lt n (n + length (false ∷ xs)) ≡ true = grind (arith, nat_tests) in
    and_from (nat_lt n (n + length (false ∷ xs))) (are_below (n + length (false ∷ xs)) (unsignalled (n + 1) xs)) one (rw place (all_below (n + 1) xs))

-- and there are no more than fences
pub no_more : (n : ℕ) (xs : List Bool) → length (unsignalled n xs) ≤ length xs
no_more n [] = omega arith
no_more n (true ∷ xs) = let rest = no_more (n + 1) xs in omega (arith, rest)
no_more n (false ∷ xs) = let rest = no_more (n + 1) xs in omega (arith, rest)

-- none stands exactly where all are signalled
pub none_stands : (n : ℕ) (xs : List Bool) → (length (unsignalled n xs) == 0) ≡ list_all (λ b. b) xs
none_stands n [] = refl
none_stands n (true ∷ xs) = none_stands (n + 1) xs
none_stands n (false ∷ xs) = let some : (length (unsignalled n (false ∷ xs)) == 0) ≡ false = grind (arith, nat_tests) in some

-- a number that doesn't stand isn't taken out
pub without_none : (f : ℕ) (numbers : List ℕ) → stands f numbers ≡ false → without f numbers ≡ numbers
without_none f [] none = refl
without_none f (n ∷ numbers) none = by (n == f) refl none (without_none f numbers)
  where
    by : (b : Bool) → (n == f) ≡ b → stands f (n ∷ numbers) ≡ false → (stands f numbers ≡ false → without f numbers ≡ numbers) → without f (n ∷ numbers) ≡ n ∷ numbers
    by true here none' rest = absurd (false≢true (sym (let e : stands f (n ∷ numbers) ≡ true = rw here refl in sym e ∙ none')))
    by false other none' rest = let e : stands f numbers ≡ false = sym (rw other refl) ∙ none' in rw other (ap (λ xs. n ∷ xs) (rest e))

-- ---- the numbers from 0 on

pub stands_first : (f : ℕ) (xs : List Bool) → stands f (unsignalled 0 xs) ≡ (nat_lt f (length xs) && not (slice_index_or xs f false))
stands_first f xs = let place : 0 + f ≡ f = omega arith in subst (λ k. stands k (unsignalled 0 xs) ≡ (nat_lt f (length xs) && not (slice_index_or xs f false))) place (stands_at f 0 xs)

pub without_first : (f : ℕ) (xs : List Bool) → without f (unsignalled 0 xs) ≡ unsignalled 0 (slice_set xs f true)
without_first f xs = let place : 0 + f ≡ f = omega arith in subst (λ k. without k (unsignalled 0 xs) ≡ unsignalled 0 (slice_set xs f true)) place (without_at f 0 xs)

pub with_first : (xs : List Bool) → unsignalled 0 (xs ++ false ∷ []) ≡ unsignalled 0 xs ++ length xs ∷ []
with_first xs = let place : 0 + length xs ≡ length xs = omega arith in subst (λ k. unsignalled 0 (xs ++ false ∷ []) ≡ unsignalled 0 xs ++ k ∷ []) place (with_more 0 xs)

pub below_first : (xs : List Bool) → are_below (length xs) (unsignalled 0 xs) ≡ true
below_first xs = let place : 0 + length xs ≡ length xs = omega arith in subst (λ k. are_below k (unsignalled 0 xs) ≡ true) place (all_below 0 xs)

-- a fence that has its signaller may be signalled
pub may_be_signalled : (f : ℕ) (xs : List Bool) (numbers : List ℕ) → numbers ≡ unsignalled 0 xs → stands f numbers ≡ true → (nat_lt f (length xs) && not (slice_index_or xs f false)) ≡ true
may_be_signalled f xs numbers same there =
    let first : stands f (unsignalled 0 xs) ≡ true = rw (sym same) there in
    sym (stands_first f xs) ∙ first

-- the parts are kept where just fences and signallers change, and still agree
pub kept_with : (script : Script) (client : Clients) (captures : Captures) (buffers : Managed) (fences fences' : FencesMade) (signals signals' : Pending) (device : DeviceView) → IsKept script client captures buffers fences signals device → fences'.room ≡ fences.room → signals'.room ≡ signals.room → signals'.numbers ≡ unsignalled 0 fences'.signalled → IsKept script client captures buffers fences' signals' device
kept_with script client captures buffers fences fences' signals signals' device v fence_room signal_room signallers = record {
  faults = v.faults;
  depth = v.depth;
  profile = v.profile;
  requests = v.requests;
  fence_room = fence_room ∙ v.fence_room;
  signal_room = signal_room ∙ v.signal_room;
  early_room = v.early_room;
  plan = v.plan;
  specs = v.specs;
  signallers = signallers;
}
