-- What the definitions ask of a past is read from the state.
use Rattle.std.proofs.Common.{◌≡◌, ℕ, ◌+◌, ◌-◌, ◌<◌, ◌≤◌, ◌&&◌, not, Bool, true, false, List, [], ◌∷◌, Option, Some, None, refl, sym, ap, ◌∙◌, arith, inl, inr, map, filter, find, length, nat_le, nat_lt, if◌then◌else◌}
use Rattle.std.specs.List.{range_with_len}
use Rattle.std.proofs.lemmas.Bool.{cases_Bool, cases_lt, false≢true, le-leb}
use Rattle.std.proofs.lemmas.Bool.Decides.{nat_tests}
use Rattle.std.proofs.lemmas.List.{get_or_past}
use Rattle.std.proofs.lemmas.List.Folds.{list_all-map}
use Rattle.std.proofs.lemmas.List.FromFn.{get_or-map-range_with_len, length-map-range_with_len}
use Rattle.cam_types.specs.declared.number.DeviceFenceNo.{DeviceFenceNo}
use Rattle.cam_types.specs.declared.script.Script.{Script}
use Rattle.trace_model.specs.declared.entry.Entry.{Entry}
use Rattle.trace_model.specs.declared.entry.Entry.TheVariants.{Release, Signal}
use Rattle.trace_model.specs.Complete.{is_all_signalled}
use Rattle.trace_model.specs.Configuration.{buffers_of, is_buffer, made, made_count}
use Rattle.trace_model.specs.Fence.{early_fence_of, fence_of, is_late, is_signalled, is_there}
use Rattle.trace_model.specs.Legal.{IsLegal}
use Rattle.trace_model.specs.Numbers.{next_early, next_fence}
use Rattle.trace_model.specs.Place.{Place, Pool, Device, Client, all_in_pool, is_at, place}
use Rattle.trace_model.specs.Release.{release_due, signal_due}
use Rattle.trace_model.specs.Send.{at_device_count, least_in_pool}
use Rattle.trace_laws.proofs.Settled.{not-late}
use Rattle.state_facts.specs.Homes.{all_home, all_signalled, at_device_in, held_in, late_in, there_in, least_in, release_in, signal_in, count_in, fence_in, first_buffer, homes, numbers, place_in, signalled_in}
use Rattle.state_facts.proofs.Made.{buffer-within, next-buffer, pool-is}
use Rattle.state_facts.proofs.Own.{out-own}
use Rattle.state_facts.proofs.Signals.{all-signalled, unsignalled}
use Rattle.trace_laws.proofs.FenceLemmas.{at_client}

-- ---- places and fences

pub in-pool : (p : Place) → is_at p Pool ≡ true → p ≡ Pool
in-pool Pool h = refl
in-pool _ h = absurd (false≢true h)

-- a number that isn't of the configuration is in the pool
other-home : (script : Script) (past : List Entry) (b : ℕ) → IsLegal script past → ((first_buffer past ≤ b) × (b < first_buffer past + count_in (made past)) → ⊥) → place b past ≡ Pool
other-home script past b legal other = elim (cases_Bool (is_at (place b past) Pool)) [
  | inl home ↦ in-pool (place b past) home
  | inr out ↦ absurd (other (buffer-within script past b legal (out-own script past b legal out)))
]

pub place_is : (script : Script) (past : List Entry) (b : ℕ) → IsLegal script past → place b past ≡ place_in (homes past) b
place_is script past b legal =
    let first = first_buffer past in
    let count = count_in (made past) in
    elim (cases_lt b first) [
      | inl below ↦ (let low : nat_le first b ≡ false = grind (arith, nat_tests, below) in rw low (other-home script past b legal (λ h. absurd (omega (arith, h.0, below)))))
      | inr low ↦ rw (le-leb first b low) (elim (cases_lt b (first + count)) [
        | inl within ↦ sym (get_or-map-range_with_len (λ c. place c past) first count (b - first) b Pool (omega (arith, low, within)) (omega (arith, low)))
        | inr above ↦ other-home script past b legal (λ h. absurd (omega (arith, h.1, above))) ∙ sym (get_or_past (map (λ c. place c past) (numbers past)) (b - first) Pool (rw (length-map-range_with_len (λ c. place c past) first count) (omega (arith, low, above))))
      ])
    ]

pub fence_is : (script : Script) (past : List Entry) (b : ℕ) → IsLegal script past → is_buffer past b ≡ true → fence_of b past ≡ fence_in (homes past) b
fence_is script past b legal own =
    let at = buffer-within script past b legal own in
    sym (get_or-map-range_with_len (λ c. fence_of c past) (first_buffer past) (count_in (made past)) (b - first_buffer past) b None (omega (arith, at.0, at.1)) (omega (arith, at.0)))

pub pool_is : (script : Script) (past : List Entry) → IsLegal script past → all_in_pool past ≡ all_home (homes past)
pool_is script past legal = pool-is script past legal ∙ sym (list_all-map (λ p. is_at p Pool) (λ b. place b past) (numbers past))

-- ---- fences that are signalled

pub signalled_is : (script : Script) (past : List Entry) (f : ℕ) → IsLegal script past → is_signalled f past ≡ signalled_in (homes past) f
signalled_is script past f legal = elim (cases_lt f (next_fence past)) [
  | inl below ↦ sym (get_or-map-range_with_len (λ g. is_signalled g past) 0 (next_fence past) f f false below (omega arith))
  | inr above ↦ unsignalled script past f legal above ∙ sym (get_or_past (map (λ g. is_signalled g past) (range_with_len 0 (next_fence past))) f false (rw (length-map-range_with_len (λ g. is_signalled g past) 0 (next_fence past)) above))
]

pub late_is : (script : Script) (past : List Entry) (d : ℕ) → IsLegal script past → is_late d past ≡ late_in (homes past) d
late_is script past d legal = elim (cases_lt d (next_early past)) [
  | inl below ↦ sym (get_or-map-range_with_len (λ g. is_late g past) 0 (next_early past) d d false below (omega arith))
  | inr above ↦ not-late script past d legal above ∙ sym (get_or_past (map (λ g. is_late g past) (range_with_len 0 (next_early past))) d false (rw (length-map-range_with_len (λ g. is_late g past) 0 (next_early past)) above))
]

pub earlies_are : (past : List Entry) → next_early past ≡ length (homes past).late
earlies_are past = sym (length-map-range_with_len (λ d. is_late d past) 0 (next_early past))

pub held_is : (script : Script) (past : List Entry) (b : ℕ) → IsLegal script past → is_buffer past b ≡ true → early_fence_of b past ≡ held_in (homes past) b
held_is script past b legal own =
    let at = buffer-within script past b legal own in
    sym (get_or-map-range_with_len (λ c. early_fence_of c past) (first_buffer past) (count_in (made past)) (b - first_buffer past) b None (omega (arith, at.0, at.1)) (omega (arith, at.0)))

there-is : (script : Script) (past : List Entry) (o : Option DeviceFenceNo) → IsLegal script past → is_there o past ≡ there_in (homes past) o
there-is script past None legal = refl
there-is script past (Some d) legal = late_is script past d.0 legal

pub fences_are : (past : List Entry) → next_fence past ≡ length (homes past).signalled
fences_are past = sym (length-map-range_with_len (λ f. is_signalled f past) 0 (next_fence past))

pub all_signalled_is : (script : Script) (past : List Entry) → IsLegal script past → is_all_signalled past ≡ all_signalled (homes past)
all_signalled_is script past legal = all-signalled script past legal

pub made_is : (past : List Entry) → made_count past ≡ first_buffer past + length (homes past).places
made_is past = rw (length-map-range_with_len (λ b. place b past) (first_buffer past) (count_in (made past))) (next-buffer past)

-- ---- what is due

-- (over plain variables, since `rw` would also rewrite inside the state)
release-by : (b n m : ℕ) (p q s t : Bool) → p ≡ q → n ≡ m → (p ≡ true → s ≡ t) → ◌≡◌ {A = Option Entry} (if p && s then Some (Release (record { 0 = b }) (record { 0 = n })) else None) (if q && t then Some (Release (record { 0 = b }) (record { 0 = m })) else None)
release-by b n m true q s t x y z = rw (← x, y, z refl) refl
release-by b n m false q s t x y z = rw (← x) refl

pub release_is : (script : Script) (past : List Entry) (b : ℕ) → IsLegal script past → release_due past b ≡ release_in (homes past) b
release_is script past b legal =
    release-by b (next_fence past) (length (homes past).signalled) (is_at (place b past) Client) (is_at (place_in (homes past) b) Client) (is_there (early_fence_of b past) past) (there_in (homes past) (held_in (homes past) b))
    (ap (λ p. is_at p Client) (place_is script past b legal)) (fences_are past)
    (λ client. there-is script past (early_fence_of b past) legal ∙ ap (λ o. there_in (homes past) o) (held_is script past b legal (out-own script past b legal (at_client (place b past) client))))

signal-by : (f n m : ℕ) (s t : Bool) → n ≡ m → s ≡ t → ◌≡◌ {A = Option Entry} (if nat_lt f n && not s then Some (Signal (record { 0 = f })) else None) (if nat_lt f m && not t then Some (Signal (record { 0 = f })) else None)
signal-by f n m s t x y = rw (x, y) refl

pub signal_is : (script : Script) (past : List Entry) (f : ℕ) → IsLegal script past → signal_due past f ≡ signal_in (homes past) f
signal_is script past f legal = signal-by f (next_fence past) (length (homes past).signalled) (is_signalled f past) (signalled_in (homes past) f) (fences_are past) (signalled_is script past f legal)

-- ---- a stream's buffers

filter-agree : (p q : ℕ → Bool) (xs : List ℕ) → ((x : ℕ) → p x ≡ q x) → filter p xs ≡ filter q xs
filter-agree p q [] h = refl
filter-agree p q (x ∷ xs) h = rw (h x, filter-agree p q xs h) refl

find-agree : (p q : ℕ → Bool) (xs : List ℕ) → ((x : ℕ) → p x ≡ q x) → find p xs ≡ find q xs
find-agree p q [] h = refl
find-agree p q (x ∷ xs) h = rw (h x, find-agree p q xs h) refl

pub at_device_is : (script : Script) (past : List Entry) (s : ℕ) → IsLegal script past → at_device_count past s ≡ at_device_in (homes past) s
at_device_is script past s legal =
    ap (λ (xs : List ℕ). length xs) (filter-agree (λ b. is_at (place b past) Device) (λ b. is_at (place_in (homes past) b) Device) (buffers_of past s) (λ b. ap (λ p. is_at p Device) (place_is script past b legal)))

pub least_is : (script : Script) (past : List Entry) (s : ℕ) → IsLegal script past → least_in_pool past s ≡ least_in (homes past) s
least_is script past s legal =
    find-agree (λ b. is_at (place b past) Pool) (λ b. is_at (place_in (homes past) b) Pool) (buffers_of past s) (λ b. ap (λ p. is_at p Pool) (place_is script past b legal))
