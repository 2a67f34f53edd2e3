-- The search of a scene follows the path of its least step.
use Rattle.std.proofs.Common.{◌≡◌, ℕ, zero, suc, ◌+◌, ◌≤◌, refl, ap, sym, ◌∙◌, subst, arith}
use Rattle.std.specs.Prelude.{nat_le}
use Rattle.cam_types.specs.declared.item.Settings.{Settings}
use Rattle.auto_call.specs.Brightness.{least}
use Rattle.auto_call.specs.Scene.{seen, measured}
use Rattle.auto_call.specs.Search.{Search, step_of, narrowed, searched, IsWithin, Spans, IsHalved, decided, state_of}
use Rattle.auto_call.proofs.Least.{least-from, least-to, enough-is}
use Rattle.auto_call.proofs.Halves.{step-from, step-to, within-narrowed, spans-narrowed, halved-more, one-left, decided-at}

pub measured-within : (s : Settings) (target first frames : ℕ) → IsWithin (measured s target first frames)
unfolding measured
measured-within s target first zero = record { least = omega arith; ordered = omega arith; most = omega arith }
measured-within s target first (suc frames) = within-narrowed _ _ (measured-within s target first frames)

pub measured-halved : (s : Settings) (target first frames : ℕ) → IsHalved (measured s target first frames) frames
unfolding measured
measured-halved s target first zero = omega arith
measured-halved s target first (suc frames) =
    halved-more _ _ frames (measured-within s target first frames).ordered (measured-halved s target first frames)

-- a frame that the scene gives is bright enough just where its step is the least or above
pub seen-is : (s : Settings) (target n : ℕ) (search : Search) → s.pattern ≤ 1 → IsWithin search → seen s target n search ≡ narrowed (nat_le (least s target) (step_of search)) search
seen-is s target n search still h = ap (λ b. narrowed b search) (enough-is s target (step_of search) n still (step-from search h) (step-to search h))

pub spans-seen : (s : Settings) (target n : ℕ) (search : Search) → s.pattern ≤ 1 → IsWithin search → Spans search (least s target) → Spans (seen s target n search) (least s target)
spans-seen s target n search still h span =
    subst (λ (next : Search). Spans next (least s target)) (sym (seen-is s target n search still h)) (spans-narrowed search (least s target) span)

pub measured-spans : (s : Settings) (target first frames : ℕ) → s.pattern ≤ 1 → Spans (measured s target first frames) (least s target)
unfolding measured
measured-spans s target first zero still = record { from = least-from s target; to = least-to s target }
measured-spans s target first (suc frames) still = spans-seen s target (first + frames) (measured s target first frames) still (measured-within s target first frames) (measured-spans s target first frames still)

pub measured-searched : (s : Settings) (target first frames : ℕ) → s.pattern ≤ 1 → measured s target first frames ≡ searched (least s target) frames
unfolding measured searched
measured-searched s target first zero still = refl
measured-searched s target first (suc frames) still =
    seen-is s target (first + frames) (measured s target first frames) still (measured-within s target first frames)
    ∙ ap (λ search. narrowed (nat_le (least s target) (step_of search)) search) (measured-searched s target first frames still)

pub measured-decided : (s : Settings) (target first frames : ℕ) → s.pattern ≤ 1 → 10 ≤ frames → state_of (measured s target first frames) ≡ decided (least s target)
measured-decided s target first frames still h =
    let left = one-left (measured s target first frames) frames h (measured-halved s target first frames) in
    decided-at (measured s target first frames) (least s target) left (measured-spans s target first frames still)

-- one more frame of a scene
pub measured-more : (s : Settings) (target first frames : ℕ) → seen s target (first + frames) (measured s target first frames) ≡ measured s target first (suc frames)
unfolding measured
measured-more s target first frames = refl
