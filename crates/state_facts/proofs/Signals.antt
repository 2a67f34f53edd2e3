-- Fences: which are released, and which of those are signalled.
use Rattle.std.proofs.Common.{◌≡◌, ℕ, ◌==◌, ◌+◌, ◌≤◌, Bool, true, false, ◌&&◌, ◌||◌, List, [], ◌∷◌, ◌++◌, refl, sym, ◌∙◌, arith, map, if◌then◌else◌}
use Rattle.std.specs.Prelude.{slice_set}
use Rattle.std.specs.List.{list_all, range_with_len}
use Rattle.std.proofs.lemmas.Bool.{ne_eqb}
use Rattle.std.proofs.lemmas.List.{map-append}
use Rattle.std.proofs.lemmas.List.Folds.{list_all-append, list_all-map}
use Rattle.cam_types.specs.declared.number.BufferId.{BufferId}
use Rattle.cam_types.specs.declared.number.DeviceFenceNo.{DeviceFenceNo}
use Rattle.cam_types.specs.declared.number.FenceNo.{FenceNo}
use Rattle.cam_types.specs.declared.number.FrameNo.{FrameNo}
use Rattle.cam_types.specs.declared.number.StreamIx.{StreamIx}
use Rattle.cam_types.specs.declared.script.Script.{Script}
use Rattle.trace_model.specs.declared.entry.Entry.{Entry}
use Rattle.trace_model.specs.declared.entry.Entry.TheVariants.{Release, Signal, Early, Late}
use Rattle.trace_model.specs.Complete.{is_all_signalled, released}
use Rattle.trace_model.specs.Entry.{is_early, is_release}
use Rattle.trace_model.specs.Fence.{is_late, is_signalled}
use Rattle.trace_model.specs.Legal.{IsLegal}
use Rattle.trace_model.specs.Numbers.{next_early, next_fence}
use Rattle.trace_laws.proofs.Shapes.{release-is, signal-is}
use Rattle.trace_laws.proofs.Settled.{not-late}
use Rattle.basic_lemmas.proofs.Ranges.{set-from}
use Rattle.basic_lemmas.proofs.Counts.{count-one}
use Rattle.basic_lemmas.proofs.Lists.{map-same}
use Rattle.basic_lemmas.proofs.Ranges.{range-more}

-- which fences so far are signalled
abbrev pub marks : List Entry → List Bool
marks past = map (λ f. is_signalled f past) (range_with_len 0 (next_fence past))

-- a fence that wasn't released isn't signalled
pub unsignalled : (script : Script) (past : List Entry) (f : ℕ) → IsLegal script past → next_fence past ≤ f → is_signalled f past ≡ false
unsignalled script [] f legal above = refl
unsignalled script (Release b g ∷ past) f legal above =
    let more = count-one is_release (Release b g) past refl in
    unsignalled script past f legal.1 (omega (arith, above, more))
unsignalled script (Signal g ∷ past) f legal above =
    let low = signal-is past g legal.0 in
    rw (ne_eqb g.0 f (λ at. absurd (omega (arith, low, above, at)))) (unsignalled script past f legal.1 above)
unsignalled script (e ∷ past) f legal above = unsignalled script past f legal.1 above

pub range-end : (n : ℕ) → range_with_len 0 (1 + n) ≡ range_with_len 0 n ++ n ∷ []
range-end n = let e : 1 + n ≡ n + 1 = omega arith in let e' : 0 + n ≡ n = omega arith in rw e (range-more 0 n 1 ∙ rw e' refl)

-- a release adds a fence that isn't signalled
pub marks-released : (script : Script) (past : List Entry) (b : BufferId) (f : FenceNo) → IsLegal script past → marks (Release b f ∷ past) ≡ marks past ++ false ∷ []
marks-released script past b f legal =
    let more : next_fence (Release b f ∷ past) ≡ 1 + next_fence past = count-one is_release (Release b f) past refl in
    let new = unsignalled script past (next_fence past) legal (omega arith) in
    rw (more, range-end (next_fence past), map-append (λ f. is_signalled f past) (range_with_len 0 (next_fence past)) (next_fence past ∷ []), new) refl

or-if : (x y : Bool) → (x || y) ≡ (if x then true else y)
or-if true y = refl
or-if false y = refl

-- a signal marks its fence
pub marks-signalled : (past : List Entry) (g : FenceNo) → marks (Signal g ∷ past) ≡ slice_set (marks past) g.0 true
marks-signalled past g =
    map-same (λ f. (g.0 == f) || is_signalled f past) (λ f. if g.0 == f then true else is_signalled f past) (range_with_len 0 (next_fence past)) (λ f. or-if (g.0 == f) (is_signalled f past))
    ∙ set-from (λ f. is_signalled f past) true g.0 0 g.0 (next_fence past) (omega arith)

-- ---- device fences

-- which device fences so far are signalled
abbrev pub late_marks : List Entry → List Bool
late_marks past = map (λ d. is_late d past) (range_with_len 0 (next_early past))

-- an early return adds a device fence that isn't signalled
pub marks-given : (script : Script) (past : List Entry) (n : FrameNo) (s : StreamIx) (b : BufferId) (d : DeviceFenceNo) → IsLegal script past → late_marks (Early n s b d ∷ past) ≡ late_marks past ++ false ∷ []
marks-given script past n s b d legal =
    let more : next_early (Early n s b d ∷ past) ≡ 1 + next_early past = count-one is_early (Early n s b d) past refl in
    let new = not-late script past (next_early past) legal (omega arith) in
    rw (more, range-end (next_early past), map-append (λ g. is_late g past) (range_with_len 0 (next_early past)) (next_early past ∷ []), new) refl

-- the device's signal marks it
pub marks-late : (past : List Entry) (g : DeviceFenceNo) (x : List ℕ) → late_marks (Late g x ∷ past) ≡ slice_set (late_marks past) g.0 true
marks-late past g x =
    map-same (λ d. (g.0 == d) || is_late d past) (λ d. if g.0 == d then true else is_late d past) (range_with_len 0 (next_early past)) (λ d. or-if (g.0 == d) (is_late d past))
    ∙ set-from (λ d. is_late d past) true g.0 0 g.0 (next_early past) (omega arith)

and-turned : (a b : Bool) → (a && b) ≡ (b && (a && true))
and-turned true true = refl
and-turned true false = refl
and-turned false true = refl
and-turned false false = refl

-- the released fences are those below the next number
released-all : (script : Script) (past : List Entry) (p : ℕ → Bool) → IsLegal script past → list_all p (released past) ≡ list_all p (range_with_len 0 (next_fence past))
released-all script [] p legal = refl
released-all script (Release b f ∷ past) p legal =
    let more : next_fence (Release b f ∷ past) ≡ 1 + next_fence past = count-one is_release (Release b f) past refl in
    let number = (release-is past b f legal.0).1 in
    rw (more, range-end (next_fence past), list_all-append p (range_with_len 0 (next_fence past)) (next_fence past ∷ []), number, released-all script past p legal.1) (and-turned (p (next_fence past)) (list_all p (range_with_len 0 (next_fence past))))
released-all script (e ∷ past) p legal = released-all script past p legal.1

pub all-signalled : (script : Script) (past : List Entry) → IsLegal script past → is_all_signalled past ≡ list_all (λ b. b) (marks past)
all-signalled script past legal =
    released-all script past (λ f. is_signalled f past) legal ∙ sym (list_all-map (λ b. b) (λ f. is_signalled f past) (range_with_len 0 (next_fence past)))
