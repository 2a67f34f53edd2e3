-- Lists of steps.
use Rattle.std.proofs.Common.{◌≡◌, ℕ, zero, suc, ◌+◌, ◌%◌, ◌∷◌, [], ◌++◌, Bool, true, List, Some, inl, inr, refl, ap, ◌∙◌, arith, append_assoc, filter, length, slice_get}
use Rattle.std.specs.List.{flat_map, range_with_len}
use Rattle.std.proofs.lemmas.Bool.{cases_Bool}
use Rattle.std.proofs.lemmas.Grind.{flat_map-append}
use Rattle.std.proofs.lemmas.List.FromFn.{map-range_with_len_more}
use Rattle.std.specs.Prelude.{map}
use Rattle.cam_types.specs.declared.number.FrameNo.{FrameNo}
use Rattle.cam_types.specs.declared.number.StreamIx.{StreamIx}
use Rattle.reprocess_model.specs.declared.entry.ReEntry.{ReEntry}
use Rattle.reprocess_model.specs.declared.plan.Plan.{Plan}
use Rattle.reprocess_model.specs.declared.step.ReStepName.{ReStepName}
use Rattle.reprocess_model.specs.Run.{candidates, chosen, for_outputs, for_requests, is_ready, steps}
use Rattle.reprocess_model.specs.Plan.{requests}

row-more : (a n j : ℕ) → a + n ≡ j → range_with_len a (suc n) ≡ range_with_len a n ++ j ∷ []
row-more a zero j e = let same : a ≡ j = omega (arith, e) in ap (λ (x : ℕ). x ∷ []) same
row-more a (suc n) j e = ap (λ (xs : List ℕ). a ∷ xs) (row-more (a + 1) n j (omega (arith, e)))

-- the steps of one request more
pub more_requests : (xs : List ReStepName) (step : FrameNo → ReStepName) (n : ℕ) → xs ++ for_requests step (n + 1) ≡ (xs ++ for_requests step n) ++ step (record { 0 = n }) ∷ []
more_requests xs step n =
    let here : 0 + n ≡ n = omega arith in
    rw (map-range_with_len_more (λ k. step (record { 0 = k })) 0 n n here) (simp append_assoc refl)

three-more : (xs ys : List ReStepName) (a b c : ReStepName) → xs ++ (ys ++ a ∷ b ∷ c ∷ []) ≡ (((xs ++ ys) ++ a ∷ []) ++ b ∷ []) ++ c ∷ []
three-more xs ys a b c = simp append_assoc refl

-- the steps of the outputs of one request
abbrev of_request : (FrameNo → StreamIx → ReStepName) → ℕ → List ReStepName
of_request step k = map (λ s. step (record { 0 = k }) (record { 0 = s })) (range_with_len 0 3)

next-outputs : (step : FrameNo → StreamIx → ReStepName) (n : ℕ) → for_outputs step (n + 1) ≡ for_outputs step n ++ of_request step n
next-outputs step n =
    let next : n + 1 ≡ suc n = omega arith in
    let here : 0 + n ≡ n = omega arith in
    ap (λ (m : ℕ). for_outputs step m) next
    ∙ (ap (λ (row : List ℕ). flat_map (of_request step) row) (row-more 0 n n here)
    ∙ flat_map-append (of_request step) (range_with_len 0 n) (n ∷ []))

-- the steps of the outputs of one request more
pub more_outputs : (xs : List ReStepName) (step : FrameNo → StreamIx → ReStepName) (n : ℕ) → xs ++ for_outputs step (n + 1) ≡ (((xs ++ for_outputs step n) ++ step (record { 0 = n }) (record { 0 = 0 }) ∷ []) ++ step (record { 0 = n }) (record { 0 = 1 }) ∷ []) ++ step (record { 0 = n }) (record { 0 = 2 }) ∷ []
more_outputs xs step n =
    ap (λ (zs : List ReStepName). xs ++ zs) (next-outputs step n)
    ∙ three-more xs (for_outputs step n) (step (record { 0 = n }) (record { 0 = 0 })) (step (record { 0 = n }) (record { 0 = 1 })) (step (record { 0 = n }) (record { 0 = 2 }))

-- ---- the chosen step is ready

first-kept : {X : Type 0} (p : X → Bool) (y : X) (zs : List X) (i : ℕ) (x : X) → p y ≡ true → ((k : ℕ) → slice_get zs k ≡ Some x → p x ≡ true) → slice_get (y ∷ zs) i ≡ Some x → p x ≡ true
first-kept p y zs zero x passes rest h = let same : y ≡ x = cc in rw (← same) passes
first-kept p y zs (suc i) x passes rest h = rest i h

kept : {X : Type 0} (p : X → Bool) (xs : List X) (i : ℕ) (x : X) → slice_get (filter p xs) i ≡ Some x → p x ≡ true
kept p [] i x h = absurd (cc)
kept p (y ∷ ys) i x h =
    elim (cases_Bool (p y)) [
      | inl passes ↦ first-kept p y (filter p ys) i x passes (λ k at. kept p ys k x at) (rw passes at h)
      | inr fails ↦ kept p ys i x (rw fails at h)
    ]

pub chosen_ready : (plan : Plan) (past : List ReEntry) (pick : ℕ) (step : ReStepName) → chosen plan past pick ≡ Some step → is_ready plan past step ≡ true
chosen_ready plan past pick step h = kept (is_ready plan past) (steps (length (requests plan.commands))) (pick % length (candidates plan past)) step h
