-- A history of two lists is as long as the list of steps.
use Rattle.std.proofs.Common.{◌≡◌, ℕ, ◌<◌, true, false, List, [], ◌∷◌, ◌++◌, Some, None, refl, sym, ap, ◌∙◌, suc, arith, length, reverse, length-append}
use Rattle.std.proofs.lemmas.Bool.{false≢true, true≢false}
use Rattle.std.proofs.lemmas.List.{length-reverse, reverse-append}
use Rattle.trace_model.specs.declared.entry.Entry.{Entry}
use Rattle.run_model.specs.declared.step.StepName.{StepName}
use Rattle.run_model.specs.declared.step.StepName.TheVariants.{SensorDone, TakeFill, FillDone}
use Rattle.run_model.specs.History.{is_silent, join}
use Rattle.run_model.specs.Inside.Fields.{IsKept}

pub join-length : (steps : List StepName) (entries : List Entry) → length (join steps entries) ≡ length steps
join-length [] entries = refl
join-length (SensorDone n ∷ steps) entries = ap suc (join-length steps entries)
join-length (TakeFill n s ∷ steps) entries = ap suc (join-length steps entries)
join-length (FillDone n s ∷ steps) entries = ap suc (join-length steps entries)
join-length (step ∷ steps) [] = ap suc (join-length steps [])
join-length (step ∷ steps) (e ∷ entries) = ap suc (join-length steps entries)

pub joined : (steps : List StepName) (entries : List Entry) → length (join (reverse steps) (reverse entries)) ≡ length steps
joined steps entries = join-length (reverse steps) (reverse entries) ∙ length-reverse steps

-- a log with less than its limit of moves has fewer steps than that
pub room-left : (steps : List StepName) (entries : List Entry) (limit : ℕ) → length (join (reverse steps) (reverse entries)) < limit → length steps < limit
room-left steps entries limit room = let l = joined steps entries in omega (arith, room, l)

-- what one more step with an entry makes of the two lists
pub joined-adding : (step : StepName) (e : Entry) (steps : List StepName) (entries : List Entry) → is_silent step ≡ false → join (step ∷ steps) (e ∷ entries) ≡ record { step = step; entry = Some e } ∷ join steps entries
joined-adding (SensorDone n) e steps entries h = absurd (true≢false h)
joined-adding (TakeFill n s) e steps entries h = absurd (true≢false h)
joined-adding (FillDone n s) e steps entries h = absurd (true≢false h)
joined-adding _ e steps entries h = refl

pub joined-silent : (step : StepName) (steps : List StepName) (entries : List Entry) → is_silent step ≡ true → join (step ∷ steps) entries ≡ record { step = step; entry = None } ∷ join steps entries
joined-silent (SensorDone n) steps entries h = refl
joined-silent (TakeFill n s) steps entries h = refl
joined-silent (FillDone n s) steps entries h = refl
joined-silent _ steps entries h = absurd (false≢true h)

pub added : (step : StepName) (e : Entry) (steps : List StepName) (entries : List Entry) → is_silent step ≡ false → join (reverse (steps ++ step ∷ [])) (reverse (entries ++ e ∷ [])) ≡ record { step = step; entry = Some e } ∷ join (reverse steps) (reverse entries)
added step e steps entries h = rw (reverse-append steps (step ∷ []), reverse-append entries (e ∷ [])) (joined-adding step e (reverse steps) (reverse entries) h)

pub added-silent : (step : StepName) (steps : List StepName) (entries : List Entry) → is_silent step ≡ true → join (reverse (steps ++ step ∷ [])) (reverse entries) ≡ record { step = step; entry = None } ∷ join (reverse steps) (reverse entries)
added-silent step steps entries h = rw (reverse-append steps (step ∷ [])) (joined-silent step (reverse steps) (reverse entries) h)

pub kept-adding : (step : StepName) (e : Entry) (steps : List StepName) (entries : List Entry) (limit first second : ℕ) → is_silent step ≡ false → length steps < limit → IsKept steps entries limit first second → IsKept (steps ++ step ∷ []) (entries ++ e ∷ []) limit first second
kept-adding step e steps entries limit first second h less kept =
    let a = length-append steps (step ∷ []) in
    let b = length-append entries (e ∷ []) in
    let fewer = kept.fewer in
    record {
      traced = rw (added step e steps entries h, kept.traced) (sym (reverse-append entries (e ∷ [])));
      fewer = omega (arith, a, b, fewer);
      within = omega (arith, a, less);
      steps_fit = kept.steps_fit;
      entries_fit = kept.entries_fit;
    }

pub kept-silent : (step : StepName) (steps : List StepName) (entries : List Entry) (limit first second : ℕ) → is_silent step ≡ true → length steps < limit → IsKept steps entries limit first second → IsKept (steps ++ step ∷ []) entries limit first second
kept-silent step steps entries limit first second h less kept =
    let a = length-append steps (step ∷ []) in
    let fewer = kept.fewer in
    record {
      traced = rw (added-silent step steps entries h) kept.traced;
      fewer = omega (arith, a, fewer);
      within = omega (arith, a, less);
      steps_fit = kept.steps_fit;
      entries_fit = kept.entries_fit;
    }
