-- Whose turn it is.
use Rattle.std.proofs.Common.{◌≡◌, ◌≢◌, ◌↔◌, ℕ, ◌-◌, ◌%◌, ◌/◌, ◌==◌, ◌⊎◌, Bool, true, false, refl, sym, ap, ◌∙◌, arith, inl, inr, subst, IsTrue}
use Rattle.std.proofs.lemmas.Bool.{cases_Bool, cases_eq, eq-eqb, eqb-true, false≢true}
use Rattle.logical_call.specs.Both.{Both, camera}
use Rattle.logical_call.specs.Turns.{AnswersStep, IsFinished, IsOver, IsStepOf, IsTurn}
use Rattle.logical_call.specs.Whose.{turn_of}
use Rattle.logical_call.specs.declared.logical.LogicalStep.{LogicalStep}
use Rattle.logical_call.specs.declared.logical.LogicalStep.TheVariants.{Did, Finished}
use Rattle.logical_call.specs.declared.turn.Turn.TheVariants.{First, Second, Over}

odd : (pick : ℕ) → pick % 2 ≢ 0 → pick % 2 ≡ 1
odd pick h = omega (arith, h)

-- the first camera's, where the second's run is complete or the pick is even
pub first-turn : (both : Both) (pick : ℕ) → ¬ IsOver (camera 0 both) → (IsOver (camera 1 both)) ⊎ (pick % 2 ≡ 0) → IsTurn both pick 0
first-turn both pick going (inr even) = record { going = going; named = inl (sym even) }
first-turn both pick going (inl over) = elim (cases_eq (pick % 2) 0) [
  | inl even ↦ record { going = going; named = inl (sym even) }
  | inr other ↦ (
      let is = odd pick other in
      record { going = going; named = inr (sym (ap (λ (k : ℕ). 1 - k) is), subst (λ (k : ℕ). IsOver (camera k both)) (sym is) over) }
      )
]

-- the second camera's, where the first's run is complete or the pick is odd
pub second-turn : (both : Both) (pick : ℕ) → ¬ IsOver (camera 1 both) → (IsOver (camera 0 both)) ⊎ (pick % 2 ≢ 0) → IsTurn both pick 1
second-turn both pick going (inr other) = record { going = going; named = inl (sym (odd pick other)) }
second-turn both pick going (inl over) = elim (cases_eq (pick % 2) 0) [
  | inl even ↦ record { going = going; named = inr (sym (ap (λ (k : ℕ). 1 - k) even), subst (λ (k : ℕ). IsOver (camera k both)) (sym even) over) }
  | inr other ↦ record { going = going; named = inl (sym (odd pick other)) }
]

-- ---- by which runs are complete

pub turn-first : (pick : ℕ) (both : Both) (a b : Bool) → (IsTrue a ↔ IsOver (camera 0 both)) → (IsTrue b ↔ IsOver (camera 1 both)) → turn_of pick a b ≡ First → IsTurn both pick 0
turn-first pick both true true f s is = absurd (cc)
turn-first pick both true false f s is = absurd (cc)
turn-first pick both false true f s is = first-turn both pick (λ over. false≢true (f.1 over)) (inl (s.0 refl))
turn-first pick both false false f s is = elim (cases_Bool (pick % 2 == 0)) [
  | inl even ↦ first-turn both pick (λ over. false≢true (f.1 over)) (inr (eqb-true (pick % 2) 0 even))
  | inr other ↦ (let is' = rw other at is in absurd (cc))
]

pub turn-second : (pick : ℕ) (both : Both) (a b : Bool) → (IsTrue a ↔ IsOver (camera 0 both)) → (IsTrue b ↔ IsOver (camera 1 both)) → turn_of pick a b ≡ Second → IsTurn both pick 1
turn-second pick both true true f s is = absurd (cc)
turn-second pick both true false f s is = second-turn both pick (λ over. false≢true (s.1 over)) (inl (f.0 refl))
turn-second pick both false true f s is = absurd (cc)
turn-second pick both false false f s is = elim (cases_Bool (pick % 2 == 0)) [
  | inl even ↦ (let is' = rw even at is in absurd (cc))
  | inr other ↦ second-turn both pick (λ over. false≢true (s.1 over)) (inr (λ zero'. false≢true (sym other ∙ eq-eqb (pick % 2) 0 zero')))
]

pub turn-over : (pick : ℕ) (both : Both) (a b : Bool) → (IsTrue a ↔ IsOver (camera 0 both)) → (IsTrue b ↔ IsOver (camera 1 both)) → turn_of pick a b ≡ Over → IsFinished both both
turn-over pick both true true f s is = record { first = f.0 refl; second = s.0 refl; same = refl }
turn-over pick both true false f s is = absurd (cc)
turn-over pick both false true f s is = absurd (cc)
turn-over pick both false false f s is = elim (cases_Bool (pick % 2 == 0)) [
  | inl even ↦ (let is' = rw even at is in absurd (cc))
  | inr other ↦ (let is' = rw other at is in absurd (cc))
]

-- a step of the camera whose turn it is answers the pick
pub answered : (pick c : ℕ) (both new : Both) (step : LogicalStep) → IsTurn both pick c → IsStepOf c both (pick / 2) step new → AnswersStep both pick step new
answered pick c both new (Did d entry pair) turn is = (rw is.0 turn, rw is.0 is.1)
answered pick c both new Finished turn is = absurd is
