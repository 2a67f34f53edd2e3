-- What an answer says of the sink's count of faults.
use Rattle.std.proofs.Common.{◌≡◌, ◌≢◌, ◌≤◌, ◌⊎◌, ℕ, List, Option, Some, None, IfSome, inl, inr, arith, refl}
use Rattle.io_edge.specs.States.{SinkState}
use Rattle.call_parts.specs.Answers.{Answers, AreAnswers, TellsBy}
use Rattle.call_parts.specs.Ends.{CountsSink, CountsSource, ReadsBy}

not-three : (status : ℕ) → status ≤ 2 → (status ≡ 3) ⊎ (status ≡ 5) → ⊥
not-three status low (inl h) = absurd (omega (arith, low, h))
not-three status low (inr h) = absurd (omega (arith, low, h))

not-four : (status : ℕ) → status ≡ 4 → (status ≡ 3) ⊎ (status ≡ 5) → ⊥
not-four status is (inl h) = absurd (omega (arith, is, h))
not-four status is (inr h) = absurd (omega (arith, is, h))

-- a text was written with a status of an answer, or the sink failed
pub answered : (wanted : ℕ) (text : List ℕ) (status : ℕ) (before after : SinkState) → wanted ≤ 2 → Answers wanted text status before after → CountsSink status before after
answered wanted text status before after low (inl h) = record {
  failed = λ is. absurd (omega (arith, low, h.0, is));
  kept = λ _. h.1.1;
  unwritten = λ some. absurd (not-three status (omega (arith, low, h.0)) some);
}
answered wanted text status before after low (inr h) = record {
  failed = λ _. h.1.1;
  kept = λ other. absurd (other h.0);
  unwritten = λ some. absurd (not-four status h.0 some);
}

-- the same of a call that tells
pub told : (Belongs : ℕ → List ℕ → Type 0) (status : ℕ) (before after : SinkState) → AreAnswers Belongs → TellsBy Belongs status before after → CountsSink status before after
told Belongs status before after low (inl h) = record { failed = λ is. absurd (omega (arith, h.0, is)); kept = λ _. h.1.1; unwritten = λ _. h.1.0 }
told Belongs status before after low (inr (wanted, text, belongs, h)) =
    let small = low wanted text belongs in
    answered wanted text status before after (omega (arith, small)) h

-- the source has counted no fault
pub stays : (status before after : ℕ) → status ≢ 3 → after ≡ before → CountsSource status before after
stays status before after other same = record { failed = λ is. absurd (other is); kept = λ _. same }

-- nothing was answered
pub reads_nothing : (limit status : ℕ) (before after : Option (List ℕ)) → (status ≡ 3) ⊎ (status ≡ 5) → ReadsBy limit status before after
reads_nothing limit status before after (inl h) = record { done = λ is. absurd (omega (arith, h, is)); answered = λ three _. absurd (three h) }
reads_nothing limit status before after (inr h) = record { done = λ is. absurd (omega (arith, h, is)); answered = λ _ five. absurd (five h) }

-- where there is no memory, nothing is answered
pub nothing_read : (most : Option ℕ) (before after : Option (List ℕ)) → IfSome most (λ limit. ReadsBy limit 5 before after)
nothing_read None before after = tt
nothing_read (Some limit) before after = reads_nothing limit 5 before after (inr refl)
