-- What is told of an input that was read, and what that does to both ends.
use Rattle.std.proofs.Common.{◌≡◌, ◌≢◌, ◌<◌, ◌≤◌, ℕ, List, Option, Some, None, IfSome, inl, inr, arith, refl, length}
use Rattle.std.specs.Io.KnownBytes.{IsAtEnd}
use Rattle.io_edge.specs.States.{SinkState}
use Rattle.call_parts.specs.Answers.{AnswersWithMemory, AreAnswers, Tells, TellsBy}
use Rattle.call_parts.specs.Ends.{IsReadWhole, KeepsEnds}
use Rattle.call_parts.proofs.Sinks.{stays, told}

-- a status of an answer, 4 or 5
pub record IsAnswered (status : ℕ) : Type 0 where
  pub known : status ≤ 5
  pub no_usage : status ≢ 2
  pub read : status ≢ 3

is_answered : (Belongs : ℕ → List ℕ → Type 0) (status : ℕ) (before after : SinkState) → AreAnswers Belongs → TellsBy Belongs status before after → IsAnswered status
is_answered Belongs status before after few (inl h) = record { known = omega (arith, h.0); no_usage = λ e. omega (arith, h.0, e); read = λ e. omega (arith, h.0, e) }
is_answered Belongs status before after few (inr (wanted, text, belongs, inl h)) =
    let low = few wanted text belongs in
    record { known = omega (arith, h.0, low); no_usage = λ e. omega (arith, h.0, low, e); read = λ e. omega (arith, h.0, low, e) }
is_answered Belongs status before after few (inr (wanted, text, belongs, inr h)) = record { known = omega (arith, h.0); no_usage = λ e. omega (arith, h.0, e); read = λ e. omega (arith, h.0, e) }

-- the ends of a call that tells of what it read
pub told_ends : (Belongs : ℕ → List ℕ → Type 0) (limit status was is : ℕ) (left rest : Option (List ℕ)) (before after : SinkState) → AreAnswers Belongs → is ≡ was → IsReadWhole limit left rest → (status ≡ 0 → IsAtEnd rest) → TellsBy Belongs status before after → KeepsEnds limit status was is left rest before after
told_ends Belongs limit status was is left rest before after few same whole done tells =
    let answered = is_answered Belongs status before after few tells in
    record {
      source = stays status was is answered.read same;
      sink = told Belongs status before after few tells;
      read = record { done = done; answered = λ _ _. whole };
      known = answered.known;
      no_usage = answered.no_usage;
    }

-- the same of a refusal
pub refused_ends : (refusal : List ℕ) (limit status was is : ℕ) (left rest : Option (List ℕ)) (before after : SinkState) → is ≡ was → IfSome left (λ all. limit < length all) → AnswersWithMemory 1 refusal status before after → KeepsEnds limit status was is left rest before after
refused_ends refusal limit status was is left rest before after same long h =
    told_ends (λ wanted text. wanted ≡ 1) limit status was is left rest before after (λ wanted text one. omega (arith, one)) same (inr long) (λ e. absurd (not_done h e)) (tells h)
  where
    not_done : AnswersWithMemory 1 refusal status before after → status ≡ 0 → ⊥
    not_done (inl h) e = omega (arith, h.0, e)
    not_done (inr (inl h)) e = omega (arith, h.0, e)
    not_done (inr (inr h)) e = omega (arith, h.0, e)

    tells : AnswersWithMemory 1 refusal status before after → TellsBy (λ wanted text. wanted ≡ 1) status before after
    tells (inl h) = inl h
    tells (inr h) = inr (1, refusal, refl, h)

-- what is told of an input that was read
pub whole_told : (Belongs : List ℕ → ℕ → List ℕ → Type 0) (left : Option (List ℕ)) (input : List ℕ) (status : ℕ) (before after : SinkState) → IfSome left (λ all. input ≡ all) → TellsBy (Belongs input) status before after → Tells Belongs left status before after
whole_told Belongs None input status before after same h = tt
whole_told Belongs (Some all) input status before after same h = inr (rw same at h)

-- what is told of one that is too long
pub long_told : (Belongs : List ℕ → ℕ → List ℕ → Type 0) (left : Option (List ℕ)) (refusal : List ℕ) (limit status : ℕ) (before after : SinkState) → ((input : List ℕ) → limit < length input → Belongs input 1 refusal) → IfSome left (λ all. limit < length all) → AnswersWithMemory 1 refusal status before after → Tells Belongs left status before after
long_told Belongs None refusal limit status before after refused long h = tt
long_told Belongs (Some input) refusal limit status before after refused long (inl h) = inr (inl h)
long_told Belongs (Some input) refusal limit status before after refused long (inr h) = inr (inr (1, refusal, refused input long, h))
