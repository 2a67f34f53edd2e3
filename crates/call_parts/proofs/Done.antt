-- What was written at status 0 belongs to the input.
use Rattle.std.proofs.Common.{◌≡◌, ℕ, List, Option, Some, None, Result, Ok, Err, inl, inr, refl, arith, IfSome}
use Rattle.io_edge.specs.States.{SinkState, Writes}
use Rattle.text_parts.specs.declared.cause.Cause.{Cause}
use Rattle.text_parts.specs.declared.cause.TextRefused.{TextRefused}
use Rattle.text_parts.specs.declared.cause.TextRefused.TheVariants.{Bad, NoMemory}
use Rattle.call_parts.specs.Answers.{Tells}
use Rattle.call_parts.specs.Meanings.{OfMeaning}

pub done : (Belongs : List ℕ → ℕ → List ℕ → Type 0) (Is : List ℕ → Type 0) (left : Option (List ℕ)) (status : ℕ) (before after : SinkState) → ((input text : List ℕ) → Belongs input 0 text → Writes before after text → Is input) → Tells Belongs left status before after → status ≡ 0 → IfSome left Is
done Belongs Is None status before after is tells zero' = tt
done Belongs Is (Some input) status before after is (inl three) zero' = absurd (omega (arith, three, zero'))
done Belongs Is (Some input) status before after is (inr (inl h)) zero' = absurd (omega (arith, h.0, zero'))
done Belongs Is (Some input) status before after is (inr (inr (wanted, text, belongs, inl h))) zero' =
    let e : wanted ≡ 0 = omega (arith, h.0, zero') in
    is input text (rw e at belongs) h.1.0
done Belongs Is (Some input) status before after is (inr (inr (wanted, text, belongs, inr h))) zero' = absurd (omega (arith, h.0, zero'))

-- a text to which status 0 belongs means something
pub meant : {X : Type 0} (refusal : ℕ → Cause → List ℕ) (Belongs : X → ℕ → List ℕ → Type 0) (Is : Type 0) (meaning : Result X TextRefused) (text : List ℕ) → ((x : X) → meaning ≡ Ok x → Belongs x 0 text → Is) → OfMeaning refusal Belongs meaning 0 text → Is
meant refusal Belongs Is (Ok x) text is h = is x refl h
meant refusal Belongs Is (Err (Bad line cause)) text is h = absurd (omega (arith, h.0))
meant refusal Belongs Is (Err NoMemory) text is h = absurd h
