-- A command's word is read again, and stands as one word in a line.
use Rattle.std.proofs.Common.{◌≡◌, ℕ, true, cond, List, Option, None, Some, refl, ap, ◌∙◌, inl, inr}
use Rattle.std.specs.Prelude.{bytes_eq}
use Rattle.std.proofs.lemmas.Slice.Eq.{bytes_eq-Decides}
use Rattle.basic_lemmas.proofs.Tests.{chosen}
use Rattle.cam_types.specs.declared.script.Word.{Word}
use Rattle.cam_types.specs.declared.script.Word.TheVariants.{Configure, Once, Burst, Repeat, Stop, Wait, Await, Flush, Close, Disconnect}
use Rattle.text_parts.specs.Words.{is_word}
use Rattle.text_parts.specs.CommandWords.{word_text, command_word}

pub word-again : (w : Word) → command_word (word_text w) ≡ Some w
unfolding command_word
word-again Configure = refl
word-again Once = refl
word-again Burst = refl
word-again Repeat = refl
word-again Stop = refl
word-again Wait = refl
word-again Await = refl
word-again Flush = refl
word-again Close = refl
word-again Disconnect = refl

pub a-word : (w : Word) → is_word (word_text w) ≡ true
a-word Configure = refl
a-word Once = refl
a-word Burst = refl
a-word Repeat = refl
a-word Stop = refl
a-word Wait = refl
a-word Await = refl
a-word Flush = refl
a-word Close = refl
a-word Disconnect = refl

-- what is read as a command's word is its text
step : (text : List ℕ) (v : Word) (more : Option Word) (w : Word) → cond (bytes_eq text (word_text v)) (Some v) more ≡ Some w → (more ≡ Some w → text ≡ word_text w) → text ≡ word_text w
step text v more w h k = elim (chosen (bytes_eq text (word_text v)) (Some v) more (Some w) h) [
  | inl p ↦ (let e : v ≡ w = cc in (bytes_eq-Decides text (word_text v)).0 p.0 ∙ ap word_text e)
  | inr p ↦ k p.1
]

pub word-is : (text : List ℕ) (w : Word) → command_word text ≡ Some w → text ≡ word_text w
unfolding command_word
word-is text w h =
    step text Configure _ w h (λ a. step text Once _ w a (λ b. step text Burst _ w b (λ c. step text Repeat _ w c (λ d. step text Stop _ w d
    (λ e. step text Wait _ w e (λ f. step text Await _ w f (λ g. step text Flush _ w g (λ i. step text Close _ w i (λ j. step text Disconnect None w j (λ k. absurd (cc)))))))))))
