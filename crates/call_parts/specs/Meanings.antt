-- The status and the whole text that belong to a text that is read, by what it means. (docs/FORMATS.md, Statuses)
use Rattle.std.specs.Prelude.{◌≡◌, ◌⊎◌, ℕ, true, false, List, Result, Ok, Err, length, nat_lt}
use Rattle.cam_types.specs.declared.script.Script.{Script}
use Rattle.text_parts.specs.Causes.{number_of}
use Rattle.text_parts.specs.declared.cause.Cause.{Cause}
use Rattle.text_parts.specs.declared.cause.TextRefused.{TextRefused}
use Rattle.text_parts.specs.declared.cause.TextRefused.TheVariants.{Bad, NoMemory}
use Rattle.script_text.specs.Grammar.{script_of}
use Rattle.call_parts.specs.Lines.{refused_script_text}
use Rattle.call_parts.specs.Meaning.{input_limit}

-- those that belong to what it means; where it means nothing, 1 and the line that refuses it
abbrev pub OfMeaning : {X : Type 0} → (ℕ → Cause → List ℕ) → (X → ℕ → List ℕ → Type 0) → Result X TextRefused → ℕ → List ℕ → Type 0
OfMeaning refusal Belongs (Ok meaning) status text = Belongs meaning status text
OfMeaning refusal Belongs (Err (Bad line cause)) status text = (status ≡ 1) × (text ≡ refusal line cause)
OfMeaning refusal Belongs (Err NoMemory) status text = ⊥

-- of a text that is read as a script
abbrev pub OfScript : (Script → ℕ → List ℕ → Type 0) → List ℕ → ℕ → List ℕ → Type 0
OfScript Belongs input status text =
    OfMeaning (λ line cause. refused_script_text line (number_of cause)) Belongs (script_of input) status text

-- of an input that is no script: it has too many bytes, and this text refuses it, or it has not
abbrev pub OfLimited : List ℕ → (List ℕ → ℕ → List ℕ → Type 0) → List ℕ → ℕ → List ℕ → Type 0
OfLimited refusal Belongs input status text =
    ((nat_lt input_limit (length input) ≡ true) × (status ≡ 1) × (text ≡ refusal))
    ⊎ ((nat_lt input_limit (length input) ≡ false) × Belongs input status text)
