-- Words of the same texts have the same form.
use Rattle.std.proofs.Common.{◌≡◌, ℕ, List, [], ◌∷◌, Option, None, refl, sym, ap, ◌∙◌, Bor}
use Rattle.std.specs.Prelude.{map}
use Rattle.text_parts.specs.Forms.{alone, form_of, of_three}
use Rattle.text_parts.specs.declared.form.Form.{Form}

abbrev of-texts : List (List ℕ) → Option Form
of-texts (word ∷ []) = alone word
of-texts (first ∷ (second ∷ (third ∷ []))) = of_three first second third
of-texts _ = None

read : (words : List (Bor (List ℕ))) → form_of words ≡ of-texts (map (λ word. word.now) words)
read [] = refl
read (a ∷ []) = refl
read (a ∷ (b ∷ [])) = refl
read (a ∷ (b ∷ (c ∷ []))) = refl
read (a ∷ (b ∷ (c ∷ (d ∷ rest)))) = refl

pub same_form : (a b : List (Bor (List ℕ))) → map (λ word. word.now) a ≡ map (λ word. word.now) b → form_of a ≡ form_of b
same_form a b same = read a ∙ (ap of-texts same ∙ sym (read b))
