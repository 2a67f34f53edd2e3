-- Words of the same texts ask for the same tool.
use Rattle.std.proofs.Common.{◌≡◌, ℕ, List, [], ◌∷◌, Option, None, refl, sym, ap, ◌∙◌, Bor}
use Rattle.std.specs.Prelude.{map}
use Rattle.tools_top.specs.Tools.{alone, of_three, of_two, tool_of}
use Rattle.tools_top.specs.declared.tool.Tool.{Tool}

abbrev of-texts : List (List ℕ) → Option Tool
of-texts (word ∷ []) = alone word
of-texts (first ∷ (second ∷ [])) = of_two first second
of-texts (first ∷ (second ∷ (third ∷ []))) = of_three first second third
of-texts _ = None

read : (words : List (Bor (List ℕ))) → tool_of words ≡ of-texts (map (λ word. word.now) words)
read [] = refl
read (a ∷ []) = refl
read (a ∷ (b ∷ [])) = refl
read (a ∷ (b ∷ (c ∷ []))) = refl
read (a ∷ (b ∷ (c ∷ (d ∷ rest)))) = refl

pub same_tool : (a b : List (Bor (List ℕ))) → map (λ word. word.now) a ≡ map (λ word. word.now) b → tool_of a ≡ tool_of b
same_tool a b same = read a ∙ (ap of-texts same ∙ sym (read b))
