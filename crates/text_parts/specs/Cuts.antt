-- How a text is cut at a byte. (our own choice)
use Rattle.std.specs.Prelude.{ℕ, ◌==◌, List, [], ◌∷◌, Option, Some, None, if◌then◌else◌}
use Rattle.std.specs.List.{slice_split}
use Rattle.std.specs.Option.{option_map}

-- the parts of a text before, between and after the places of a byte
abbrev pub parts_at : ℕ → List ℕ → List (List ℕ)
parts_at byte text = slice_split (λ b. b == byte) text

-- what stands before the first byte of this value, and what stands after it
abbrev pub cut_at : ℕ → List ℕ → Option (List ℕ × List ℕ)
cut_at byte [] = None
cut_at byte (b ∷ bs) = if b == byte then Some ([], bs) else option_map (λ cut. (b ∷ cut.0, cut.1)) (cut_at byte bs)

-- the two parts, where the byte stands once
abbrev pub two_parts : List (List ℕ) → Option (List ℕ × List ℕ)
two_parts (a ∷ b ∷ []) = Some (a, b)
two_parts _ = None

abbrev pub in_two : ℕ → List ℕ → Option (List ℕ × List ℕ)
in_two byte text = two_parts (parts_at byte text)

-- the four parts, where the byte stands three times
abbrev pub four_parts : List (List ℕ) → Option (List ℕ × List ℕ × List ℕ × List ℕ)
four_parts (a ∷ b ∷ c ∷ d ∷ []) = Some (a, b, c, d)
four_parts _ = None

abbrev pub in_four : ℕ → List ℕ → Option (List ℕ × List ℕ × List ℕ × List ℕ)
in_four byte text = four_parts (parts_at byte text)
