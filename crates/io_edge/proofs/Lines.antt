-- Lines that are put one after the other.
use Rattle.std.proofs.Common.{◌≡◌, ℕ, ◌+◌, ◌<◌, List, ◌++◌, sym, ap, ◌∙◌, length, get_or, take, drop, append_assoc, take-append-drop}
use Rattle.std.proofs.lemmas.Grind.{flat_map-append}
use Rattle.std.proofs.lemmas.List.{flat_map_more, take_more}
use Rattle.std.specs.List.{flat_map}

-- one line more
pub one-more : {T : Type 0} (line_of : T → List ℕ) (text : List ℕ) (lines : List T) (i : ℕ) (d : T) → i < length lines → (text ++ flat_map line_of (take i lines)) ++ line_of (get_or lines i d) ≡ text ++ flat_map line_of (take (i + 1) lines)
one-more line_of text lines i d l =
    flat_map_more line_of text (take i lines) (get_or lines i d) ∙ ap (λ xs. text ++ flat_map line_of xs) (sym (take_more lines i d l))

-- the lines up to a place, and those behind it
pub with-rest : {T : Type 0} (line_of : T → List ℕ) (text : List ℕ) (lines : List T) (i : ℕ) → (text ++ flat_map line_of (take i lines)) ++ flat_map line_of (drop i lines) ≡ text ++ flat_map line_of lines
with-rest line_of text lines i =
    append_assoc text (flat_map line_of (take i lines)) (flat_map line_of (drop i lines))
    ∙ ap (λ (l : List ℕ). text ++ l) (sym (flat_map-append line_of (take i lines) (drop i lines)) ∙ ap (flat_map line_of) (take-append-drop i lines))
