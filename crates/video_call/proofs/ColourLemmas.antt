-- Places that are written one behind the other.
use Rattle.std.proofs.Common.{◌≡◌, ℕ, ◌+◌, List, [], ◌∷◌, ◌++◌, sym, ap, ap₂, ◌∙◌, arith, append_assoc}
use Rattle.std.specs.List.{flat_map, range_with_len}
use Rattle.std.proofs.lemmas.Grind.{flat_map-append}
use Rattle.std.proofs.lemmas.List.{append-nil}
use Rattle.basic_lemmas.proofs.Ranges.{range-more}

-- one place more
place-more : (f : ℕ → List ℕ) (i : ℕ) → flat_map f (range_with_len 0 (i + 1)) ≡ flat_map f (range_with_len 0 i) ++ f i
place-more f i =
    let e : 0 + i ≡ i = omega arith in
    let range : range_with_len 0 (i + 1) ≡ range_with_len 0 i ++ i ∷ [] = range-more 0 i 1 ∙ ap (λ (k : ℕ). range_with_len 0 i ++ k ∷ []) e in
    ap (λ ks. flat_map f ks) range
    ∙ (flat_map-append f (range_with_len 0 i) (i ∷ []) ∙ ap (λ x. flat_map f (range_with_len 0 i) ++ x) (append-nil (f i)))

pub places-next : (f : ℕ → List ℕ) (i : ℕ) (old now new three : List ℕ) → new ≡ now ++ three → now ≡ old ++ flat_map f (range_with_len 0 i) → three ≡ f i → new ≡ old ++ flat_map f (range_with_len 0 (i + 1))
places-next f i old now new three put before here =
    put
    ∙ (ap₂ ◌++◌ before here
    ∙ (append_assoc old (flat_map f (range_with_len 0 i)) (f i) ∙ ap (λ x. old ++ x) (sym (place-more f i))))
