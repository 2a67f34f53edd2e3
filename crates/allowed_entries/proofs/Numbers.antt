-- One number more, and numbers past all buffers.
use Rattle.std.proofs.Common.{◌≡◌, ◌∙◌, ◌<◌, ◌≤◌, ◌^◌, ℕ, ◌+◌, ◌-◌, Bool, true, false, List, ◌++◌, None, refl, sym, ap, arith, length, if◌then◌else◌}
use Rattle.std.specs.Prelude.{nat_le}
use Rattle.std.specs.List.{flat_map, range_with_len}
use Rattle.std.proofs.lemmas.List.{append-nil, append_assoc, get_or_past}
use Rattle.std.proofs.lemmas.Grind.{flat_map-append}
use Rattle.basic_lemmas.proofs.Ranges.{range-more}
use Rattle.trace_model.specs.Place.{Place, Pool, Client, is_at}
use Rattle.state_facts.specs.Homes.{Homes, release_in}

pub flat_more : {A : Type 0} (f : ℕ → List A) (a n j : ℕ) → a + n ≡ j → flat_map f (range_with_len a (n + 1)) ≡ flat_map f (range_with_len a n) ++ f j
flat_more f a n j at =
    ap (flat_map f) (range-more a n 1)
    ∙ (flat_map-append f (range_with_len a n) (range_with_len (a + n) 1)
    ∙ ap (λ l. flat_map f (range_with_len a n) ++ l) (append-nil (f (a + n)) ∙ ap f at))

-- a list that takes one number's more
pub one_more : {A : Type 0} (f : ℕ → List A) (a n j m : ℕ) (old list new part : List A) → a + n ≡ j → m ≡ n + 1 → list ≡ old ++ flat_map f (range_with_len a n) → part ≡ f j → new ≡ list ++ part → new ≡ old ++ flat_map f (range_with_len a m)
one_more f a n j m old list new part at more so_far is added =
    added
    ∙ (ap (λ l. l ++ part) so_far
    ∙ (append_assoc old (flat_map f (range_with_len a n)) part
    ∙ ap (λ l. old ++ l) (ap (λ l. flat_map f (range_with_len a n) ++ l) is ∙ (sym (flat_more f a n j at) ∙ ap (λ k. flat_map f (range_with_len a k)) (sym more)))))

in-pool : (t : Bool) (p : Place) → p ≡ Pool → is_at (if t then p else Pool) Client ≡ false
in-pool true p h = rw h refl
in-pool false p h = refl

pub none_released : (h : Homes) (b : ℕ) → h.first + (length h.places + 72) < 2 ^ 32 → 2 ^ 32 ≤ b → None ≡ release_in h b
none_released h b few past =
    let gone = in-pool (nat_le h.first b) _ (get_or_past h.places (b - h.first) Pool (omega arith)) in
    rw gone refl
