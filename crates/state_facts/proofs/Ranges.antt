-- The values of several buffers changed at once.
use Rattle.std.proofs.Common.{◌≡◌, ℕ, ◌==◌, ◌-◌, Bool, true, false, ◌||◌, List, [], ◌∷◌, refl, ap, ◌∙◌, map, nat_le, if◌then◌else◌}
use Rattle.std.specs.Prelude.{slice_set}
use Rattle.std.specs.List.{list_any, list_all, range_with_len}
use Rattle.std.proofs.lemmas.Bool.{and_parts, leb-true}
use Rattle.trace_model.specs.declared.entry.Sent.{Sent}
use Rattle.state_facts.specs.Homes.{put_all}
use Rattle.basic_lemmas.proofs.Lists.{map-same}
use Rattle.basic_lemmas.proofs.Ranges.{set-one}

module _ {X : Type 0} where
  or-if : (x y : Bool) (v w : X) → (if x || y then v else w) ≡ (if x then v else (if y then v else w))
  or-if true y v w = refl
  or-if false y v w = refl

  -- the values of the targets' buffers changed
  pub set-all : (g : ℕ → X) (v : X) (a n : ℕ) (targets : List Sent) → list_all (λ t. nat_le a t.buffer.0) targets ≡ true → map (λ b. if list_any (λ t. t.buffer.0 == b) targets then v else g b) (range_with_len a n) ≡ put_all a v targets (map g (range_with_len a n))
  set-all g v a n [] low = refl
  set-all g v a n (t ∷ targets) low =
      let parts = and_parts (nat_le a t.buffer.0) (list_all (λ t. nat_le a t.buffer.0) targets) low in
      let rest : ℕ → X = λ b. if list_any (λ t. t.buffer.0 == b) targets then v else g b in
      map-same (λ b. if (t.buffer.0 == b) || list_any (λ t. t.buffer.0 == b) targets then v else g b) (λ b. if t.buffer.0 == b then v else rest b) (range_with_len a n) (λ b. or-if (t.buffer.0 == b) (list_any (λ t. t.buffer.0 == b) targets) v (g b))
      ∙ (set-one rest v t.buffer.0 a n (leb-true a t.buffer.0 parts.0) ∙ ap (λ (xs : List X). slice_set xs (t.buffer.0 - a) v) (set-all g v a n targets parts.1))
