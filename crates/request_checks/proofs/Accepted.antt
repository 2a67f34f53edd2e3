-- The streams of an accepted configuration are few, and each of them is offered.
use Rattle.std.proofs.Common.{◌≡◌, ◌≤◌, ℕ, ◌+◌, ◌&&◌, Bool, true, false, not, nat_lt, List, [], ◌∷◌, length, Option, Some, None, refl, arith}
use Rattle.std.specs.List.{list_all, list_any, position_from}
use Rattle.std.proofs.lemmas.Bool.Decides.{nat_tests}
use Rattle.cam_types.specs.Picture.{is_offered, is_size_of}
use Rattle.cam_types.specs.Refusals.{at_place, is_raw, is_yuv, or_else, refused, specs_refusal, where_true}
use Rattle.cam_types.specs.declared.reply.Reply.{Reply}
use Rattle.cam_types.specs.declared.stream.StreamSpec.{StreamSpec}

or-none : (a b : Option Reply) → or_else a b ≡ None → (a ≡ None) × (b ≡ None)
or-none (Some r) b h = absurd (cc)
or-none None b h = (refl, h)

-- at most four streams
pub few_specs : (specs : List StreamSpec) → specs_refusal specs ≡ None → length specs ≤ 4
few_specs specs h =
    let first = or-none (where_true (not (list_any (λ s. not s.input) specs)) (refused 21)) _ h in
    let second = or-none (where_true (nat_lt 4 (length specs)) (refused 22)) _ first.1 in
    at_most (length specs) (where-none (nat_lt 4 (length specs)) (refused 22) second.0)
  where
    at_most : (k : ℕ) → nat_lt 4 k ≡ false → k ≤ 4
    at_most k e = grind (arith, nat_tests, e)

    where-none : (t : Bool) (r : Reply) → where_true t r ≡ None → t ≡ false
    where-none true r e = absurd (cc)
    where-none false r e = refl

-- each of them is offered
placed-none : (code : ℕ) (o : Option ℕ) → at_place code o ≡ None → o ≡ None
placed-none code None h = refl
placed-none code (Some i) h = absurd (cc)

place-none : {X : Type 0} (p : X → Bool) (i : ℕ) (xs : List X) → position_from (λ x. not (p x)) i xs ≡ None → list_all p xs ≡ true
place-none p i [] h = refl
place-none p i (x ∷ xs) h = by (p x) refl (place-none p (i + 1) xs)
  where
    by : (b : Bool) → p x ≡ b → (position_from (λ y. not (p y)) (i + 1) xs ≡ None → list_all p xs ≡ true) → list_all p (x ∷ xs) ≡ true
    by true here rest = rw here (rest (let h' = rw here at h in h'))
    by false other rest = (let h' = rw other at h in absurd (cc))

pub offered_specs : (specs : List StreamSpec) → specs_refusal specs ≡ None → list_all is_offered specs ≡ true
offered_specs specs h =
    let first = or-none (where_true (not (list_any (λ s. not s.input) specs)) (refused 21)) _ h in
    let second = or-none (where_true (nat_lt 4 (length specs)) (refused 22)) _ first.1 in
    let third = or-none (where_true (list_any (λ s. s.input) specs) (refused 23)) _ second.1 in
    let fourth = or-none (at_place 24 (position_from (λ s. not (is_raw s.format) && not (is_yuv s.format)) 0 specs)) _ third.1 in
    let fifth = or-none (at_place 25 (position_from (λ s. not (is_size_of s.format s.width s.height)) 0 specs)) _ fourth.1 in
    place-none is_offered 0 specs (placed-none 25 _ fifth.0)
