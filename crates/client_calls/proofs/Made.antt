-- The buffers that a configuration makes, stream by stream.
use Rattle.std.proofs.Common.{◌≡◌, ℕ, ◌+◌, ◌≤◌, true, List, [], ◌∷◌, Option, refl, sym, arith, slice_get, option_to_list}
use Rattle.std.specs.Prelude.{◌&&◌, nat_le, nat_lt, option_map, unwrap_or, IsTrue}
use Rattle.std.proofs.lemmas.Bool.{and_parts, leb-true}
use Rattle.cam_types.specs.declared.reply.Made.{Made}
use Rattle.cam_types.specs.declared.profile.Profile.{Profile}
use Rattle.cam_types.specs.declared.stream.Format.{Format}
use Rattle.cam_types.specs.declared.stream.Format.TheVariants.{Raw16, Yuv, Other}
use Rattle.cam_types.specs.declared.stream.StreamSpec.{StreamSpec}
use Rattle.cam_types.specs.Four.{four_of}
use Rattle.cam_types.specs.Profile.{is_profile, is_profile_number, pool_size}
use Rattle.trace_model.specs.Reply.{made_for}

-- how many buffers are made for the stream, if there is one
abbrev size : Profile → Option StreamSpec → ℕ
size p o = unwrap_or (option_map (λ s. pool_size p s.format) o) 0

abbrev made : Profile → ℕ → Option StreamSpec → Option Made
made p n o = slice_get (made_for p n (option_to_list o)) 0

pub made_each : (p : Profile) (n : ℕ) (xs : List StreamSpec) → four_of (made_for p n xs) ≡ record { a = made p n (slice_get xs 0); b = made p (n + size p (slice_get xs 0)) (slice_get xs 1); c = made p (n + size p (slice_get xs 0) + size p (slice_get xs 1)) (slice_get xs 2); d = made p (n + size p (slice_get xs 0) + size p (slice_get xs 1) + size p (slice_get xs 2)) (slice_get xs 3) }
made_each p n [] = refl
made_each p n (a ∷ []) = refl
made_each p n (a ∷ (b ∷ [])) = refl
made_each p n (a ∷ (b ∷ (c ∷ []))) = refl
made_each p n (a ∷ (b ∷ (c ∷ (d ∷ xs)))) = refl

-- a pool has 18 buffers at most
few_numbers : (n : ℕ) → is_profile_number n ≡ true → n ≤ 16
few_numbers n h = leb-true n 16 (and_parts (nat_lt 0 n) (nat_le n 16) h).1

pub pool_few : (p : Profile) (f : Format) → IsTrue (is_profile p) → pool_size p f ≤ 18
pool_few p Raw16 h =
    let rest = (and_parts (is_profile_number p.depth) (is_profile_number p.raw && is_profile_number p.yuv) h).1 in
    let raw = few_numbers p.raw (and_parts (is_profile_number p.raw) (is_profile_number p.yuv) rest).0 in
    omega arith
pool_few p Yuv h =
    let rest = (and_parts (is_profile_number p.depth) (is_profile_number p.raw && is_profile_number p.yuv) h).1 in
    let yuv = few_numbers p.yuv (and_parts (is_profile_number p.raw) (is_profile_number p.yuv) rest).1 in
    omega arith
pool_few p (Other k) h = omega arith

-- the buffers of each stream, one after another
pub made_in_turn : (p : Profile) (n k l m : ℕ) (xs : List StreamSpec) (s t u v : Option StreamSpec) (a b c d : Option Made) → s ≡ slice_get xs 0 → t ≡ slice_get xs 1 → u ≡ slice_get xs 2 → v ≡ slice_get xs 3 → k ≡ n + size p s → l ≡ k + size p t → m ≡ l + size p u → a ≡ made p n s → b ≡ made p k t → c ≡ made p l u → d ≡ made p m v → record { a = a; b = b; c = c; d = d } ≡ four_of (made_for p n xs)
made_in_turn p n k l m xs s t u v a b c d first second third fourth after after' after'' own own' own'' own''' =
    rw (own, own', own'', own''', after'', after', after, first, second, third, fourth) (sym (made_each p n xs))
