-- The streams' buffers are numbered in turn.
use Rattle.std.proofs.Common.{◌≡◌, ℕ, zero, suc, ◌+◌, ◌<◌, ◌≤◌, ◌==◌, ◌&&◌, true, List, [], ◌∷◌, Some, refl, sym, ◌∙◌, ap, arith}
use Rattle.std.specs.Prelude.{slice_get, slice_set}
use Rattle.std.proofs.lemmas.Bool.{and_parts, eqb-true}
use Rattle.cam_types.specs.declared.reply.Made.{Made}
use Rattle.buffer_manager.specs.declared.stream.Stream.{Stream}
use Rattle.buffer_manager.specs.Kept.{follow}

pub ends-after : (end n : ℕ) (streams : List Stream) → follow end n streams ≡ true → n ≤ end
ends-after end n [] h = (let same = eqb-true end n h in omega (arith, same))
ends-after end n (s ∷ streams) h =
    let parts = and_parts (s.made.first.0 == n) (follow end (n + s.made.count) streams) h in
    let rest = ends-after end (n + s.made.count) streams parts.1 in
    omega (arith, rest)

-- a stream's buffers lie within
pub within-turn : (end n : ℕ) (streams : List Stream) (k : ℕ) (s : Stream) → follow end n streams ≡ true → slice_get streams k ≡ Some s → (n ≤ s.made.first.0) × (s.made.first.0 + s.made.count ≤ end)
within-turn end n [] k s h at = absurd (cc)
within-turn end n (t ∷ streams) zero s h at =
    let same : t ≡ s = cc in
    let parts = and_parts (t.made.first.0 == n) (follow end (n + t.made.count) streams) h in
    let first = eqb-true t.made.first.0 n parts.0 in
    let rest = ends-after end (n + t.made.count) streams parts.1 in
    let t-first : t.made.first.0 ≡ s.made.first.0 = ap (λ (x : Stream). x.made.first.0) same in
    let t-count : t.made.count ≡ s.made.count = ap (λ (x : Stream). x.made.count) same in
    (omega (arith, first, t-first), omega (arith, first, rest, t-first, t-count))
within-turn end n (t ∷ streams) (suc k) s h at =
    let parts = and_parts (t.made.first.0 == n) (follow end (n + t.made.count) streams) h in
    let rest = within-turn end (n + t.made.count) streams k s parts.1 at in
    let low = rest.0 in
    (omega (arith, low), rest.1)

-- a buffer of the first stream is none of a later one's
first-alone : {P : Type 0} (end n : ℕ) (x : Stream) (streams : List Stream) (k : ℕ) (t : Stream) (b : ℕ) → follow end n (x ∷ streams) ≡ true → slice_get streams k ≡ Some t → b < x.made.first.0 + x.made.count → t.made.first.0 ≤ b → P
first-alone end n x streams k t b h at below from =
    let parts = and_parts (x.made.first.0 == n) (follow end (n + x.made.count) streams) h in
    let first = eqb-true x.made.first.0 n parts.0 in
    let rest = (within-turn end (n + x.made.count) streams k t parts.1 at).0 in
    absurd (omega (arith, first, rest, below, from))

-- no two streams have a buffer in common
pub one-owner : (end n : ℕ) (streams : List Stream) (j k : ℕ) (s t : Stream) (b : ℕ) → follow end n streams ≡ true → slice_get streams j ≡ Some s → slice_get streams k ≡ Some t → s.made.first.0 ≤ b → b < s.made.first.0 + s.made.count → t.made.first.0 ≤ b → b < t.made.first.0 + t.made.count → j ≡ k
one-owner end n [] j k s t b h at-j at-k ls hs lt ht = absurd (cc)
one-owner end n (x ∷ streams) zero zero s t b h at-j at-k ls hs lt ht = refl
one-owner end n (x ∷ streams) zero (suc k) s t b h at-j at-k ls hs lt ht =
    let same : x ≡ s = cc in
    first-alone end n x streams k t b h at-k (rw same hs) lt
one-owner end n (x ∷ streams) (suc j) zero s t b h at-j at-k ls hs lt ht =
    let same : x ≡ t = cc in
    first-alone end n x streams j s b h at-j (rw same ht) ls
one-owner end n (x ∷ streams) (suc j) (suc k) s t b h at-j at-k ls hs lt ht =
    let parts = and_parts (x.made.first.0 == n) (follow end (n + x.made.count) streams) h in
    ap suc (one-owner end (n + x.made.count) streams j k s t b parts.1 at-j at-k ls hs lt ht)

-- a stream's numbers stay
pub follow-set : (end n : ℕ) (streams : List Stream) (k : ℕ) (s t : Stream) → slice_get streams k ≡ Some s → t.made ≡ s.made → follow end n (slice_set streams k t) ≡ follow end n streams
follow-set end n [] k s t at same = refl
follow-set end n (x ∷ streams) zero s t at same =
    let here : x ≡ s = cc in
    let made : t.made ≡ x.made = same ∙ ap (λ (y : Stream). y.made) (sym here) in
    ap (λ (m : Made). (m.first.0 == n) && follow end (n + m.count) streams) made
follow-set end n (x ∷ streams) (suc k) s t at same =
    ap (λ w. (x.made.first.0 == n) && w) (follow-set end (n + x.made.count) streams k s t at same)
