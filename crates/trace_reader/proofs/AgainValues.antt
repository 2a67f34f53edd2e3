-- Words that are spelled are read again.
use Rattle.std.proofs.Common.{◌≡◌, ℕ, zero, suc, ◌/◌, ◌%◌, ◌<◌, ◌≤◌, ◌^◌, Bool, true, false, ◌&&◌, eqb, ltb, leb, List, [], ◌∷◌, ◌++◌, length, Option, None, Some, Result, Ok, refl, ap, ◌∙◌, inl, inr, arith}
use Rattle.std.specs.Prelude.{decimal, bytes_eq, slice_index}
use Rattle.std.specs.List.{list_all}
use Rattle.std.proofs.lemmas.Bool.{cases_lt, and_parts, and_from, eq-eqb, ltb-true, leb-true, eqb-true}
use Rattle.std.proofs.lemmas.Slice.Eq.{bytes_eq-Decides}
use Rattle.cam_types.specs.Profile.{is_profile_number}
use Rattle.cam_types.specs.declared.number.FenceNo.{FenceNo}
use Rattle.cam_types.specs.declared.reply.Made.{Made}
use Rattle.hex.specs.Hex.{IsBytes, encode_lower, encode_with, lower_digits}
use Rattle.hex.proofs.HexLemmas.{decode_of-encode_lower, length-encode_with}
use Rattle.trace_model.specs.Printable.{is_small, is_byte, fence_fits, sent_fits, made_fits, is_digest}
use Rattle.trace_model.specs.declared.entry.Sent.{Sent}
use Rattle.trace_text.specs.Spelling.{buffer_text, fence_text, request_text, item_text, mark_text, sent_text, made_text}
use Rattle.trace_reader.specs.declared.cause.Cause.{Cause}
use Rattle.text_parts.specs.Cuts.{cut_at}
use Rattle.trace_reader.specs.Values.{both, byte, small, large, profile_number, buffer, request, fence, cut_in, item, fenced_buffer, sent, stream_number, buffers, made, mark, is_lower_digit, hex_bytes, digest}
use Rattle.text_parts.proofs.Joined.{avoids, cut-again}
use Rattle.text_parts.proofs.Spelled.{number-again, number-avoids, within-again}

pub both-of : {A B : Type 0} (r : Result A Cause) (s : Result B Cause) (x : A) (y : B) → r ≡ Ok x → s ≡ Ok y → both r s ≡ Ok (x, y)
both-of r s x y h k = rw (h, k) refl

pub cut-of : {A B : Type 0} (c : ℕ) (front back : List ℕ) (f : List ℕ → Result A Cause) (g : List ℕ → Result B Cause) (x : A) (y : B) → avoids c front ≡ true → f front ≡ Ok x → g back ≡ Ok y
    → cut_in (cut_at c (front ++ c ∷ back)) f g ≡ Ok (x, y)
cut-of c front back f g x y a h k = ap (λ (o : Option (List ℕ × List ℕ)). cut_in o f g) (cut-again c front back a) ∙ both-of (f front) (g back) x y h k

-- ---- numbers

pub byte-again : (n : ℕ) → is_byte n ≡ true → byte (decimal n) ≡ Ok n
byte-again n h = rw (number-again (2 ^ 8) n (ltb-true n (2 ^ 8) h) (omega arith)) refl

pub small-again : (n : ℕ) → is_small n ≡ true → small (decimal n) ≡ Ok n
small-again n h = rw (number-again (2 ^ 32) n (ltb-true n (2 ^ 32) h) (omega arith)) refl

pub large-again : (n : ℕ) → ltb n (2 ^ 64) ≡ true → large (decimal n) ≡ Ok n
large-again n h = rw (number-again (2 ^ 64) n (ltb-true n (2 ^ 64) h) (omega arith)) refl

pub small-64 : (n : ℕ) → is_small n ≡ true → n < 2 ^ 64
small-64 n h = omega (arith, ltb-true n (2 ^ 32) h)

pub byte-64 : (n : ℕ) → is_byte n ≡ true → n < 2 ^ 64
byte-64 n h = omega (arith, ltb-true n (2 ^ 8) h)

pub buffer-again : (b : ℕ) → is_small b ≡ true → buffer (buffer_text b) ≡ Ok b
buffer-again b h = small-again b h

pub profile-number-again : (n : ℕ) → is_profile_number n ≡ true → profile_number (decimal n) ≡ Ok n
profile-number-again n h =
    let p = and_parts (ltb 0 n) (leb n 16) h in
    let least : 1 ≤ n = omega (arith, ltb-true 0 n p.0) in
    rw (within-again 1 16 n least (leb-true n 16 p.1) (omega arith)) refl

pub request-again : (r : ℕ) → is_small r ≡ true → request (request_text r) ≡ Ok r
request-again r h = small-again r h

pub fence-again : (f : Option FenceNo) → fence_fits f ≡ true → fence (fence_text f) ≡ Ok f
fence-again None h = refl
fence-again (Some f) h = rw (number-again (2 ^ 32) f.0 (ltb-true f.0 (2 ^ 32) h) (omega arith)) refl

-- ---- words of several parts

pub item-again : (r i : ℕ) → is_small r ≡ true → is_small i ≡ true → item (item_text r i) ≡ Ok (r, i)
item-again r i h k = cut-of 46 (request_text r) (decimal i) request small r i (number-avoids 46 r refl (small-64 r h)) (request-again r h) (small-again i k)

pub sent-again : (t : Sent) → sent_fits t ≡ true → sent (sent_text t) ≡ Ok t
unfolding sent
sent-again t h =
    let p = and_parts (is_byte t.stream.0) _ h in
    let q = and_parts (is_small t.buffer.0) (fence_fits t.fence) p.1 in
    let back : fenced_buffer (buffer_text t.buffer.0 ++ 58 ∷ fence_text t.fence) ≡ Ok (t.buffer.0, t.fence) =
    cut-of 58 (buffer_text t.buffer.0) (fence_text t.fence) buffer fence t.buffer.0 t.fence (number-avoids 58 t.buffer.0 refl (small-64 t.buffer.0 q.0)) (buffer-again t.buffer.0 q.0) (fence-again t.fence q.1) in
    let e = cut-of 58 (decimal t.stream.0) (buffer_text t.buffer.0 ++ 58 ∷ fence_text t.fence) byte fenced_buffer t.stream.0 (t.buffer.0, t.fence) (number-avoids 58 t.stream.0 refl (byte-64 t.stream.0 p.0)) (byte-again t.stream.0 p.0) back in
    rw e refl

pub same-bytes : (w : List ℕ) → bytes_eq w w ≡ true
same-bytes w = (bytes_eq-Decides w w).1 refl

pub made-again : (s : ℕ) (m : Made) → s < 2 ^ 64 → made_fits m ≡ true → made s (made_text s m) ≡ Ok m
unfolding made
made-again s m l h =
    let q = and_parts (is_small m.first.0) (is_small m.count) h in
    let front : stream_number s (decimal s) ≡ Ok s = rw (same-bytes (decimal s)) refl in
    let back : buffers (buffer_text m.first.0 ++ 43 ∷ decimal m.count) ≡ Ok (m.first.0, m.count) =
    cut-of 43 (buffer_text m.first.0) (decimal m.count) buffer small m.first.0 m.count (number-avoids 43 m.first.0 refl (small-64 m.first.0 q.0)) (buffer-again m.first.0 q.0) (small-again m.count q.1) in
    let e = cut-of 58 (decimal s) (buffer_text m.first.0 ++ 43 ∷ decimal m.count) (stream_number s) buffers s (m.first.0, m.count) (number-avoids 58 s refl l) front back in
    rw e refl

pub mark-again : (same : Bool) → mark (mark_text same) ≡ Ok same
mark-again true = refl
mark-again false = refl

-- ---- hexadecimal text

abbrev all_lower : ℕ → Bool
all_lower zero = true
all_lower (suc n) = is_lower_digit (slice_index lower_digits n) && all_lower n

all_lower-at : (n k : ℕ) → all_lower n ≡ true → k < n → is_lower_digit (slice_index lower_digits k) ≡ true
all_lower-at zero k h l = absurd (omega arith)
all_lower-at (suc n) k h l =
    let p = and_parts (is_lower_digit (slice_index lower_digits n)) (all_lower n) h in
    elim (cases_lt k n) [
      | inl below ↦ all_lower-at n k p.1 below
      | inr top ↦ (let e : k ≡ n = omega arith in rw e p.0)
    ]

lower-digit : (k : ℕ) → k < 16 → is_lower_digit (slice_index lower_digits k) ≡ true
lower-digit k l = all_lower-at 16 k refl l

bytes-tail : (b : ℕ) (bs : List ℕ) → IsBytes (b ∷ bs) → IsBytes bs
bytes-tail b bs h i = h (suc i)

pub hex-lower : (bytes : List ℕ) → IsBytes bytes → list_all is_lower_digit (encode_lower bytes) ≡ true
unfolding encode_with
hex-lower [] h = refl
hex-lower (b ∷ bs) h =
    let l : b < 256 = h 0 in
    and_from _ _ (lower-digit (b / 16) (omega arith)) (and_from _ _ (lower-digit (b % 16) (omega arith)) (hex-lower bs (bytes-tail b bs h)))

pub hex-again : (bytes : List ℕ) → IsBytes bytes → hex_bytes (encode_lower bytes) ≡ Ok bytes
hex-again bytes h = rw (hex-lower bytes h, decode_of-encode_lower bytes h) refl

pub all-bytes : (bytes : List ℕ) → list_all is_byte bytes ≡ true → IsBytes bytes
all-bytes [] h i = omega arith
all-bytes (b ∷ bs) h zero = ltb-true b (2 ^ 8) (and_parts (is_byte b) (list_all is_byte bs) h).0
all-bytes (b ∷ bs) h (suc i) = all-bytes bs (and_parts (is_byte b) (list_all is_byte bs) h).1 i

pub digest-again : (d : List ℕ) → is_digest d ≡ true → digest (encode_lower d) ≡ Ok d
unfolding digest
digest-again d h =
    let p = and_parts (eqb (length d) 32) (list_all is_byte d) h in
    let long = eqb-true (length d) 32 p.0 in
    let n : length (encode_lower d) ≡ 64 = omega (arith, length-encode_with lower_digits d, long) in
    rw (eq-eqb (length (encode_lower d)) 64 n) (hex-again d (all-bytes d p.1))
