-- A word that is read is the spelling of what it is read as.
use Rattle.std.proofs.Common.{◌≡◌, ℕ, suc, ◌^◌, Bool, true, false, ◌&&◌, cond, eqb, ltb, List, [], ◌∷◌, ◌++◌, length, Option, None, Some, Result, Ok, Err, refl, sym, ap, ◌∙◌, inl, inr, arith}
use Rattle.std.specs.Prelude.{codes, decimal, bytes_eq}
use Rattle.std.specs.List.{list_all}
use Rattle.std.proofs.lemmas.Bool.{and_from, eq-eqb, eqb-true, lt-ltb, le-leb}
use Rattle.std.proofs.lemmas.Fmt.{decimal_digit}
use Rattle.std.proofs.lemmas.Slice.Eq.{bytes_eq-Decides}
use Rattle.cam_types.specs.declared.number.FenceNo.{FenceNo}
use Rattle.cam_types.specs.declared.reply.Made.{Made}
use Rattle.hex.specs.Hex.{IsBytes, decode_of, encode_lower, lower_digits}
use Rattle.hex.proofs.HexLemmas.{length-encode_with}
use Rattle.trace_model.specs.Printable.{is_small, is_byte, fence_fits, sent_fits, made_fits, is_digest}
use Rattle.trace_model.specs.declared.entry.Sent.{Sent}
use Rattle.trace_text.specs.Spelling.{fence_text, item_text, mark_text, sent_text, made_text}
use Rattle.trace_reader.specs.declared.cause.Cause.{Cause}
use Rattle.trace_reader.specs.declared.cause.Cause.TheVariants.{BadLine, BadNumber}
use Rattle.text_parts.specs.Cuts.{cut_at}
use Rattle.text_parts.specs.Numbers.{is_number, number_below, number_within}
use Rattle.trace_reader.specs.Values.{◌>>=◌, both, good, byte, small, large, profile_number, numbered, buffer, fence_number, request, fence, cut_in, item, fenced_buffer, sent, stream_number, buffers, made, mark, is_lower_digit, decoded, hex_bytes, digest, part_number}
use Rattle.basic_lemmas.proofs.Tests.{chosen}
use Rattle.text_parts.proofs.Joined.{cut-is}
use Rattle.text_parts.proofs.Spelled.{number-is}
use Rattle.cam_types.specs.Profile.{is_profile_number}
use Rattle.trace_reader.proofs.General.{number-within-is}
use Rattle.trace_reader.proofs.HexMeans.{hex-are}

-- ---- steps that gave a value

pub bind-ok : {A B : Type 0} (r : Result A Cause) (f : A → Result B Cause) (y : B) → (r >>= f) ≡ Ok y → (x : A) × (r ≡ Ok x) × (f x ≡ Ok y)
bind-ok (Ok x) f y h = (x, refl, h)
bind-ok (Err c) f y h = absurd (cc)

pub both-ok : {A B : Type 0} (r : Result A Cause) (s : Result B Cause) (x : A) (y : B) → both r s ≡ Ok (x, y) → (r ≡ Ok x) × (s ≡ Ok y)
both-ok (Ok x) (Ok y) a b h = let e : (x, y) ≡ (a, b) = cc in (ap (λ (q : _ × _). Ok q.0) e, ap (λ (q : _ × _). Ok q.1) e)
both-ok (Ok x) (Err c) a b h = absurd (cc)
both-ok (Err c) (Ok y) a b h = absurd (cc)
both-ok (Err c) (Err d) a b h = absurd (cc)

pub if-ok : {A : Type 0} (b : Bool) (x : Result A Cause) (c : Cause) (y : A) → cond b x (Err c) ≡ Ok y → (b ≡ true) × (x ≡ Ok y)
if-ok true x c y h = (refl, h)
if-ok false x c y h = absurd (cc)

pub text-is : (w v : List ℕ) → bytes_eq w v ≡ true → w ≡ v
text-is w v h = (bytes_eq-Decides w v).0 h

-- ---- numbers

good-ok : (o : Option ℕ) (n : ℕ) → good o ≡ Ok n → o ≡ Some n
good-ok None n h = absurd (cc)
good-ok (Some x) n h = let e : x ≡ n = cc in ap Some e

pub byte-is : (w : List ℕ) (n : ℕ) → byte w ≡ Ok n → (w ≡ decimal n) × (is_byte n ≡ true)
byte-is w n h = number-is (2 ^ 8) n w (omega arith) (good-ok (number_below (2 ^ 8) w) n h)

pub small-is : (w : List ℕ) (n : ℕ) → small w ≡ Ok n → (w ≡ decimal n) × (is_small n ≡ true)
small-is w n h = number-is (2 ^ 32) n w (omega arith) (good-ok (number_below (2 ^ 32) w) n h)

pub large-is : (w : List ℕ) (n : ℕ) → large w ≡ Ok n → (w ≡ decimal n) × (ltb n (2 ^ 64) ≡ true)
large-is w n h = number-is (2 ^ 64) n w (omega arith) (good-ok (number_below (2 ^ 64) w) n h)

pub profile-number-is : (w : List ℕ) (n : ℕ) → profile_number w ≡ Ok n → (w ≡ decimal n) × (is_profile_number n ≡ true)
profile-number-is w n h =
    let k = number-within-is 1 16 n w (omega arith) (good-ok (number_within 1 16 w) n h) in
    (k.0, and_from _ _ (lt-ltb 0 n (omega (arith, k.1))) (le-leb n 16 k.2))

pub numbered-is : (letter : ℕ) (w : List ℕ) (n : ℕ) → numbered letter w ≡ Ok n → (w ≡ letter ∷ decimal n) × (is_small n ≡ true)
numbered-is letter [] n h = absurd (cc)
numbered-is letter (b ∷ bs) n h =
    let p = if-ok (eqb b letter) (small bs) BadLine n h in
    let q = small-is bs n p.1 in
    (rw (eqb-true b letter p.0, q.0) refl, q.1)

fence-some : (r : Result ℕ Cause) (w : List ℕ) (f : Option FenceNo) → fence_number w ≡ r → (r >>= λ k. Ok (Some (record { 0 = k }))) ≡ Ok f → (w ≡ fence_text f) × (fence_fits f ≡ true)
fence-some (Err c) w f e h = absurd (cc)
fence-some (Ok k) w None e h = absurd (cc)
fence-some (Ok k) w (Some g) e h =
    let s : record { 0 = k } ≡ g = cc in
    let t : k ≡ g.0 = ap (λ (x : FenceNo). x.0) s in
    rw (← t) (numbered-is 102 w k e)

pub fence-is : (w : List ℕ) (f : Option FenceNo) → fence w ≡ Ok f → (w ≡ fence_text f) × (fence_fits f ≡ true)
fence-is w f h = elim (chosen (bytes_eq w (codes "-")) (Ok None) (fence_number w >>= λ k. Ok (Some (record { 0 = k }))) (Ok f) h) [
  | inl p ↦ (let e : None ≡ f = cc in rw (← e) (text-is w (codes "-") p.0, refl))
  | inr p ↦ fence-some (fence_number w) w f refl p.1
]

-- ---- words of several parts

same-cut : (c : ℕ) (a b x y : List ℕ) → a ≡ x → b ≡ y → a ++ c ∷ b ≡ x ++ c ∷ y
same-cut c a b x y h k = rw (h, k) refl

cut_in-ok : {A B : Type 0} (c : ℕ) (w : List ℕ) (o : Option (List ℕ × List ℕ)) (f : List ℕ → Result A Cause) (g : List ℕ → Result B Cause) (x : A) (y : B) → cut_at c w ≡ o → cut_in o f g ≡ Ok (x, y)
    → (p : List ℕ × List ℕ) × (w ≡ p.0 ++ c ∷ p.1) × (f p.0 ≡ Ok x) × (g p.1 ≡ Ok y)
cut_in-ok c w None f g x y e h = absurd (cc)
cut_in-ok c w (Some p) f g x y e h = let b = both-ok (f p.0) (g p.1) x y h in (p, cut-is c w p e, b.0, b.1)

pub item-is : (w : List ℕ) (r i : ℕ) → item w ≡ Ok (r, i) → (w ≡ item_text r i) × (is_small r ≡ true) × (is_small i ≡ true)
item-is w r i h =
    let p = cut_in-ok 46 w (cut_at 46 w) request small r i refl h in
    let a = numbered-is 114 p.0.0 r p.2 in
    let b = small-is p.0.1 i p.3 in
    (rw (p.1, a.0, b.0) refl, a.1, b.1)

pub sent-is : (w : List ℕ) (t : Sent) → sent w ≡ Ok t → (w ≡ sent_text t) × (sent_fits t ≡ true)
unfolding sent
sent-is w t h =
    let s = bind-ok (cut_in (cut_at 58 w) byte fenced_buffer) _ t h in
    let p = cut_in-ok 58 w (cut_at 58 w) byte fenced_buffer s.0.0 s.0.1 refl s.1 in
    let q = cut_in-ok 58 p.0.1 (cut_at 58 p.0.1) buffer fence s.0.1.0 s.0.1.1 refl p.3 in
    let a = byte-is p.0.0 s.0.0 p.2 in
    let b = numbered-is 98 q.0.0 s.0.1.0 q.2 in
    let f = fence-is q.0.1 s.0.1.1 q.3 in
    let e : record { stream = record { 0 = s.0.0 }; buffer = record { 0 = s.0.1.0 }; fence = s.0.1.1 } ≡ t = cc in
    let back : p.0.1 ≡ (98 ∷ decimal s.0.1.0) ++ 58 ∷ fence_text s.0.1.1 = q.1 ∙ same-cut 58 q.0.0 q.0.1 (98 ∷ decimal s.0.1.0) (fence_text s.0.1.1) b.0 f.0 in
    let text : w ≡ decimal s.0.0 ++ 58 ∷ ((98 ∷ decimal s.0.1.0) ++ 58 ∷ fence_text s.0.1.1) = p.1 ∙ same-cut 58 p.0.0 p.0.1 (decimal s.0.0) ((98 ∷ decimal s.0.1.0) ++ 58 ∷ fence_text s.0.1.1) a.0 back in
    let fits : (is_byte s.0.0 && (is_small s.0.1.0 && fence_fits s.0.1.1)) ≡ true = and_from _ _ a.1 (and_from _ _ b.1 f.1) in
    (text ∙ ap sent_text e, sym (ap sent_fits e) ∙ fits)

stream_number-is : (s k : ℕ) (w : List ℕ) → stream_number s w ≡ Ok k → w ≡ decimal s
stream_number-is s k w h = elim (chosen (bytes_eq w (decimal s)) (Ok s) (cond (is_number w) (Err BadLine) (Err BadNumber)) (Ok k) h) [
  | inl p ↦ text-is w (decimal s) p.0
  | inr p ↦ elim (chosen (is_number w) (Err BadLine) (Err BadNumber) (Ok k) p.1) [ inl q ↦ absurd (let x = q.1 in cc) | inr q ↦ absurd (let x = q.1 in cc) ]
]

pub made-is : (s : ℕ) (w : List ℕ) (m : Made) → made s w ≡ Ok m → (w ≡ made_text s m) × (made_fits m ≡ true)
unfolding made
made-is s w m h =
    let t = bind-ok (cut_in (cut_at 58 w) (stream_number s) buffers) _ m h in
    let p = cut_in-ok 58 w (cut_at 58 w) (stream_number s) buffers t.0.0 t.0.1 refl t.1 in
    let q = cut_in-ok 43 p.0.1 (cut_at 43 p.0.1) buffer small t.0.1.0 t.0.1.1 refl p.3 in
    let a = stream_number-is s t.0.0 p.0.0 p.2 in
    let b = numbered-is 98 q.0.0 t.0.1.0 q.2 in
    let n = small-is q.0.1 t.0.1.1 q.3 in
    let e : record { first = record { 0 = t.0.1.0 }; count = t.0.1.1 } ≡ m = cc in
    let back : p.0.1 ≡ (98 ∷ decimal t.0.1.0) ++ 43 ∷ decimal t.0.1.1 = q.1 ∙ same-cut 43 q.0.0 q.0.1 (98 ∷ decimal t.0.1.0) (decimal t.0.1.1) b.0 n.0 in
    let text : w ≡ decimal s ++ 58 ∷ ((98 ∷ decimal t.0.1.0) ++ 43 ∷ decimal t.0.1.1) = p.1 ∙ same-cut 58 p.0.0 p.0.1 (decimal s) ((98 ∷ decimal t.0.1.0) ++ 43 ∷ decimal t.0.1.1) a back in
    let fits : (is_small t.0.1.0 && is_small t.0.1.1) ≡ true = and_from _ _ b.1 n.1 in
    (text ∙ ap (made_text s) e, sym (ap made_fits e) ∙ fits)

pub mark-is : (w : List ℕ) (same : Bool) → mark w ≡ Ok same → w ≡ mark_text same
mark-is w same h = elim (chosen (bytes_eq w (codes "same")) (Ok true) (cond (bytes_eq w (codes "new")) (Ok false) (Err BadLine)) (Ok same) h) [
  | inl p ↦ (let e : true ≡ same = cc in rw (← e) (text-is w (codes "same") p.0))
  | inr p ↦
      let q = if-ok (bytes_eq w (codes "new")) (Ok false) BadLine same p.1 in
      let e : false ≡ same = cc in
      rw (← e) (text-is w (codes "new") q.0)
]

-- ---- hexadecimal text

decoded-ok : {E : Type 0} (r : Result (List ℕ) E) (bytes : List ℕ) → decoded r ≡ Ok bytes → r ≡ Ok bytes
decoded-ok (Ok x) bytes h = let e : x ≡ bytes = cc in ap Ok e
decoded-ok (Err c) bytes h = absurd (cc)

pub hex-is : (w bytes : List ℕ) → hex_bytes w ≡ Ok bytes → (w ≡ encode_lower bytes) × IsBytes bytes
hex-is w bytes h =
    let p = if-ok (list_all is_lower_digit w) (decoded (decode_of w)) BadNumber bytes h in
    hex-are w bytes p.0 (decoded-ok (decode_of w) bytes p.1)

bytes-all : (bytes : List ℕ) → IsBytes bytes → list_all is_byte bytes ≡ true
bytes-all [] h = refl
bytes-all (b ∷ bs) h = and_from _ _ (lt-ltb b (2 ^ 8) (h 0)) (bytes-all bs (λ i. h (suc i)))

pub digest-is : (w d : List ℕ) → digest w ≡ Ok d → (w ≡ encode_lower d) × (is_digest d ≡ true)
unfolding digest
digest-is w d h =
    let p = if-ok (eqb (length w) 64) (hex_bytes w) BadNumber d h in
    let q = hex-is w d p.1 in
    let long = eqb-true (length w) 64 p.0 in
    let n : length d ≡ 32 = omega (arith, length-encode_with lower_digits d, ap length q.0, long) in
    (q.0, and_from _ _ (eq-eqb (length d) 32 n) (bytes-all d q.1))

pub part_number-is : (w : List ℕ) (k : ℕ) → part_number w ≡ Ok k → w ≡ decimal k
part_number-is w k h = elim (chosen (bytes_eq w (codes "1")) (Ok 1) (cond (bytes_eq w (codes "2")) (Ok 2) (cond (bytes_eq w (codes "3")) (Ok 3) (Err BadNumber))) (Ok k) h) [
  | inl p ↦ (let e : 1 ≡ k = cc in text-is w (codes "1") p.0 ∙ (sym (decimal_digit 1 (omega arith)) ∙ ap decimal e))
  | inr p ↦ elim (chosen (bytes_eq w (codes "2")) (Ok 2) (cond (bytes_eq w (codes "3")) (Ok 3) (Err BadNumber)) (Ok k) p.1) [
    | inl q ↦ (let e : 2 ≡ k = cc in text-is w (codes "2") q.0 ∙ (sym (decimal_digit 2 (omega arith)) ∙ ap decimal e))
    | inr q ↦
        let r = if-ok (bytes_eq w (codes "3")) (Ok 3) BadNumber k q.1 in
        let e : 3 ≡ k = cc in
        text-is w (codes "3") r.0 ∙ (sym (decimal_digit 3 (omega arith)) ∙ ap decimal e)
  ]
]
