-- The words of an entry's line are words: they aren't empty and have no space.
use Rattle.text_parts.proofs.Texts.{a-word}
use Rattle.std.proofs.Common.{◌≡◌, ℕ, ◌+◌, ◌<◌, ◌≤◌, ◌^◌, Bool, true, false, ◌&&◌, not, eqb, ltb, leb, List, [], ◌∷◌, ◌++◌, length, map, Option, None, Some, refl, arith}
use Rattle.std.specs.Prelude.{codes, decimal, is_some}
use Rattle.std.specs.List.{list_all}
use Rattle.std.proofs.lemmas.Bool.{and_parts, and_from, eqb-true, ltb-true, leb-true, false≢true}
use Rattle.std.proofs.lemmas.Bool.Decides.{nat_tests}
use Rattle.std.proofs.lemmas.List.{length-append}
use Rattle.cam_types.specs.Four.{four_list}
use Rattle.cam_types.specs.declared.four.Four.{Four}
use Rattle.cam_types.specs.declared.number.FenceNo.{FenceNo}
use Rattle.cam_types.specs.Profile.{is_profile_number}
use Rattle.cam_types.specs.declared.profile.Profile.{Profile}
use Rattle.cam_types.specs.declared.partial_result.PartialResult.{PartialResult}
use Rattle.cam_types.specs.declared.partial_result.PartialResult.TheVariants.{Look, Light, Time}
use Rattle.cam_types.specs.declared.reply.Made.{Made}
use Rattle.cam_types.specs.declared.reply.Reply.{Reply}
use Rattle.cam_types.specs.declared.reply.Reply.TheVariants as reply
use Rattle.cam_types.specs.declared.script.Word.{Word}
use Rattle.cam_types.specs.declared.script.Word.TheVariants.{Configure, Once, Burst, Repeat}
use Rattle.hex.specs.Hex.{IsBytes, encode_lower, lower_digits}
use Rattle.hex.proofs.HexLemmas.{length-encode_with}
use Rattle.metadata.specs.Spelling.{bytes_of}
use Rattle.metadata.specs.Parts.{part_entries}
use Rattle.trace_model.specs.Printable.{is_small, is_byte, fence_fits, number_fits, is_filled, sent_fits, made_fits, reply_fits, part_fits, is_digest, is_printable}
use Rattle.trace_model.specs.declared.entry.Entry.{Entry}
use Rattle.trace_model.specs.declared.entry.Entry.TheVariants.{Begin, Call, Send, Dropped, Shutter, Partial, Filled, Failed, ErrorRequest, ErrorResult, ErrorBuffer, ErrorDevice, Release, Signal, Early, Late}
use Rattle.trace_model.specs.declared.entry.Sent.{Sent}
use Rattle.trace_text.specs.Spelling.{buffer_text, device_fence, fence_text, request_text, item_text, mark_text, sent_text, made_text, made_words, reply_words, entry_words, first_words, first_line_fits}
use Rattle.trace_reader.specs.Values.{is_lower_digit}
use Rattle.text_parts.specs.Words.{is_plain, is_word}
use Rattle.text_parts.proofs.Joined.{plain-append, word-from}
use Rattle.text_parts.proofs.Spelled.{number-plain, number-word}
use Rattle.basic_lemmas.proofs.Lists.{all-where}
use Rattle.trace_reader.proofs.AgainValues.{small-64, byte-64, hex-lower, all-bytes}
use Rattle.trace_reader.proofs.AgainLines.{part-bytes, four-few}
use Rattle.trace_reader.proofs.PartBytes.{part-some}

letter-word : (c n : ℕ) → is_plain c ≡ true → is_small n ≡ true → is_word (c ∷ decimal n) ≡ true
letter-word c n h k = word-from (c ∷ decimal n) (and_from _ _ h (number-plain n (small-64 n k))) (omega arith)

fence-plain : (f : Option FenceNo) → fence_fits f ≡ true → list_all is_plain (fence_text f) ≡ true
fence-plain None h = refl
fence-plain (Some f) h = number-plain f.0 (small-64 f.0 h)

fence-is-word : (f : Option FenceNo) → fence_fits f ≡ true → is_word (fence_text f) ≡ true
fence-is-word None h = refl
fence-is-word (Some f) h = letter-word 102 f.0 refl h

item-is-word : (r i : ℕ) → is_small r ≡ true → is_small i ≡ true → is_word (item_text r i) ≡ true
item-is-word r i h k = word-from (item_text r i) (plain-append (request_text r) (46 ∷ decimal i) (number-plain r (small-64 r h)) (number-plain i (small-64 i k))) (omega arith)

sent-is-word : (t : Sent) → sent_fits t ≡ true → is_word (sent_text t) ≡ true
sent-is-word t h =
    let p = and_parts (is_byte t.stream.0) _ h in
    let q = and_parts (is_small t.buffer.0) (fence_fits t.fence) p.1 in
    let back : list_all is_plain (buffer_text t.buffer.0 ++ 58 ∷ fence_text t.fence) ≡ true = plain-append (buffer_text t.buffer.0) (58 ∷ fence_text t.fence) (number-plain t.buffer.0 (small-64 t.buffer.0 q.0)) (fence-plain t.fence q.1) in
    word-from (sent_text t) (plain-append (decimal t.stream.0) (58 ∷ (buffer_text t.buffer.0 ++ 58 ∷ fence_text t.fence)) (number-plain t.stream.0 (byte-64 t.stream.0 p.0)) back)
    (omega (arith, length-append (decimal t.stream.0) (58 ∷ (buffer_text t.buffer.0 ++ 58 ∷ fence_text t.fence))))

made-is-word : (s : ℕ) (m : Made) → s < 2 ^ 64 → made_fits m ≡ true → is_word (made_text s m) ≡ true
made-is-word s m l h =
    let q = and_parts (is_small m.first.0) (is_small m.count) h in
    let back : list_all is_plain (buffer_text m.first.0 ++ 43 ∷ decimal m.count) ≡ true = plain-append (buffer_text m.first.0) (43 ∷ decimal m.count) (number-plain m.first.0 (small-64 m.first.0 q.0)) (number-plain m.count (small-64 m.count q.1)) in
    word-from (made_text s m) (plain-append (decimal s) (58 ∷ (buffer_text m.first.0 ++ 43 ∷ decimal m.count)) (number-plain s l) back)
    (omega (arith, length-append (decimal s) (58 ∷ (buffer_text m.first.0 ++ 43 ∷ decimal m.count))))

mark-is-word : (same : Bool) → is_word (mark_text same) ≡ true
mark-is-word true = refl
mark-is-word false = refl

sents-are-words : (ts : List Sent) → list_all sent_fits ts ≡ true → list_all is_word (map sent_text ts) ≡ true
sents-are-words [] h = refl
sents-are-words (t ∷ ts) h =
    let p = and_parts (sent_fits t) (list_all sent_fits ts) h in
    and_from _ _ (sent-is-word t p.0) (sents-are-words ts p.1)

mades-are-words : (s : ℕ) (ms : List Made) → s + length ms ≤ 8 → list_all made_fits ms ≡ true → list_all is_word (made_words s ms) ≡ true
mades-are-words s [] l h = refl
mades-are-words s (m ∷ ms) l h =
    let p = and_parts (made_fits m) (list_all made_fits ms) h in
    and_from _ _ (made-is-word s m (omega arith) p.0) (mades-are-words (s + 1) ms (omega arith) p.1)

small-word : (n : ℕ) → is_small n ≡ true → is_word (decimal n) ≡ true
small-word n h = number-word n (small-64 n h)

byte-word : (n : ℕ) → is_byte n ≡ true → is_word (decimal n) ≡ true
byte-word n h = number-word n (byte-64 n h)

refusal-words : (code : ℕ) (first second : Option ℕ) → is_byte code ≡ true → number_fits first ≡ true → number_fits second ≡ true → list_all is_word (reply_words (reply.Refused code first second)) ≡ true
refusal-words code None None c f s = and_from _ _ (byte-word code c) refl
refusal-words code (Some m) None c f s = and_from _ _ (byte-word code c) (and_from _ _ (small-word m f) refl)
refusal-words code None (Some n) c f s = and_from _ _ (byte-word code c) (and_from _ _ (small-word n s) refl)
refusal-words code (Some m) (Some n) c f s = and_from _ _ (byte-word code c) (and_from _ _ (small-word m f) (and_from _ _ (small-word n s) refl))

configured-words : (word : Word) (made : Four Made) → reply_fits word (reply.Configured made) ≡ true → list_all is_word (reply_words (reply.Configured made)) ≡ true
configured-words Configure made h =
    let p = and_parts (is_filled made) (list_all made_fits (four_list made)) h in
    mades-are-words 0 (four_list made) (four-few made) p.1
configured-words Once made h = absurd (false≢true h)
configured-words _ made h = absurd (false≢true h)

-- only commands that submit have a request
submitted-small : (word : Word) (r : ℕ) → reply_fits word (reply.Submitted (record { 0 = r })) ≡ true → is_small r ≡ true
submitted-small Once r h = h
submitted-small Burst r h = h
submitted-small Repeat r h = h
submitted-small _ r h = absurd (false≢true h)

reply-are-words : (word : Word) (r : Reply) → reply_fits word r ≡ true → list_all is_word (reply_words r) ≡ true
reply-are-words word reply.Ok h = refl
reply-are-words word (reply.Submitted r) h = and_from _ _ (letter-word 114 r.0 refl (submitted-small word r.0 h)) refl
reply-are-words word (reply.Configured made) h = configured-words word made h
reply-are-words word (reply.Refused code first second) h =
    let p = and_parts (is_byte code) _ h in
    let q = and_parts (number_fits first && number_fits second) _ p.1 in
    let r = and_parts (number_fits first) (number_fits second) q.0 in
    refusal-words code first second p.0 r.0 r.1

lower-plain : (b : ℕ) → is_lower_digit b ≡ true → is_plain b ≡ true
lower-plain b h = grind (arith, nat_tests)

hex-word : (bytes : List ℕ) → IsBytes bytes → 0 < length bytes → is_word (encode_lower bytes) ≡ true
hex-word bytes h l =
    word-from (encode_lower bytes) (all-where is_lower_digit is_plain (encode_lower bytes) lower-plain (hex-lower bytes h)) (omega (arith, length-encode_with lower_digits bytes))

digest-word : (d : List ℕ) → is_digest d ≡ true → is_word (encode_lower d) ≡ true
digest-word d h =
    let p = and_parts (eqb (length d) 32) (list_all is_byte d) h in
    let long = eqb-true (length d) 32 p.0 in
    hex-word d (all-bytes d p.1) (omega arith)

part-number-word : (k : ℕ) (part : PartialResult) → part_fits k part ≡ true → is_word (decimal k) ≡ true
part-number-word k (Look pattern level) h = let e = eqb-true k 1 (and_parts (eqb k 1) (is_byte pattern && ltb level (2 ^ 31)) h).0 in number-word k (omega arith)
part-number-word k (Light exposure iso) h = let e = eqb-true k 2 (and_parts (eqb k 2) (ltb exposure (2 ^ 63) && ltb iso (2 ^ 31)) h).0 in number-word k (omega arith)
part-number-word k (Time timestamp) h = let e = eqb-true k 3 (and_parts (eqb k 3) (ltb timestamp (2 ^ 63)) h).0 in number-word k (omega arith)

returned-words : (n s b : ℕ) (ws : List (List ℕ)) → (is_small n && (is_byte s && is_small b)) ≡ true → list_all is_word ws ≡ true → list_all is_word (decimal n ∷ decimal s ∷ buffer_text b ∷ ws) ≡ true
returned-words n s b ws h k =
    let q = and_parts (is_small n) (is_byte s && is_small b) h in
    let t = and_parts (is_byte s) (is_small b) q.1 in
    and_from _ _ (small-word n q.0) (and_from _ _ (byte-word s t.0) (and_from _ _ (letter-word 98 b refl t.1) k))

pub entry-plain : (e : Entry) → is_printable e ≡ true → list_all is_word (entry_words e) ≡ true
entry-plain (Begin word) h = and_from _ _ (a-word word) refl
entry-plain (Call i word r) h =
    let p = and_parts (is_small i) (reply_fits word r) h in
    and_from _ _ (small-word i p.0) (and_from _ _ (a-word word) (reply-are-words word r p.1))
entry-plain (Send n r i same targets) h =
    let p = and_parts (is_small n.0 && (is_small r.0 && is_small i)) (is_filled targets && list_all sent_fits (four_list targets)) h in
    let q = and_parts (is_small n.0) (is_small r.0 && is_small i) p.0 in
    let s = and_parts (is_small r.0) (is_small i) q.1 in
    let t = and_parts (is_filled targets) (list_all sent_fits (four_list targets)) p.1 in
    and_from _ _ (small-word n.0 q.0) (and_from _ _ (item-is-word r.0 i s.0 s.1) (and_from _ _ (mark-is-word same) (sents-are-words (four_list targets) t.1)))
entry-plain (Dropped n r i) h =
    let q = and_parts (is_small n.0) (is_small r.0 && is_small i) h in
    let s = and_parts (is_small r.0) (is_small i) q.1 in
    and_from _ _ (small-word n.0 q.0) (and_from _ _ (item-is-word r.0 i s.0 s.1) refl)
entry-plain (Shutter n time) h =
    let q = and_parts (is_small n.0) (ltb time (2 ^ 64)) h in
    and_from _ _ (small-word n.0 q.0) (and_from _ _ (number-word time (ltb-true time (2 ^ 64) q.1)) refl)
entry-plain (Partial n k part) h =
    let q = and_parts (is_small n.0) (part_fits k part) h in
    and_from _ _ (small-word n.0 q.0) (and_from _ _ (part-number-word k part q.1) (and_from _ _ (hex-word (bytes_of (part_entries part)) (part-bytes k part q.1) (part-some part)) refl))
entry-plain (Filled n s b f digest) h =
    let p = and_parts (is_small n.0 && (is_byte s.0 && is_small b.0)) (not (is_some f) && is_digest digest) h in
    let q = and_parts (not (is_some f)) (is_digest digest) p.1 in
    returned-words n.0 s.0 b.0 (codes "ok" ∷ codes "-" ∷ encode_lower digest ∷ []) p.0 (and_from _ _ (digest-word digest q.1) refl)
entry-plain (Failed n s b f) h =
    let p = and_parts (is_small n.0 && (is_byte s.0 && is_small b.0)) (fence_fits f) h in
    returned-words n.0 s.0 b.0 (codes "error" ∷ fence_text f ∷ []) p.0 (and_from _ _ (fence-is-word f p.1) refl)
entry-plain (ErrorRequest n) h = and_from _ _ (small-word n.0 h) refl
entry-plain (ErrorResult n) h = and_from _ _ (small-word n.0 h) refl
entry-plain (ErrorBuffer n s) h =
    let p = and_parts (is_small n.0) (is_byte s.0) h in
    and_from _ _ (small-word n.0 p.0) (and_from _ _ (byte-word s.0 p.1) refl)
entry-plain ErrorDevice h = refl
entry-plain (Release b f) h =
    let p = and_parts (is_small b.0) (is_small f.0) h in
    and_from _ _ (letter-word 98 b.0 refl p.0) (and_from _ _ (letter-word 102 f.0 refl p.1) refl)
entry-plain (Signal f) h = and_from _ _ (letter-word 102 f.0 refl h) refl
entry-plain (Early n s b f) h =
    let p = and_parts (is_small n.0 && (is_byte s.0 && is_small b.0)) (is_small f.0) h in
    returned-words n.0 s.0 b.0 (device_fence f.0 ∷ []) p.0 (and_from _ _ (letter-word 100 f.0 refl p.1) refl)
entry-plain (Late f digest) h =
    let p = and_parts (is_small f.0) (is_digest digest) h in
    and_from _ _ (letter-word 100 f.0 refl p.0) (and_from _ _ (digest-word digest p.1) refl)

profile-word : (n : ℕ) → is_profile_number n ≡ true → is_word (decimal n) ≡ true
profile-word n h =
    let p = and_parts (ltb 0 n) (leb n 16) h in
    let l = leb-true n 16 p.1 in
    number-word n (omega arith)

pub first-plain : (profile : Option Profile) → first_line_fits profile ≡ true → list_all is_word (first_words profile) ≡ true
first-plain None h = refl
first-plain (Some p) h =
    let q = and_parts (is_profile_number p.depth) (is_profile_number p.raw && is_profile_number p.yuv) h in
    let r = and_parts (is_profile_number p.raw) (is_profile_number p.yuv) q.1 in
    and_from _ _ (profile-word p.depth q.0) (and_from _ _ (profile-word p.raw r.0) (and_from _ _ (profile-word p.yuv r.1) refl))
