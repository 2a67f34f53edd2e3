-- The line of an entry is read as the entry.
use Rattle.std.proofs.Common.{◌≡◌, ℕ, suc, ◌+◌, ◌≤◌, ◌^◌, true, false, ◌&&◌, eqb, ltb, List, [], ◌∷◌, ◌++◌, length, map, Option, None, Some, Result, Ok, refl, ap, arith}
use Rattle.std.specs.Prelude.{codes, decimal, option_to_list}
use Rattle.std.specs.List.{list_all}
use Rattle.std.proofs.lemmas.Bool.{and_parts, ltb-true, eqb-true, le-ltb, false≢true}
use Rattle.std.proofs.lemmas.List.{length-append}
use Rattle.std.proofs.lemmas.Fmt.{decimal_digit}
use Rattle.cam_types.specs.Four.{four_list, four_of}
use Rattle.cam_types.specs.declared.four.Four.{Four}
use Rattle.cam_types.specs.declared.partial_result.PartialResult.{PartialResult}
use Rattle.cam_types.specs.declared.partial_result.PartialResult.TheVariants.{Look, Light, Time}
use Rattle.cam_types.specs.declared.reply.Made.{Made}
use Rattle.cam_types.specs.declared.reply.Reply.{Reply}
use Rattle.cam_types.specs.declared.reply.Reply.TheVariants as reply
use Rattle.cam_types.specs.declared.script.Word.{Word}
use Rattle.cam_types.specs.declared.script.Word.TheVariants.{Configure, Once, Burst, Repeat, Wait, Await, Flush, Close, Disconnect}
use Rattle.hex.specs.Hex.{IsBytes}
use Rattle.metadata.specs.Reading.{list_of}
use Rattle.metadata.specs.Spelling.{bytes_of}
use Rattle.metadata.proofs.Whole.{all_again}
use Rattle.metadata.specs.Parts.{part_entries, part_in}
use Rattle.metadata.proofs.Parts.{part_packed, part_numbers, part_again}
use Rattle.trace_model.specs.Printable.{is_small, is_byte, fence_fits, is_filled, sent_fits, made_fits, reply_fits, part_fits, is_digest, is_printable}
use Rattle.trace_model.specs.declared.entry.Entry.{Entry}
use Rattle.trace_model.specs.declared.entry.Entry.TheVariants.{Begin, Call, Send, Dropped, Shutter, Partial, Filled, Failed, ErrorRequest, ErrorResult, ErrorBuffer, ErrorDevice, Release, Signal, Early, Late}
use Rattle.trace_model.specs.declared.entry.Sent.{Sent}
use Rattle.trace_text.specs.Spelling.{sent_text, made_words, reply_words, part_text, entry_words}
use Rattle.text_parts.specs.CommandWords.{word_text}
use Rattle.trace_reader.specs.declared.cause.Cause.{Cause}
use Rattle.trace_reader.specs.Values.{sent, made, part_number as part_number_word}
use Rattle.trace_reader.specs.Lines.{each, up_to_four, reply_of, call_of, send_of, buffer_of, early_of, error_of, partial_of, kind_of, entry_in, entry_with}
use Rattle.trace_reader.proofs.AgainValues.{byte-again, small-again, large-again, fence-again, item-again, sent-again, made-again, mark-again, hex-again, digest-again, all-bytes}
use Rattle.text_parts.proofs.Texts.{word-again}
use Rattle.trace_reader.proofs.PartBytes.{part-all}

-- ---- up to four words

sents-again : (s : ℕ) (ts : List Sent) → list_all sent_fits ts ≡ true → each (λ k. sent) s (map sent_text ts) ≡ Ok ts
sents-again s [] h = refl
sents-again s (t ∷ ts) h =
    let p = and_parts (sent_fits t) (list_all sent_fits ts) h in
    rw (sent-again t p.0, sents-again (s + 1) ts p.1) refl

mades-again : (s : ℕ) (ms : List Made) → s + length ms ≤ 8 → list_all made_fits ms ≡ true → each made s (made_words s ms) ≡ Ok ms
mades-again s [] l h = refl
mades-again s (m ∷ ms) l h =
    let p = and_parts (made_fits m) (list_all made_fits ms) h in
    rw (made-again s m (omega arith) p.0, mades-again (s + 1) ms (omega arith) p.1) refl

option-short : {A : Type 0} (o : Option A) → length (option_to_list o) ≤ 1
option-short None = omega arith
option-short (Some x) = omega arith

four-short : {A : Type 0} (f : Four A) → length (four_list f) ≤ 4
four-short f =
    let a = option-short f.a in
    let b = option-short f.b in
    let c = option-short f.c in
    let d = option-short f.d in
    omega (arith, length-append (option_to_list f.a) (option_to_list f.b ++ (option_to_list f.c ++ option_to_list f.d)), length-append (option_to_list f.b) (option_to_list f.c ++ option_to_list f.d), length-append (option_to_list f.c) (option_to_list f.d))

pub four-few : {A : Type 0} (f : Four A) → 0 + length (four_list f) ≤ 8
four-few f = let l = four-short f in omega arith

abbrev four : {A : Type 0} → Option A → Option A → Option A → Option A → Four A
four a b c d = record { a = a; b = b; c = c; d = d }

filled-again : {A : Type 0} (a b c d : Option A) → is_filled (four a b c d) ≡ true → four_of (four_list (four a b c d)) ≡ four a b c d
filled-again None None None None h = refl
filled-again (Some x) None None None h = refl
filled-again (Some x) (Some y) None None h = refl
filled-again (Some x) (Some y) (Some z) None h = refl
filled-again (Some x) (Some y) (Some z) (Some w) h = refl
filled-again None (Some y) c d h = absurd (false≢true h)
filled-again None None (Some z) d h = absurd (false≢true h)
filled-again None None None (Some w) h = absurd (false≢true h)
filled-again (Some x) None (Some z) d h = absurd (false≢true h)
filled-again (Some x) None None (Some w) h = absurd (false≢true h)
filled-again (Some x) (Some y) None (Some w) h = absurd (false≢true h)

map-length : {A B : Type 0} (f : A → B) (xs : List A) → length (map f xs) ≡ length xs
map-length f [] = refl
map-length f (x ∷ xs) = ap suc (map-length f xs)

made-length : (s : ℕ) (ms : List Made) → length (made_words s ms) ≡ length ms
made-length s [] = refl
made-length s (m ∷ ms) = ap suc (made-length (s + 1) ms)

up_to-again : {A : Type 0} (read : ℕ → List ℕ → Result A Cause) (words : List (List ℕ)) (f : Four A) → length words ≤ 4 → each read 0 words ≡ Ok (four_list f) → is_filled f ≡ true → up_to_four read words ≡ Ok f
up_to-again read words f l e h =
    let full : four_of (four_list f) ≡ f = filled-again f.a f.b f.c f.d h in
    rw (le-ltb 4 (length words) l, e) (ap Ok full)

pub targets-again : (f : Four Sent) → is_filled f ≡ true → list_all sent_fits (four_list f) ≡ true → up_to_four (λ k. sent) (map sent_text (four_list f)) ≡ Ok f
targets-again f h k = up_to-again (λ i. sent) (map sent_text (four_list f)) f (omega (arith, map-length sent_text (four_list f), four-short f)) (sents-again 0 (four_list f) k) h

pub streams-again : (f : Four Made) → is_filled f ≡ true → list_all made_fits (four_list f) ≡ true → up_to_four made (made_words 0 (four_list f)) ≡ Ok f
streams-again f h k =
    let l = four-short f in
    up_to-again made (made_words 0 (four_list f)) f (omega (arith, made-length 0 (four_list f))) (mades-again 0 (four_list f) (omega arith) k) h

-- ---- replies

refusal-again : (word : Word) (code : ℕ) (first second : Option ℕ) → reply_fits word (reply.Refused code first second) ≡ true → reply_of word (reply_words (reply.Refused code first second)) ≡ Ok (reply.Refused code first second)
unfolding reply_of
refusal-again word code None None h =
    let p = and_parts (is_byte code) _ h in rw (byte-again code p.0) refl
refusal-again word code (Some f) None h =
    let p = and_parts (is_byte code) _ h in
    let q = and_parts (is_small f && true) true p.1 in
    let r = and_parts (is_small f) true q.0 in
    rw (byte-again code p.0, small-again f r.0) refl
refusal-again word code (Some f) (Some s) h =
    let p = and_parts (is_byte code) _ h in
    let q = and_parts (is_small f && is_small s) true p.1 in
    let r = and_parts (is_small f) (is_small s) q.0 in
    rw (byte-again code p.0, small-again f r.0, small-again s r.1) refl
refusal-again word code None (Some s) h =
    let p = and_parts (is_byte code) _ h in
    let q = and_parts (true && is_small s) false p.1 in
    absurd (false≢true q.1)

ok-again : (word : Word) → reply_fits word reply.Ok ≡ true → reply_of word (reply_words reply.Ok) ≡ Ok reply.Ok
unfolding reply_of
ok-again Configure h = absurd (false≢true h)
ok-again Once h = absurd (false≢true h)
ok-again Burst h = absurd (false≢true h)
ok-again Repeat h = absurd (false≢true h)
ok-again _ h = refl

submitted-again : (word : Word) (r : ℕ) → reply_fits word (reply.Submitted (record { 0 = r })) ≡ true → reply_of word (reply_words (reply.Submitted (record { 0 = r }))) ≡ Ok (reply.Submitted (record { 0 = r }))
unfolding reply_of
submitted-again Once r h = rw (small-again r h) refl
submitted-again Burst r h = rw (small-again r h) refl
submitted-again Repeat r h = rw (small-again r h) refl
submitted-again _ r h = absurd (false≢true h)

configured-again : (word : Word) (made : Four Made) → reply_fits word (reply.Configured made) ≡ true → reply_of word (reply_words (reply.Configured made)) ≡ Ok (reply.Configured made)
unfolding reply_of
configured-again Configure made h =
    let p = and_parts (is_filled made) (list_all made_fits (four_list made)) h in
    rw (streams-again made p.0 p.1) refl
configured-again Once made h = absurd (false≢true h)
configured-again _ made h = absurd (false≢true h)

pub reply-again : (word : Word) (r : Reply) → reply_fits word r ≡ true → reply_of word (reply_words r) ≡ Ok r
reply-again word reply.Ok h = ok-again word h
reply-again word (reply.Submitted r) h = submitted-again word r.0 h
reply-again word (reply.Configured made) h = configured-again word made h
reply-again word (reply.Refused code first second) h = refusal-again word code first second h

-- ---- entries

begin-again : (word : Word) → is_printable (Begin word) ≡ true → entry_with (codes "begin") (word_text word ∷ []) ≡ Ok (Begin word)
unfolding kind_of entry_in
begin-again Configure h = rw (word-again Configure) refl
begin-again Wait h = rw (word-again Wait) refl
begin-again Await h = rw (word-again Await) refl
begin-again Flush h = rw (word-again Flush) refl
begin-again Close h = rw (word-again Close) refl
begin-again Disconnect h = rw (word-again Disconnect) refl
begin-again _ h = absurd (false≢true h)

-- ---- parts

part-number-again : (k : ℕ) (part : PartialResult) → part_fits k part ≡ true → (part_number_word (decimal k) ≡ Ok k) × (part_in k (part_entries part) ≡ Some part)
part-number-again k (Look pattern level) h =
    let p = and_parts (eqb k 1) (is_byte pattern && ltb level (2 ^ 31)) h in
    let e : k ≡ 1 = eqb-true k 1 p.0 in
    rw e (rw (decimal_digit 1 (omega arith)) refl, part_again (Look pattern level))
part-number-again k (Light exposure iso) h =
    let p = and_parts (eqb k 2) (ltb exposure (2 ^ 63) && ltb iso (2 ^ 31)) h in
    let e : k ≡ 2 = eqb-true k 2 p.0 in
    rw e (rw (decimal_digit 2 (omega arith)) refl, part_again (Light exposure iso))
part-number-again k (Time timestamp) h =
    let p = and_parts (eqb k 3) (ltb timestamp (2 ^ 63)) h in
    let e : k ≡ 3 = eqb-true k 3 p.0 in
    rw e (rw (decimal_digit 3 (omega arith)) refl, part_again (Time timestamp))

part-list : (k : ℕ) (part : PartialResult) → part_fits k part ≡ true → list_of (bytes_of (part_entries part)) ≡ Ok (part_entries part)
part-list k (Look pattern level) h =
    let p = and_parts (eqb k 1) (is_byte pattern && ltb level (2 ^ 31)) h in
    let q = and_parts (is_byte pattern) (ltb level (2 ^ 31)) p.1 in
    all_again (part_entries (Look pattern level)) (part_packed (Look pattern level)) (part_numbers (Look pattern level) (ltb-true pattern (2 ^ 8) q.0) (ltb-true level (2 ^ 31) q.1))
part-list k (Light exposure iso) h =
    let p = and_parts (eqb k 2) (ltb exposure (2 ^ 63) && ltb iso (2 ^ 31)) h in
    let q = and_parts (ltb exposure (2 ^ 63)) (ltb iso (2 ^ 31)) p.1 in
    all_again (part_entries (Light exposure iso)) (part_packed (Light exposure iso)) (part_numbers (Light exposure iso) tt (ltb-true exposure (2 ^ 63) q.0, ltb-true iso (2 ^ 31) q.1))
part-list k (Time timestamp) h =
    let p = and_parts (eqb k 3) (ltb timestamp (2 ^ 63)) h in
    all_again (part_entries (Time timestamp)) (part_packed (Time timestamp)) (part_numbers (Time timestamp) tt (ltb-true timestamp (2 ^ 63) p.1))

pub part-bytes : (k : ℕ) (part : PartialResult) → part_fits k part ≡ true → IsBytes (bytes_of (part_entries part))
part-bytes k part h = all-bytes (bytes_of (part_entries part)) (part-all k part h)

partial-again : (n k : ℕ) (part : PartialResult) → is_small n ≡ true → part_fits k part ≡ true → entry_with (codes "partial") (decimal n ∷ decimal k ∷ part_text part ∷ []) ≡ Ok (Partial (record { 0 = n }) k part)
unfolding kind_of entry_in partial_of
partial-again n k part h f =
    let e = part-number-again k part f in
    rw (small-again n h, e.0, hex-again (bytes_of (part_entries part)) (part-bytes k part f), part-list k part f, e.1) refl

-- the words behind the first
abbrev pub behind : List (List ℕ) → List (List ℕ)
behind [] = []
behind (w ∷ ws) = ws

abbrev pub first : List (List ℕ) → List ℕ
first [] = []
first (w ∷ ws) = w

abbrev IsAgain : Entry → Type 0
IsAgain e = entry_with (first (entry_words e)) (behind (entry_words e)) ≡ Ok e

pub entry-again : (e : Entry) → is_printable e ≡ true → IsAgain e
unfolding kind_of entry_in call_of send_of buffer_of early_of error_of
entry-again (Begin word) h = begin-again word h
entry-again (Call i word r) h =
    let p = and_parts (is_small i) (reply_fits word r) h in
    rw (word-again word, small-again i p.0, reply-again word r p.1) refl
entry-again (Send n r i same targets) h =
    let p = and_parts (is_small n.0 && (is_small r.0 && is_small i)) (is_filled targets && list_all sent_fits (four_list targets)) h in
    let q = and_parts (is_small n.0) (is_small r.0 && is_small i) p.0 in
    let s = and_parts (is_small r.0) (is_small i) q.1 in
    let t = and_parts (is_filled targets) (list_all sent_fits (four_list targets)) p.1 in
    rw (small-again n.0 q.0, item-again r.0 i s.0 s.1, mark-again same, targets-again targets t.0 t.1) refl
entry-again (Dropped n r i) h =
    let q = and_parts (is_small n.0) (is_small r.0 && is_small i) h in
    let s = and_parts (is_small r.0) (is_small i) q.1 in
    rw (small-again n.0 q.0, item-again r.0 i s.0 s.1) refl
entry-again (Shutter n time) h =
    let q = and_parts (is_small n.0) (ltb time (2 ^ 64)) h in
    rw (small-again n.0 q.0, large-again time q.1) refl
entry-again (Partial n k part) h =
    let q = and_parts (is_small n.0) (part_fits k part) h in
    partial-again n.0 k part q.0 q.1
entry-again (Filled n s b (Some f) digest) h =
    let p = and_parts (is_small n.0 && (is_byte s.0 && is_small b.0)) (false && is_digest digest) h in
    absurd (false≢true p.1)
entry-again (Filled n s b None digest) h =
    let p = and_parts (is_small n.0 && (is_byte s.0 && is_small b.0)) (true && is_digest digest) h in
    let q = and_parts (is_small n.0) (is_byte s.0 && is_small b.0) p.0 in
    let t = and_parts (is_byte s.0) (is_small b.0) q.1 in
    rw (small-again n.0 q.0, byte-again s.0 t.0, small-again b.0 t.1, digest-again digest p.1) refl
entry-again (Failed n s b f) h =
    let p = and_parts (is_small n.0 && (is_byte s.0 && is_small b.0)) (fence_fits f) h in
    let q = and_parts (is_small n.0) (is_byte s.0 && is_small b.0) p.0 in
    let t = and_parts (is_byte s.0) (is_small b.0) q.1 in
    rw (small-again n.0 q.0, byte-again s.0 t.0, small-again b.0 t.1, fence-again f p.1) refl
entry-again (ErrorRequest n) h = rw (small-again n.0 h) refl
entry-again (ErrorResult n) h = rw (small-again n.0 h) refl
entry-again (ErrorBuffer n s) h =
    let p = and_parts (is_small n.0) (is_byte s.0) h in
    rw (small-again n.0 p.0, byte-again s.0 p.1) refl
entry-again ErrorDevice h = refl
entry-again (Release b f) h =
    let p = and_parts (is_small b.0) (is_small f.0) h in
    rw (small-again b.0 p.0, small-again f.0 p.1) refl
entry-again (Signal f) h = rw (small-again f.0 h) refl
entry-again (Early n s b f) h =
    let p = and_parts (is_small n.0 && (is_byte s.0 && is_small b.0)) (is_small f.0) h in
    let q = and_parts (is_small n.0) (is_byte s.0 && is_small b.0) p.0 in
    let r = and_parts (is_byte s.0) (is_small b.0) q.1 in
    rw (small-again n.0 q.0, byte-again s.0 r.0, small-again b.0 r.1, small-again f.0 p.1) refl
entry-again (Late f digest) h =
    let p = and_parts (is_small f.0) (is_digest digest) h in
    rw (small-again f.0 p.0, digest-again digest p.1) refl
