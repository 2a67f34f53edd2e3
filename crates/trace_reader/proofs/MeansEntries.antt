-- Entries of more words.
use Rattle.std.proofs.Common.{◌≡◌, ℕ, true, ◌&&◌, cond, List, [], ◌∷◌, Option, None, Some, Ok, Err, refl, sym, ap, ◌∙◌, inl, inr}
use Rattle.std.specs.Prelude.{codes, decimal, bytes_eq}
use Rattle.std.proofs.lemmas.Bool.{and_from}
use Rattle.cam_types.specs.declared.number.FenceNo.{FenceNo}
use Rattle.cam_types.specs.declared.number.FrameNo.{FrameNo}
use Rattle.cam_types.specs.declared.reply.Reply.{Reply}
use Rattle.cam_types.specs.declared.reply.Reply.TheVariants as reply
use Rattle.cam_types.specs.declared.script.Word.{Word}
use Rattle.cam_types.specs.declared.script.Word.TheVariants.{Configure, Once, Burst, Repeat}
use Rattle.trace_model.specs.Printable.{is_small, is_byte, reply_fits, is_printable}
use Rattle.trace_model.specs.declared.entry.Entry.{Entry}
use Rattle.trace_model.specs.declared.entry.Entry.TheVariants.{Call, Send, Filled, Failed, ErrorRequest, ErrorResult, ErrorBuffer, ErrorDevice, Early}
use Rattle.trace_text.specs.Spelling.{buffer_text, reply_words, entry_words}
use Rattle.trace_reader.specs.declared.cause.Cause.TheVariants.{BadLine}
use Rattle.trace_reader.specs.Values.{◌>>=◌, both, byte, small, buffer, device_fence, request, fence, item, sent, made, mark, digest}
use Rattle.text_parts.specs.CommandWords.{command_word}
use Rattle.text_parts.specs.Words.{one_of, two_of}
use Rattle.trace_reader.specs.Lines.{nothing, shape, one, two, up_to_four, refusal, submission, acceptance, reply_of, call_with, call_of, send_of, no_fence, returned_buffer, filled_behind, failed_behind, buffer_of, early_behind, early_of, one_frame, error_buffer, error_of}
use Rattle.basic_lemmas.proofs.Tests.{chosen}
use Rattle.trace_reader.proofs.Means.{bind-ok, both-ok, if-ok, text-is, byte-is, small-is, numbered-is, fence-is, item-is, mark-is, digest-is}
use Rattle.text_parts.proofs.Texts.{word-is}
use Rattle.trace_reader.proofs.MeansLines.{shape-ok, one-is, two-is, one-ok, two-ok, finish, words-1, words-2, same-cons, targets-are, streams-are}

-- ---- sends

pub send-is : (ws : List (List ℕ)) (e : Entry) → send_of ws ≡ Ok e → (codes "send" ∷ ws ≡ entry_words e) × (is_printable e ≡ true)
unfolding send_of
send-is (n ∷ i ∷ m ∷ ws) e h =
    let s = bind-ok (both (small n) (both (item i) (both (mark m) (up_to_four (λ k. sent) ws)))) _ e h in
    let a = both-ok (small n) (both (item i) (both (mark m) (up_to_four (λ k. sent) ws))) s.0.0 s.0.1 s.1 in
    let b = both-ok (item i) (both (mark m) (up_to_four (λ k. sent) ws)) s.0.1.0 s.0.1.1 a.1 in
    let c = both-ok (mark m) (up_to_four (λ k. sent) ws) s.0.1.1.0 s.0.1.1.1 b.1 in
    let wn = small-is n s.0.0 a.0 in
    let wi = item-is i s.0.1.0.0 s.0.1.0.1 b.0 in
    let wm = mark-is m s.0.1.1.0 c.0 in
    let wt = targets-are ws s.0.1.1.1 c.1 in
    finish (codes "send" ∷ n ∷ i ∷ m ∷ ws) (Send (record { 0 = s.0.0 }) (record { 0 = s.0.1.0.0 }) s.0.1.0.1 s.0.1.1.0 s.0.1.1.1) e (cc)
    (ap (λ (x : List (List ℕ)). codes "send" ∷ x) (same-cons n _ (i ∷ m ∷ ws) _ wn.0 (same-cons i _ (m ∷ ws) _ wi.0 (same-cons m _ ws _ wm wt.0))))
    (and_from _ _ (and_from _ _ wn.1 (and_from _ _ wi.1 wi.2)) (and_from _ _ wt.1 wt.2))
send-is _ e h = absurd (cc)

-- ---- replies

done : (word : Word) (ws : List (List ℕ)) (d r : Reply) → d ≡ r → ws ≡ reply_words d → reply_fits word d ≡ true → (ws ≡ reply_words r) × (reply_fits word r ≡ true)
done word ws d r s t p = (t ∙ ap reply_words s, sym (ap (reply_fits word) s) ∙ p)

refusal-is : (word : Word) (ws : List (List ℕ)) (r : Reply) → refusal ws ≡ Ok r → (codes "refused" ∷ ws ≡ reply_words r) × (reply_fits word r ≡ true)
refusal-is word (c ∷ []) r h =
    let s = bind-ok (byte c) _ r h in
    let wc = byte-is c s.0 s.1 in
    done word (codes "refused" ∷ c ∷ []) (reply.Refused s.0 None None) r (cc) (words-1 (codes "refused") (c ∷ []) c _ refl wc.0) (and_from _ _ wc.1 refl)
refusal-is word (c ∷ f ∷ []) r h =
    let s = bind-ok (both (byte c) (small f)) _ r h in
    let a = both-ok (byte c) (small f) s.0.0 s.0.1 s.1 in
    let wc = byte-is c s.0.0 a.0 in
    let wf = small-is f s.0.1 a.1 in
    done word (codes "refused" ∷ c ∷ f ∷ []) (reply.Refused s.0.0 (Some s.0.1) None) r (cc) (words-2 (codes "refused") (c ∷ f ∷ []) c f _ _ refl wc.0 wf.0)
    (and_from _ _ wc.1 (and_from _ _ (and_from _ _ wf.1 refl) refl))
refusal-is word (c ∷ f ∷ g ∷ []) r h =
    let s = bind-ok (both (byte c) (both (small f) (small g))) _ r h in
    let a = both-ok (byte c) (both (small f) (small g)) s.0.0 s.0.1 s.1 in
    let b = both-ok (small f) (small g) s.0.1.0 s.0.1.1 a.1 in
    let wc = byte-is c s.0.0 a.0 in
    let wf = small-is f s.0.1.0 b.0 in
    let wg = small-is g s.0.1.1 b.1 in
    done word (codes "refused" ∷ c ∷ f ∷ g ∷ []) (reply.Refused s.0.0 (Some s.0.1.0) (Some s.0.1.1)) r (cc)
    (ap (λ (x : List (List ℕ)). codes "refused" ∷ x) (same-cons c _ (f ∷ g ∷ []) _ wc.0 (words-1 f (g ∷ []) g _ refl wg.0 ∙ ap (λ (x : List ℕ). x ∷ decimal s.0.1.1 ∷ []) wf.0)))
    (and_from _ _ wc.1 (and_from _ _ (and_from _ _ wf.1 wg.1) refl))
refusal-is word _ r h = absurd (cc)

nothing-is : {A : Type 0} (x y : A) (ws : List (List ℕ)) → nothing x ws ≡ Ok y → (ws ≡ []) × (x ≡ y)
nothing-is x y [] h = (refl, cc)
nothing-is x y (w ∷ ws) h = absurd (cc)

submission-is : (ws : List (List ℕ)) (r : Reply) → submission ws ≡ Ok r → (k : ℕ) × (codes "ok" ∷ ws ≡ reply_words (reply.Submitted (record { 0 = k }))) × (is_small k ≡ true) × (reply.Submitted (record { 0 = k }) ≡ r)
submission-is ws r h =
    let s = bind-ok (one request ws) _ r h in
    let p = one-ok request ws s.0 s.1 in
    let w = numbered-is 114 p.0 s.0 p.2 in
    (s.0, words-1 (codes "ok") ws p.0 _ p.1 w.0, w.1, cc)

acceptance-is : (word : Word) (ws : List (List ℕ)) (r : Reply) → acceptance word ws ≡ Ok r → (codes "ok" ∷ ws ≡ reply_words r) × (reply_fits word r ≡ true)
acceptance-is Configure ws r h =
    let s = bind-ok (up_to_four made ws) _ r h in
    let k = streams-are ws s.0 s.1 in
    done Configure (codes "ok" ∷ ws) (reply.Configured s.0) r (cc) (ap (λ (x : List (List ℕ)). codes "ok" ∷ x) k.0) (and_from _ _ k.1 k.2)
acceptance-is Once ws r h = let s = submission-is ws r h in done Once (codes "ok" ∷ ws) _ r s.3 s.1 s.2
acceptance-is Burst ws r h = let s = submission-is ws r h in done Burst (codes "ok" ∷ ws) _ r s.3 s.1 s.2
acceptance-is Repeat ws r h = let s = submission-is ws r h in done Repeat (codes "ok" ∷ ws) _ r s.3 s.1 s.2
acceptance-is e ws r h = let s = nothing-is reply.Ok r ws h in done e (codes "ok" ∷ ws) reply.Ok r s.1 (ap (λ (x : List (List ℕ)). codes "ok" ∷ x) s.0) refl

first-text : (w v : List ℕ) (ws us : List (List ℕ)) → bytes_eq w v ≡ true → v ∷ ws ≡ us → w ∷ ws ≡ us
first-text w v ws us h k = ap (λ (x : List ℕ). x ∷ ws) (text-is w v h) ∙ k

reply-is : (word : Word) (ws : List (List ℕ)) (r : Reply) → reply_of word ws ≡ Ok r → (ws ≡ reply_words r) × (reply_fits word r ≡ true)
unfolding reply_of
reply-is word [] r h = absurd (cc)
reply-is word (how ∷ ws) r h = elim (chosen (bytes_eq how (codes "ok")) (acceptance word ws) (cond (bytes_eq how (codes "refused")) (refusal ws) (Err BadLine)) (Ok r) h) [
  | inl p ↦ (let k = acceptance-is word ws r p.1 in (first-text how (codes "ok") ws (reply_words r) p.0 k.0, k.1))
  | inr p ↦
      let q = if-ok (bytes_eq how (codes "refused")) (refusal ws) BadLine r p.1 in
      let k = refusal-is word ws r q.1 in
      (first-text how (codes "refused") ws (reply_words r) q.0 k.0, k.1)
]

call-more : (index w : List ℕ) (o : Option Word) (ws : List (List ℕ)) (e : Entry) → command_word w ≡ o → call_with index o ws ≡ Ok e → (codes "call" ∷ index ∷ w ∷ codes "=" ∷ ws ≡ entry_words e) × (is_printable e ≡ true)
call-more index w None ws e o h = absurd (cc)
call-more index w (Some word) ws e o h =
    let s = bind-ok (both (small index) (reply_of word ws)) _ e h in
    let a = both-ok (small index) (reply_of word ws) s.0.0 s.0.1 s.1 in
    let wi = small-is index s.0.0 a.0 in
    let wr = reply-is word ws s.0.1 a.1 in
    finish (codes "call" ∷ index ∷ w ∷ codes "=" ∷ ws) (Call s.0.0 word s.0.1) e (cc)
    (ap (λ (x : List (List ℕ)). codes "call" ∷ x) (same-cons index _ (w ∷ codes "=" ∷ ws) _ wi.0 (same-cons w _ (codes "=" ∷ ws) _ (word-is w word o) (ap (λ (x : List (List ℕ)). codes "=" ∷ x) wr.0))))
    (and_from _ _ wi.1 wr.1)

pub call-is : (ws : List (List ℕ)) (e : Entry) → call_of ws ≡ Ok e → (codes "call" ∷ ws ≡ entry_words e) × (is_printable e ≡ true)
unfolding call_of
call-is (i ∷ w ∷ sign ∷ ws) e h =
    let p = if-ok (bytes_eq sign (codes "=")) (call_with i (command_word w) ws) BadLine e h in
    let k = call-more i w (command_word w) ws e refl p.1 in
    (ap (λ (x : List ℕ). codes "call" ∷ i ∷ w ∷ x ∷ ws) (text-is sign (codes "=") p.0) ∙ k.0, k.1)
call-is _ e h = absurd (cc)

-- ---- buffers

no_fence-is : (w : List ℕ) (f : Option FenceNo) → no_fence w ≡ Ok f → (w ≡ codes "-") × (None ≡ f)
no_fence-is w f h =
    let p = if-ok (bytes_eq w (codes "-")) (Ok None) BadLine f h in
    (text-is w (codes "-") p.0, cc)

abbrev place_words : ℕ → ℕ → ℕ → List (List ℕ) → List (List ℕ)
place_words n s b ws = decimal n ∷ decimal s ∷ buffer_text b ∷ ws

place-is : (n s b : List ℕ) (x y z : ℕ) (ws : List (List ℕ)) → returned_buffer n s b ≡ Ok (x, y, z) → (n ∷ s ∷ b ∷ ws ≡ place_words x y z ws) × ((is_small x && (is_byte y && is_small z)) ≡ true)
place-is n s b x y z ws h =
    let k = bind-ok (both (small n) (both (byte s) (buffer b))) _ (x, y, z) h in
    let p = both-ok (small n) (both (byte s) (buffer b)) k.0.0 k.0.1 k.1 in
    let q = both-ok (byte s) (buffer b) k.0.1.0 k.0.1.1 p.1 in
    let wn = small-is n k.0.0 p.0 in
    let ws' = byte-is s k.0.1.0 q.0 in
    let wb = numbered-is 98 b k.0.1.1 q.1 in
    let e : (k.0.0, k.0.1.0, k.0.1.1) ≡ (x, y, z) = cc in
    let text : n ∷ s ∷ b ∷ ws ≡ place_words k.0.0 k.0.1.0 k.0.1.1 ws = same-cons n _ (s ∷ b ∷ ws) _ wn.0 (same-cons s _ (b ∷ ws) _ ws'.0 (same-cons b _ ws _ wb.0 refl)) in
    let fits : (is_small k.0.0 && (is_byte k.0.1.0 && is_small k.0.1.1)) ≡ true = and_from _ _ wn.1 (and_from _ _ ws'.1 wb.1) in
    (text ∙ ap (λ (t : ℕ × ℕ × ℕ). place_words t.0 t.1 t.2 ws) e, sym (ap (λ (t : ℕ × ℕ × ℕ). is_small t.0 && (is_byte t.1 && is_small t.2)) e) ∙ fits)

filled-is : (n s b : List ℕ) (ws : List (List ℕ)) (e : Entry) → filled_behind (returned_buffer n s b) ws ≡ Ok e → (codes "buffer" ∷ n ∷ s ∷ b ∷ codes "ok" ∷ ws ≡ entry_words e) × (is_printable e ≡ true)
filled-is n s b ws e h =
    let k = bind-ok (shape (two_of ws)) _ e h in
    let m = bind-ok (both (returned_buffer n s b) (both (no_fence k.0.0) (digest k.0.1))) _ e k.2 in
    let p = both-ok (returned_buffer n s b) (both (no_fence k.0.0) (digest k.0.1)) m.0.0 m.0.1 m.1 in
    let q = both-ok (no_fence k.0.0) (digest k.0.1) m.0.1.0 m.0.1.1 p.1 in
    let place = place-is n s b m.0.0.0 m.0.0.1 m.0.0.2 (codes "ok" ∷ ws) p.0 in
    let none = no_fence-is k.0.0 m.0.1.0 q.0 in
    let hex = digest-is k.0.1 m.0.1.1 q.1 in
    let two = two-is ws k.0 (shape-ok (two_of ws) k.0 k.1) in
    let d : Entry = Filled (record { 0 = m.0.0.0 }) (record { 0 = m.0.0.1 }) (record { 0 = m.0.0.2 }) None m.0.1.1 in
    let same : Filled (record { 0 = m.0.0.0 }) (record { 0 = m.0.0.1 }) (record { 0 = m.0.0.2 }) None m.0.1.1 ≡ e = ap (λ (f : Option FenceNo). Filled (record { 0 = m.0.0.0 }) (record { 0 = m.0.0.1 }) (record { 0 = m.0.0.2 }) f m.0.1.1) none.1 ∙ (cc) in
    finish (codes "buffer" ∷ n ∷ s ∷ b ∷ codes "ok" ∷ ws) (Filled (record { 0 = m.0.0.0 }) (record { 0 = m.0.0.1 }) (record { 0 = m.0.0.2 }) None m.0.1.1) e same
    (ap (λ (x : List (List ℕ)). codes "buffer" ∷ x) (place.0 ∙ ap (place_words m.0.0.0 m.0.0.1 m.0.0.2) (words-2 (codes "ok") ws k.0.0 k.0.1 _ _ two none.0 hex.0)))
    (and_from _ _ place.1 (and_from _ _ refl hex.1))

failed-is : (n s b : List ℕ) (ws : List (List ℕ)) (e : Entry) → failed_behind (returned_buffer n s b) ws ≡ Ok e → (codes "buffer" ∷ n ∷ s ∷ b ∷ codes "error" ∷ ws ≡ entry_words e) × (is_printable e ≡ true)
failed-is n s b ws e h =
    let k = bind-ok (shape (one_of ws)) _ e h in
    let m = bind-ok (both (returned_buffer n s b) (fence k.0)) _ e k.2 in
    let p = both-ok (returned_buffer n s b) (fence k.0) m.0.0 m.0.1 m.1 in
    let place = place-is n s b m.0.0.0 m.0.0.1 m.0.0.2 (codes "error" ∷ ws) p.0 in
    let f = fence-is k.0 m.0.1 p.1 in
    let one = one-is ws k.0 (shape-ok (one_of ws) k.0 k.1) in
    finish (codes "buffer" ∷ n ∷ s ∷ b ∷ codes "error" ∷ ws) (Failed (record { 0 = m.0.0.0 }) (record { 0 = m.0.0.1 }) (record { 0 = m.0.0.2 }) m.0.1) e (cc)
    (ap (λ (x : List (List ℕ)). codes "buffer" ∷ x) (place.0 ∙ ap (place_words m.0.0.0 m.0.0.1 m.0.0.2) (words-1 (codes "error") ws k.0 _ one f.0)))
    (and_from _ _ place.1 f.1)

pub buffer-is : (ws : List (List ℕ)) (e : Entry) → buffer_of ws ≡ Ok e → (codes "buffer" ∷ ws ≡ entry_words e) × (is_printable e ≡ true)
unfolding buffer_of
buffer-is (n ∷ s ∷ b ∷ how ∷ ws) e h = elim (chosen (bytes_eq how (codes "ok")) (filled_behind (returned_buffer n s b) ws) (cond (bytes_eq how (codes "error")) (failed_behind (returned_buffer n s b) ws) (Err BadLine)) (Ok e) h) [
  | inl p ↦ (let k = filled-is n s b ws e p.1 in (ap (λ (x : List ℕ). codes "buffer" ∷ n ∷ s ∷ b ∷ x ∷ ws) (text-is how (codes "ok") p.0) ∙ k.0, k.1))
  | inr p ↦
      let q = if-ok (bytes_eq how (codes "error")) (failed_behind (returned_buffer n s b) ws) BadLine e p.1 in
      let k = failed-is n s b ws e q.1 in
      (ap (λ (x : List ℕ). codes "buffer" ∷ n ∷ s ∷ b ∷ x ∷ ws) (text-is how (codes "error") q.0) ∙ k.0, k.1)
]
buffer-is _ e h = absurd (cc)

early-behind : (n s b : List ℕ) (ws : List (List ℕ)) (e : Entry) → early_behind (returned_buffer n s b) ws ≡ Ok e → (codes "early" ∷ n ∷ s ∷ b ∷ ws ≡ entry_words e) × (is_printable e ≡ true)
early-behind n s b ws e h =
    let k = bind-ok (shape (one_of ws)) _ e h in
    let m = bind-ok (both (returned_buffer n s b) (device_fence k.0)) _ e k.2 in
    let p = both-ok (returned_buffer n s b) (device_fence k.0) m.0.0 m.0.1 m.1 in
    let place = place-is n s b m.0.0.0 m.0.0.1 m.0.0.2 ws p.0 in
    let f = numbered-is 100 k.0 m.0.1 p.1 in
    let one = one-is ws k.0 (shape-ok (one_of ws) k.0 k.1) in
    finish (codes "early" ∷ n ∷ s ∷ b ∷ ws) (Early (record { 0 = m.0.0.0 }) (record { 0 = m.0.0.1 }) (record { 0 = m.0.0.2 }) (record { 0 = m.0.1 })) e (cc)
    (ap (λ (x : List (List ℕ)). codes "early" ∷ x) (place.0 ∙ ap (place_words m.0.0.0 m.0.0.1 m.0.0.2) (one ∙ ap (λ (x : List ℕ). x ∷ []) f.0)))
    (and_from _ _ place.1 f.1)

pub early-is : (ws : List (List ℕ)) (e : Entry) → early_of ws ≡ Ok e → (codes "early" ∷ ws ≡ entry_words e) × (is_printable e ≡ true)
unfolding early_of
early-is (n ∷ s ∷ b ∷ ws) e h = early-behind n s b ws e h
early-is _ e h = absurd (cc)

-- ---- errors

frame-is : (ws : List (List ℕ)) (n : FrameNo) → one_frame ws ≡ Ok n → (ws ≡ decimal n.0 ∷ []) × (is_small n.0 ≡ true)
frame-is ws n h =
    let s = bind-ok (one small ws) _ n h in
    let p = one-ok small ws s.0 s.1 in
    let w = small-is p.0 s.0 p.2 in
    let e : record { 0 = s.0 } ≡ n = cc in
    let k : s.0 ≡ n.0 = ap (λ (x : FrameNo). x.0) e in
    (p.1 ∙ ap (λ (x : List ℕ). x ∷ []) (w.0 ∙ ap decimal k), sym (ap is_small k) ∙ w.1)

error_buffer-is : (ws : List (List ℕ)) (e : Entry) → error_buffer ws ≡ Ok e → (codes "error" ∷ codes "buffer" ∷ ws ≡ entry_words e) × (is_printable e ≡ true)
error_buffer-is ws e h =
    let s = bind-ok (two small byte ws) _ e h in
    let p = two-ok small byte ws s.0.0 s.0.1 s.1 in
    let n = small-is p.0.0 s.0.0 p.2 in
    let b = byte-is p.0.1 s.0.1 p.3 in
    finish (codes "error" ∷ codes "buffer" ∷ ws) (ErrorBuffer (record { 0 = s.0.0 }) (record { 0 = s.0.1 })) e (cc)
    (ap (λ (x : List (List ℕ)). codes "error" ∷ x) (words-2 (codes "buffer") ws p.0.0 p.0.1 _ _ p.1 n.0 b.0)) (and_from _ _ n.1 b.1)

error-kind : (kind v : List ℕ) (ws : List (List ℕ)) (e : Entry) → bytes_eq kind v ≡ true → (codes "error" ∷ v ∷ ws ≡ entry_words e) × (is_printable e ≡ true) → (codes "error" ∷ kind ∷ ws ≡ entry_words e) × (is_printable e ≡ true)
error-kind kind v ws e h k = (ap (λ (x : List ℕ). codes "error" ∷ x ∷ ws) (text-is kind v h) ∙ k.0, k.1)

request-error : (ws : List (List ℕ)) (e : Entry) → (one_frame ws >>= λ n. Ok (ErrorRequest n)) ≡ Ok e → (codes "error" ∷ codes "request" ∷ ws ≡ entry_words e) × (is_printable e ≡ true)
request-error ws e h =
    let s = bind-ok (one_frame ws) _ e h in
    let f = frame-is ws s.0 s.1 in
    finish (codes "error" ∷ codes "request" ∷ ws) (ErrorRequest s.0) e (cc) (ap (λ (x : List (List ℕ)). codes "error" ∷ codes "request" ∷ x) f.0) f.1

result-error : (ws : List (List ℕ)) (e : Entry) → (one_frame ws >>= λ n. Ok (ErrorResult n)) ≡ Ok e → (codes "error" ∷ codes "result" ∷ ws ≡ entry_words e) × (is_printable e ≡ true)
result-error ws e h =
    let s = bind-ok (one_frame ws) _ e h in
    let f = frame-is ws s.0 s.1 in
    finish (codes "error" ∷ codes "result" ∷ ws) (ErrorResult s.0) e (cc) (ap (λ (x : List (List ℕ)). codes "error" ∷ codes "result" ∷ x) f.0) f.1

device-error : (ws : List (List ℕ)) (e : Entry) → nothing ErrorDevice ws ≡ Ok e → (codes "error" ∷ codes "device" ∷ ws ≡ entry_words e) × (is_printable e ≡ true)
device-error ws e h =
    let s = nothing-is ErrorDevice e ws h in
    finish (codes "error" ∷ codes "device" ∷ ws) ErrorDevice e s.1 (ap (λ (x : List (List ℕ)). codes "error" ∷ codes "device" ∷ x) s.0) refl

pub error-is : (ws : List (List ℕ)) (e : Entry) → error_of ws ≡ Ok e → (codes "error" ∷ ws ≡ entry_words e) × (is_printable e ≡ true)
unfolding error_of
error-is [] e h = absurd (cc)
error-is (kind ∷ ws) e h = elim (chosen (bytes_eq kind (codes "request")) _ _ (Ok e) h) [
  | inl p ↦ error-kind kind (codes "request") ws e p.0 (request-error ws e p.1)
  | inr p ↦ elim (chosen (bytes_eq kind (codes "result")) _ _ (Ok e) p.1) [
    | inl q ↦ error-kind kind (codes "result") ws e q.0 (result-error ws e q.1)
    | inr q ↦ elim (chosen (bytes_eq kind (codes "buffer")) _ _ (Ok e) q.1) [
      | inl r ↦ error-kind kind (codes "buffer") ws e r.0 (error_buffer-is ws e r.1)
      | inr r ↦
          let d = if-ok (bytes_eq kind (codes "device")) (nothing ErrorDevice ws) BadLine e r.1 in
          error-kind kind (codes "device") ws e d.0 (device-error ws e d.1)
    ]
  ]
]
