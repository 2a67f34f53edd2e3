-- A line that is read is the line of its entry.
use Rattle.std.proofs.Common.{◌≡◌, ℕ, suc, ◌+◌, ◌≤◌, true, false, ◌&&◌, ltb, List, [], ◌∷◌, length, map, Option, None, Some, Result, Ok, refl, sym, ap, ◌∙◌, inl, inr, arith}
use Rattle.std.specs.Prelude.{codes}
use Rattle.std.specs.List.{list_all}
use Rattle.std.proofs.lemmas.Bool.{cases_lt, and_from, le-ltb, lt-ltb}
use Rattle.cam_types.specs.Four.{four_list, four_of}
use Rattle.cam_types.specs.declared.four.Four.{Four}
use Rattle.cam_types.specs.declared.reply.Made.{Made}
use Rattle.cam_types.specs.declared.script.Word.{Word}
use Rattle.trace_model.specs.Printable.{is_filled, sent_fits, made_fits, is_waiting_word, is_printable}
use Rattle.trace_model.specs.declared.entry.Entry.{Entry}
use Rattle.trace_model.specs.declared.entry.Entry.TheVariants.{Begin, Dropped, Shutter, Release, Signal, Late}
use Rattle.trace_model.specs.declared.entry.Sent.{Sent}
use Rattle.trace_text.specs.Spelling.{sent_text, made_text, made_words, entry_words}
use Rattle.trace_reader.specs.declared.cause.Cause.{Cause}
use Rattle.trace_reader.specs.declared.cause.Cause.TheVariants.{BadLine}
use Rattle.trace_reader.specs.Values.{both, small, large, buffer, fence_number, device_fence, digest, item, sent, made}
use Rattle.text_parts.specs.CommandWords.{command_word}
use Rattle.text_parts.specs.Words.{one_of, two_of}
use Rattle.trace_reader.specs.Lines.{shape, one, two, each, up_to_four, waiting_word, begin_of, drop_of, shutter_of, release_of, signal_of, late_of}
use Rattle.trace_reader.proofs.Means.{bind-ok, both-ok, if-ok, small-is, large-is, numbered-is, digest-is, item-is, sent-is, made-is}
use Rattle.text_parts.proofs.Texts.{word-is}

-- ---- so many words

pub shape-ok : {A : Type 0} (o : Option A) (x : A) → shape o ≡ Ok x → o ≡ Some x
shape-ok None x h = absurd (cc)
shape-ok (Some y) x h = let e : y ≡ x = cc in ap Some e

pub one-is : (ws : List (List ℕ)) (w : List ℕ) → one_of ws ≡ Some w → ws ≡ w ∷ []
one-is [] w h = absurd (cc)
one-is (v ∷ []) w h = let e : v ≡ w = cc in rw e refl
one-is (v ∷ u ∷ ws) w h = absurd (cc)

pub two-is : (ws : List (List ℕ)) (p : List ℕ × List ℕ) → two_of ws ≡ Some p → ws ≡ p.0 ∷ p.1 ∷ []
two-is [] p h = absurd (cc)
two-is (v ∷ []) p h = absurd (cc)
two-is (v ∷ u ∷ []) p h = let e : (v, u) ≡ p = cc in ap (λ (q : List ℕ × List ℕ). q.0 ∷ q.1 ∷ []) e
two-is (v ∷ u ∷ t ∷ ws) p h = absurd (cc)

pub one-ok : {A : Type 0} (read : List ℕ → Result A Cause) (ws : List (List ℕ)) (x : A) → one read ws ≡ Ok x → (w : List ℕ) × (ws ≡ w ∷ []) × (read w ≡ Ok x)
one-ok read ws x h = let s = bind-ok (shape (one_of ws)) read x h in (s.0, one-is ws s.0 (shape-ok (one_of ws) s.0 s.1), s.2)

pub two-ok : {A B : Type 0} (f : List ℕ → Result A Cause) (g : List ℕ → Result B Cause) (ws : List (List ℕ)) (x : A) (y : B) → two f g ws ≡ Ok (x, y)
    → (p : List ℕ × List ℕ) × (ws ≡ p.0 ∷ p.1 ∷ []) × (f p.0 ≡ Ok x) × (g p.1 ≡ Ok y)
two-ok f g ws x y h =
    let s = bind-ok (shape (two_of ws)) (λ w. both (f w.0) (g w.1)) (x, y) h in
    let b = both-ok (f s.0.0) (g s.0.1) x y s.2 in
    (s.0, two-is ws s.0 (shape-ok (two_of ws) s.0 s.1), b.0, b.1)

-- the entry is the one that stands for the words
pub finish : (ws : List (List ℕ)) (d e : Entry) → d ≡ e → ws ≡ entry_words d → is_printable d ≡ true → (ws ≡ entry_words e) × (is_printable e ≡ true)
finish ws d e s t p = (t ∙ ap entry_words s, sym (ap is_printable s) ∙ p)

pub words-2 : (k : List ℕ) (ws : List (List ℕ)) (a b x y : List ℕ) → ws ≡ a ∷ b ∷ [] → a ≡ x → b ≡ y → k ∷ ws ≡ k ∷ x ∷ y ∷ []
words-2 k ws a b x y h i j = rw (h, i, j) refl

pub words-1 : (k : List ℕ) (ws : List (List ℕ)) (a x : List ℕ) → ws ≡ a ∷ [] → a ≡ x → k ∷ ws ≡ k ∷ x ∷ []
words-1 k ws a x h i = rw (h, i) refl

pub same-cons : (w x : List ℕ) (ws xs : List (List ℕ)) → w ≡ x → ws ≡ xs → w ∷ ws ≡ x ∷ xs
same-cons w x ws xs h k = rw (h, k) refl

-- ---- lines of two words and of one

pub drop-is : (ws : List (List ℕ)) (e : Entry) → drop_of ws ≡ Ok e → (codes "drop" ∷ ws ≡ entry_words e) × (is_printable e ≡ true)
drop-is ws e h =
    let s = bind-ok (two small item ws) _ e h in
    let p = two-ok small item ws s.0.0 s.0.1 s.1 in
    let n = small-is p.0.0 s.0.0 p.2 in
    let i = item-is p.0.1 s.0.1.0 s.0.1.1 p.3 in
    finish (codes "drop" ∷ ws) (Dropped (record { 0 = s.0.0 }) (record { 0 = s.0.1.0 }) s.0.1.1) e (cc) (words-2 (codes "drop") ws p.0.0 p.0.1 _ _ p.1 n.0 i.0) (and_from _ _ n.1 (and_from _ _ i.1 i.2))

pub shutter-is : (ws : List (List ℕ)) (e : Entry) → shutter_of ws ≡ Ok e → (codes "shutter" ∷ ws ≡ entry_words e) × (is_printable e ≡ true)
shutter-is ws e h =
    let s = bind-ok (two small large ws) _ e h in
    let p = two-ok small large ws s.0.0 s.0.1 s.1 in
    let n = small-is p.0.0 s.0.0 p.2 in
    let t = large-is p.0.1 s.0.1 p.3 in
    finish (codes "shutter" ∷ ws) (Shutter (record { 0 = s.0.0 }) s.0.1) e (cc) (words-2 (codes "shutter") ws p.0.0 p.0.1 _ _ p.1 n.0 t.0) (and_from _ _ n.1 t.1)

pub release-is : (ws : List (List ℕ)) (e : Entry) → release_of ws ≡ Ok e → (codes "release" ∷ ws ≡ entry_words e) × (is_printable e ≡ true)
release-is ws e h =
    let s = bind-ok (two buffer fence_number ws) _ e h in
    let p = two-ok buffer fence_number ws s.0.0 s.0.1 s.1 in
    let b = numbered-is 98 p.0.0 s.0.0 p.2 in
    let f = numbered-is 102 p.0.1 s.0.1 p.3 in
    finish (codes "release" ∷ ws) (Release (record { 0 = s.0.0 }) (record { 0 = s.0.1 })) e (cc) (words-2 (codes "release") ws p.0.0 p.0.1 _ _ p.1 b.0 f.0) (and_from _ _ b.1 f.1)

pub signal-is : (ws : List (List ℕ)) (e : Entry) → signal_of ws ≡ Ok e → (codes "signal" ∷ ws ≡ entry_words e) × (is_printable e ≡ true)
signal-is ws e h =
    let s = bind-ok (one fence_number ws) _ e h in
    let p = one-ok fence_number ws s.0 s.1 in
    let f = numbered-is 102 p.0 s.0 p.2 in
    finish (codes "signal" ∷ ws) (Signal (record { 0 = s.0 })) e (cc) (words-1 (codes "signal") ws p.0 _ p.1 f.0) f.1

pub late-is : (ws : List (List ℕ)) (e : Entry) → late_of ws ≡ Ok e → (codes "filled" ∷ ws ≡ entry_words e) × (is_printable e ≡ true)
late-is ws e h =
    let s = bind-ok (two device_fence digest ws) _ e h in
    let p = two-ok device_fence digest ws s.0.0 s.0.1 s.1 in
    let f = numbered-is 100 p.0.0 s.0.0 p.2 in
    let d = digest-is p.0.1 s.0.1 p.3 in
    finish (codes "filled" ∷ ws) (Late (record { 0 = s.0.0 }) s.0.1) e (cc) (words-2 (codes "filled") ws p.0.0 p.0.1 _ _ p.1 f.0 d.0) (and_from _ _ f.1 d.1)

waiting-is : (o : Option Word) (word : Word) → waiting_word o ≡ Ok word → (o ≡ Some word) × (is_waiting_word word ≡ true)
waiting-is None word h = absurd (cc)
waiting-is (Some w) word h =
    let p = if-ok (is_waiting_word w) (Ok w) BadLine word h in
    let e : w ≡ word = cc in
    (ap Some e, sym (ap is_waiting_word e) ∙ p.0)

pub begin-is : (ws : List (List ℕ)) (e : Entry) → begin_of ws ≡ Ok e → (codes "begin" ∷ ws ≡ entry_words e) × (is_printable e ≡ true)
begin-is ws e h =
    let s = bind-ok (one (λ w. waiting_word (command_word w)) ws) _ e h in
    let p = one-ok (λ w. waiting_word (command_word w)) ws s.0 s.1 in
    let w = waiting-is (command_word p.0) s.0 p.2 in
    finish (codes "begin" ∷ ws) (Begin s.0) e (cc) (words-1 (codes "begin") ws p.0 _ p.1 (word-is p.0 s.0 w.0)) w.1

-- ---- up to four words

pub sents-are : (s : ℕ) (ws : List (List ℕ)) (ts : List Sent) → each (λ k. sent) s ws ≡ Ok ts → (ws ≡ map sent_text ts) × (list_all sent_fits ts ≡ true)
sents-are s [] ts h = let e : [] ≡ ts = cc in rw (← e) (refl, refl)
sents-are s (w ∷ ws) ts h =
    let b = bind-ok (both (sent w) (each (λ k. sent) (s + 1) ws)) _ ts h in
    let p = both-ok (sent w) (each (λ k. sent) (s + 1) ws) b.0.0 b.0.1 b.1 in
    let t = sent-is w b.0.0 p.0 in
    let ih = sents-are (s + 1) ws b.0.1 p.1 in
    let e : b.0.0 ∷ b.0.1 ≡ ts = cc in
    let text : w ∷ ws ≡ sent_text b.0.0 ∷ map sent_text b.0.1 = same-cons w (sent_text b.0.0) ws (map sent_text b.0.1) t.0 ih.0 in
    let fits : (sent_fits b.0.0 && list_all sent_fits b.0.1) ≡ true = and_from _ _ t.1 ih.1 in
    (text ∙ ap (map sent_text) e, sym (ap (list_all sent_fits) e) ∙ fits)

pub mades-are : (s : ℕ) (ws : List (List ℕ)) (ms : List Made) → each made s ws ≡ Ok ms → (ws ≡ made_words s ms) × (list_all made_fits ms ≡ true)
mades-are s [] ms h = let e : [] ≡ ms = cc in rw (← e) (refl, refl)
mades-are s (w ∷ ws) ms h =
    let b = bind-ok (both (made s w) (each made (s + 1) ws)) _ ms h in
    let p = both-ok (made s w) (each made (s + 1) ws) b.0.0 b.0.1 b.1 in
    let t = made-is s w b.0.0 p.0 in
    let ih = mades-are (s + 1) ws b.0.1 p.1 in
    let e : b.0.0 ∷ b.0.1 ≡ ms = cc in
    let text : w ∷ ws ≡ made_words s (b.0.0 ∷ b.0.1) = same-cons w (made_text s b.0.0) ws (made_words (s + 1) b.0.1) t.0 ih.0 in
    let fits : (made_fits b.0.0 && list_all made_fits b.0.1) ≡ true = and_from _ _ t.1 ih.1 in
    (text ∙ ap (made_words s) e, sym (ap (list_all made_fits) e) ∙ fits)

each-length : {A : Type 0} (read : ℕ → List ℕ → Result A Cause) (s : ℕ) (ws : List (List ℕ)) (xs : List A) → each read s ws ≡ Ok xs → length xs ≡ length ws
each-length read s [] xs h = let e : [] ≡ xs = cc in ap length (sym e)
each-length read s (w ∷ ws) xs h =
    let b = bind-ok (both (read s w) (each read (s + 1) ws)) _ xs h in
    let p = both-ok (read s w) (each read (s + 1) ws) b.0.0 b.0.1 b.1 in
    let ih = each-length read (s + 1) ws b.0.1 p.1 in
    let e : b.0.0 ∷ b.0.1 ≡ xs = cc in
    ap length (sym e) ∙ ap suc ih

four-back : {A : Type 0} (xs : List A) → length xs ≤ 4 → (four_list (four_of xs) ≡ xs) × (is_filled (four_of xs) ≡ true)
four-back [] l = (refl, refl)
four-back (a ∷ []) l = (refl, refl)
four-back (a ∷ b ∷ []) l = (refl, refl)
four-back (a ∷ b ∷ c ∷ []) l = (refl, refl)
four-back (a ∷ b ∷ c ∷ d ∷ []) l = (refl, refl)
four-back (a ∷ b ∷ c ∷ d ∷ e ∷ xs) l = absurd (omega arith)

four-ok : {A : Type 0} (read : ℕ → List ℕ → Result A Cause) (ws : List (List ℕ)) (f : Four A) → up_to_four read ws ≡ Ok f → (each read 0 ws ≡ Ok (four_list f)) × (is_filled f ≡ true)
four-ok read ws f h = elim (cases_lt 4 (length ws)) [
  | inl more ↦ absurd (let k = rw (lt-ltb 4 (length ws) more) at h in cc)
  | inr few ↦
      let short : ltb 4 (length ws) ≡ false = le-ltb 4 (length ws) (omega arith) in
      let k = rw short at h in
      let b = bind-ok (each read 0 ws) (λ xs. Ok (four_of xs)) f k in
      let n = each-length read 0 ws b.0 b.1 in
      let back = four-back b.0 (omega arith) in
      let e : four_of b.0 ≡ f = cc in
      (b.1 ∙ ap Ok (sym back.0 ∙ ap four_list e), sym (ap is_filled e) ∙ back.1)
]

pub targets-are : (ws : List (List ℕ)) (f : Four Sent) → up_to_four (λ k. sent) ws ≡ Ok f → (ws ≡ map sent_text (four_list f)) × (is_filled f ≡ true) × (list_all sent_fits (four_list f) ≡ true)
targets-are ws f h = let k = four-ok (λ i. sent) ws f h in let s = sents-are 0 ws (four_list f) k.0 in (s.0, k.1, s.1)

pub streams-are : (ws : List (List ℕ)) (f : Four Made) → up_to_four made ws ≡ Ok f → (ws ≡ made_words 0 (four_list f)) × (is_filled f ≡ true) × (list_all made_fits (four_list f) ≡ true)
streams-are ws f h = let k = four-ok made ws f h in let s = mades-are 0 ws (four_list f) k.0 in (s.0, k.1, s.1)
