-- Each event is what the line with its number says.
use Rattle.std.proofs.Common.{◌≡◌, ℕ, ◌+◌, ◌-◌, Bool, true, false, cond, List, [], ◌∷◌, ◌++◌, length, get_or, Option, None, Some, Result, Ok, Err, refl, sym, ap, ◌∙◌, arith, append_assoc}
use Rattle.std.specs.List.{AllZip, list_all}
use Rattle.std.proofs.lemmas.List.{length-append}
use Rattle.hal_model.specs.declared.event.HalEvent.{HalEvent}
use Rattle.hal_model.specs.Fits.{has_begin}
use Rattle.hal_lines.specs.declared.cause.Cause.{Cause}
use Rattle.hal_lines.specs.declared.cause.Cause.TheVariants.{BadLine, TooLong}
use Rattle.hal_text.specs.declared.refused.LogRefused.{LogRefused}
use Rattle.hal_text.specs.declared.refused.LogRefused.TheVariants.{Bad}
use Rattle.hal_text.specs.declared.log.HalLog.{HalLog}
use Rattle.hal_lines.specs.Lines.{count_of, event_of, event_by_words}
use Rattle.hal_text.specs.Meaning.{added, after, after_line, after_words, at_line, empty_log, log_from, log_of}
use Rattle.hal_text.specs.Told.{IsTold, line_at}
use Rattle.hal_lines.specs.Values.{◌>>=◌}
use Rattle.text_parts.specs.LineReading.{is_comment, is_printable}
use Rattle.text_parts.specs.Lines.{lines_of}
use Rattle.text_parts.specs.Words.{loose_words}

-- ---- what an answer came from

bind-ok : {A B : Type 0} (r : Result A Cause) (f : A → Result B Cause) (y : B) → (r >>= f) ≡ Ok y → (x : A) × (r ≡ Ok x) × (f x ≡ Ok y)
bind-ok (Ok x) f y h = (x, refl, h)
bind-ok (Err c) f y h = absurd (cc)

line-ok : {A B : Type 0} (n : ℕ) (r : Result A Cause) (f : A → Result B LogRefused) (y : B) → at_line n r f ≡ Ok y → (x : A) × (r ≡ Ok x) × (f x ≡ Ok y)
line-ok n (Ok x) f y h = (x, refl, h)
line-ok n (Err c) f y h = absurd (cc)

if-ok : {A E : Type 0} (b : Bool) (x : Result A E) (c : E) (y : A) → cond b x (Err c) ≡ Ok y → x ≡ Ok y
if-ok true x c y h = h
if-ok false x c y h = absurd (cc)

else-ok : {A E : Type 0} (b : Bool) (x : Result A E) (c : E) (y : A) → cond b (Err c) x ≡ Ok y → x ≡ Ok y
else-ok true x c y h = absurd (cc)
else-ok false x c y h = h

-- ---- one more event

zip-more : {A B : Type 0} (R : A → B → Type 0) (xs : List A) (ys : List B) (x : A) (y : B) → AllZip R xs ys → R x y → AllZip R (xs ++ x ∷ []) (ys ++ y ∷ [])
zip-more R [] [] x y h r = (r, tt)
zip-more R [] (b ∷ ys) x y h r = absurd h
zip-more R (a ∷ xs) [] x y h r = absurd h
zip-more R (a ∷ xs) (b ∷ ys) x y h r = (h.0, zip-more R xs ys x y h.1 r)

abbrev MayBeTold : List (List ℕ) → Option HalLog → Type 0
MayBeTold lines None = Unit {0}
MayBeTold lines (Some log) = IsTold lines log

told-same : (lines : List (List ℕ)) (a b : Option HalLog) → a ≡ b → MayBeTold lines a → MayBeTold lines b
told-same lines a b e h = rw (← e) h

ok-same : {A E : Type 0} (x y : A) → ◌≡◌ {A = Result A E} (Ok x) (Ok y) → x ≡ y
ok-same x y h = cc

added-told : (lines : List (List ℕ)) (n : ℕ) (log : HalLog) (event : HalEvent) (next : Option HalLog) → IsTold lines log → event_by_words (loose_words (line_at lines n)) ≡ Ok event → added n log event ≡ Ok next → MayBeTold lines next
added-told lines n log event next h e a =
    let more = if-ok (has_begin log.events event) _ BadLine next a in
    told-same lines _ next (ok-same _ _ more) (zip-more _ log.events log.lines event n h e)

words-told : (lines : List (List ℕ)) (n : ℕ) (before next : Option HalLog) (w : List ℕ) (ws : List (List ℕ)) → MayBeTold lines before → loose_words (line_at lines n) ≡ w ∷ ws → after_words n before w ws ≡ Ok next → MayBeTold lines next
unfolding after_words
words-told lines n None next w ws h e a =
    let c = bind-ok (count_of (w ∷ ws)) _ next a in
    told-same lines (Some (empty_log c.0)) next (ok-same _ _ c.2) tt
words-told lines n (Some log) next w ws h e a =
    let c = bind-ok (event_of w ws) (added n log) next a in
    added-told lines n log c.0 next h (rw e c.1) c.2

comment-told : (b : Bool) (lines : List (List ℕ)) (n : ℕ) (before next : Option HalLog) (w : List ℕ) (ws : List (List ℕ)) → MayBeTold lines before → loose_words (line_at lines n) ≡ w ∷ ws → cond b (Ok before) (after_words n before w ws) ≡ Ok next → MayBeTold lines next
comment-told true lines n before next w ws h e a = told-same lines before next (ok-same _ _ a) h
comment-told false lines n before next w ws h e a = words-told lines n before next w ws h e a

line-told : (lines : List (List ℕ)) (n : ℕ) (before next : Option HalLog) (words : List (List ℕ)) → MayBeTold lines before → loose_words (line_at lines n) ≡ words → after_line n before words ≡ Ok next → MayBeTold lines next
line-told lines n before next [] h e a = told-same lines before next (ok-same _ _ a) h
line-told lines n before next (w ∷ ws) h e a = comment-told (is_comment w) lines n before next w ws h e a

after-told : (lines : List (List ℕ)) (n : ℕ) (before next : Option HalLog) (line : List ℕ) → MayBeTold lines before → line_at lines n ≡ line → after n before line ≡ Ok next → MayBeTold lines next
unfolding after
after-told lines n before next line h e a =
    line-told lines n before next (loose_words line) h (ap loose_words e) (if-ok (list_all is_printable line) _ BadLine next a)

-- ---- the whole text

at-seam : (front : List (List ℕ)) (line : List ℕ) (rest : List (List ℕ)) → get_or (front ++ line ∷ rest) (length front) [] ≡ line
at-seam [] line rest = refl
at-seam (x ∷ front) line rest = at-seam front line rest

lines-told : (lines front rest : List (List ℕ)) (n : ℕ) (before : Option HalLog) (log : HalLog) → lines ≡ front ++ rest → n ≡ length front + 1 → MayBeTold lines before → log_from before n rest ≡ Ok log → IsTold lines log
unfolding log_from
lines-told lines front [] n None log e k h a = absurd (cc)
lines-told lines front [] n (Some own) log e k h a = told-same lines (Some own) (Some log) (ap Some (ok-same own log a)) h
lines-told lines front (line ∷ rest) n before log e k h a =
    let c = line-ok n (after n before line) _ log a in
    let here : line_at lines n ≡ line =
    ap (λ ls. line_at ls n) e ∙ ap (λ i. get_or (front ++ line ∷ rest) i []) {x = n - 1} {y = length front} (omega (arith, k)) ∙ at-seam front line rest in
    lines-told lines (front ++ line ∷ []) rest (n + 1) c.0 log (e ∙ sym (append_assoc front (line ∷ []) rest)) (omega (arith, k, length-append front (line ∷ [])))
    (after-told lines n before c.0 line h here c.1) c.2

pub log-told : (text : List ℕ) (log : HalLog) → log_of text ≡ Ok log → IsTold (lines_of text) log
unfolding log_of
log-told text log h = lines-told (lines_of text) [] (lines_of text) 1 None log refl refl tt (else-ok _ _ (Bad 0 TooLong) log h)
