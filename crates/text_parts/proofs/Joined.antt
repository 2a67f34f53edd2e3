-- What is joined is cut again, and what is cut is joined again.
use Rattle.std.proofs.Common.{◌≡◌, ℕ, ◌-◌, zero, suc, ◌<◌, Bool, true, false, not, eqb, leb, List, [], ◌∷◌, ◌++◌, length, get_or, map, Option, Some, None, refl, ap, ◌∙◌, inl, inr, arith, append_assoc}
use Rattle.std.specs.Prelude.{codes, filter}
use Rattle.std.specs.List.{flat_map, join_by, list_all, onto_first}
use Rattle.std.specs.Option.{option_map}
use Rattle.std.specs.Str.Lines.{strip_carriage_return}
use Rattle.std.proofs.lemmas.Bool.{cases_Bool, and_parts, and_from, eq-eqb, eqb-true, not-true}
use Rattle.std.proofs.lemmas.Bool.Decides.{nat_tests}
use Rattle.std.proofs.lemmas.List.{append-nil}
use Rattle.text_parts.specs.Cuts.{parts_at, cut_at, in_two}
use Rattle.text_parts.specs.Lines.{lines_of, line_text}
use Rattle.text_parts.specs.Words.{loose_words, strict_words, is_plain, is_word}
use Rattle.text_parts.proofs.Cuts.{lines-cons, parts_some}
use Rattle.basic_lemmas.proofs.Lists.{all-append, all-where}

-- ---- what is joined is cut again

-- no byte is c
abbrev pub avoids : ℕ → List ℕ → Bool
avoids c xs = list_all (λ b. not (eqb b c)) xs

pub avoids-append : (c : ℕ) (a b : List ℕ) → avoids c a ≡ true → avoids c b ≡ true → avoids c (a ++ b) ≡ true
avoids-append c a b h k = all-append (λ x. not (eqb x c)) a b h k

pub cut-first : (c : ℕ) (xs ys : List ℕ) → avoids c xs ≡ true → parts_at c (xs ++ c ∷ ys) ≡ xs ∷ parts_at c ys
cut-first c [] ys h = rw (eq-eqb c c refl) refl
cut-first c (x ∷ xs) ys h =
    let p = and_parts (not (eqb x c)) (avoids c xs) h in
    rw (not-true (eqb x c) p.0, cut-first c xs ys p.1) refl

pub cut-none : (c : ℕ) (xs : List ℕ) → avoids c xs ≡ true → parts_at c xs ≡ xs ∷ []
cut-none c [] h = refl
cut-none c (x ∷ xs) h =
    let p = and_parts (not (eqb x c)) (avoids c xs) h in
    rw (not-true (eqb x c) p.0, cut-none c xs p.1) refl

pub in-two-again : (c : ℕ) (a b : List ℕ) → avoids c a ≡ true → avoids c b ≡ true → in_two c (a ++ c ∷ b) ≡ Some (a, b)
in-two-again c a b h k = rw (cut-first c a b h, cut-none c b k) refl

-- the first such byte cuts a text
pub cut-again : (c : ℕ) (xs ys : List ℕ) → avoids c xs ≡ true → cut_at c (xs ++ c ∷ ys) ≡ Some (xs, ys)
cut-again c [] ys h = rw (eq-eqb c c refl) refl
cut-again c (x ∷ xs) ys h =
    let p = and_parts (not (eqb x c)) (avoids c xs) h in
    rw (not-true (eqb x c) p.0, cut-again c xs ys p.1) refl

-- joined pieces are cut at the byte between them
pub join-parts : {X : Type 0} (c : ℕ) (f : X → List ℕ) (x : X) (xs : List X) → list_all (λ y. avoids c (f y)) (x ∷ xs) ≡ true → parts_at c (join_by f (c ∷ []) (x ∷ xs)) ≡ map f (x ∷ xs)
join-parts c f x [] h =
    let p = and_parts (avoids c (f x)) true h in
    ap (parts_at c) (append-nil (f x)) ∙ cut-none c (f x) p.0
join-parts c f x (y ∷ ys) h =
    let p = and_parts (avoids c (f x)) (list_all (λ z. avoids c (f z)) (y ∷ ys)) h in
    cut-first c (f x) (join_by f (c ∷ []) (y ∷ ys)) p.0 ∙ ap (λ ps. f x ∷ ps) (join-parts c f y ys p.1)

-- ---- what is cut is joined again

map-some : {A B : Type 0} (f : A → B) (o : Option A) (y : B) → option_map f o ≡ Some y → (x : A) × (o ≡ Some x) × (f x ≡ y)
map-some f None y h = absurd (cc)
map-some f (Some x) y h = (x, refl, cc)

cut-first-is : (b c : ℕ) (bs : List ℕ) (p : List ℕ × List ℕ) → eqb b c ≡ true → Some ([], bs) ≡ Some p → b ∷ bs ≡ p.0 ++ c ∷ p.1
cut-first-is b c bs p t h = let e : ([], bs) ≡ p = cc in ap (λ (n : ℕ). n ∷ bs) (eqb-true b c t) ∙ ap (λ (x : List ℕ × List ℕ). x.0 ++ c ∷ x.1) e

pub cut-is : (c : ℕ) (text : List ℕ) (p : List ℕ × List ℕ) → cut_at c text ≡ Some p → text ≡ p.0 ++ c ∷ p.1
cut-is c [] p h = absurd (cc)
cut-is c (b ∷ bs) p h = elim (cases_Bool (eqb b c)) [
  | inl t ↦ cut-first-is b c bs p t (rw t at h)
  | inr f ↦
      let q = map-some (λ (q : List ℕ × List ℕ). (b ∷ q.0, q.1)) (cut_at c bs) p (rw f at h) in
      ap (λ (x : List ℕ). b ∷ x) (cut-is c bs q.0 q.1) ∙ ap (λ (x : List ℕ × List ℕ). x.0 ++ c ∷ x.1) q.2
]

join-onto : (c x : ℕ) (ps : List (List ℕ)) → join_by (λ (w : List ℕ). w) (c ∷ []) (onto_first x ps) ≡ x ∷ join_by (λ (w : List ℕ). w) (c ∷ []) ps
join-onto c x [] = refl
join-onto c x (p ∷ ps) = refl

join-first : (c x : ℕ) (xs : List ℕ) → eqb x c ≡ true → join_by (λ (w : List ℕ). w) (c ∷ []) (parts_at c xs) ≡ xs → join_by (λ (w : List ℕ). w) (c ∷ []) ([] ∷ parts_at c xs) ≡ x ∷ xs
join-first c x xs t ih =
    let s = parts_some c xs in
    let ih' = rw s.2 at ih in
    rw s.2 (rw (eqb-true x c t) (ap (λ (ys : List ℕ). c ∷ ys) ih'))

-- the parts of a text with the byte between each two are the text
pub join-cut : (c : ℕ) (xs : List ℕ) → join_by (λ (w : List ℕ). w) (c ∷ []) (parts_at c xs) ≡ xs
join-cut c [] = refl
join-cut c (x ∷ xs) = elim (cases_Bool (eqb x c)) [
  | inl t ↦ rw t (join-first c x xs t (join-cut c xs))
  | inr f ↦ rw f (join-onto c x (parts_at c xs) ∙ ap (λ (ys : List ℕ). x ∷ ys) (join-cut c xs))
]

-- ---- words

plain-no-space : (b : ℕ) → is_plain b ≡ true → not (eqb b 32) ≡ true
plain-no-space b h = grind (arith, nat_tests)

pub plain-append : (a b : List ℕ) → list_all is_plain a ≡ true → list_all is_plain b ≡ true → list_all is_plain (a ++ b) ≡ true
plain-append a b h k = all-append is_plain a b h k

pub word-plain : (w : List ℕ) → is_word w ≡ true → list_all is_plain w ≡ true
word-plain w h = (and_parts (list_all is_plain w) _ h).0

pub word-from : (w : List ℕ) → list_all is_plain w ≡ true → 0 < length w → is_word w ≡ true
word-from w h l = and_from _ _ h (grind (arith, nat_tests))

word-no-space : (w : List ℕ) → is_word w ≡ true → avoids 32 w ≡ true
word-no-space w h = all-where is_plain (λ b. not (eqb b 32)) w plain-no-space (word-plain w h)

words-no-space : (ws : List (List ℕ)) → list_all is_word ws ≡ true → list_all (avoids 32) ws ≡ true
words-no-space ws h = all-where is_word (avoids 32) ws word-no-space h

all-same : (ws : List (List ℕ)) → map (λ w. w) ws ≡ ws
all-same [] = refl
all-same (w ∷ ws) = ap (λ vs. w ∷ vs) (all-same ws)

none-empty : (ws : List (List ℕ)) → list_all is_word ws ≡ true → filter (λ w. not (eqb (length w) 0)) ws ≡ ws
none-empty [] h = refl
none-empty (w ∷ ws) h =
    let p = and_parts (is_word w) (list_all is_word ws) h in
    let q = and_parts (list_all is_plain w) _ p.0 in
    rw (q.1, none-empty ws p.1) refl

-- words with single spaces between them are those words again, as strict and as loose ones
pub strict-words-again : (w : List ℕ) (ws : List (List ℕ)) → list_all is_word (w ∷ ws) ≡ true → strict_words (join_by (λ x. x) (codes " ") (w ∷ ws)) ≡ w ∷ ws
strict-words-again w ws h = join-parts 32 (λ x. x) w ws (words-no-space (w ∷ ws) h) ∙ all-same (w ∷ ws)

pub loose-words-again : (w : List ℕ) (ws : List (List ℕ)) → list_all is_word (w ∷ ws) ≡ true → loose_words (join_by (λ x. x) (codes " ") (w ∷ ws)) ≡ w ∷ ws
loose-words-again w ws h = ap (filter (λ x. not (eqb (length x) 0))) (strict-words-again w ws h) ∙ none-empty (w ∷ ws) h

-- a test that every byte of a word passes, and the space too, is passed by a line of words
more-all : (p : ℕ → Bool) → ((b : ℕ) → is_plain b ≡ true → p b ≡ true) → p 32 ≡ true → (ws : List (List ℕ)) → list_all is_word ws ≡ true → list_all p (flat_map (λ w. 32 ∷ w) ws) ≡ true
more-all p each s [] h = refl
more-all p each s (w ∷ ws) h =
    let q = and_parts (is_word w) (list_all is_word ws) h in
    all-append p (32 ∷ w) (flat_map (λ v. 32 ∷ v) ws) (and_from _ _ s (all-where is_plain p w each (word-plain w q.0))) (more-all p each s ws q.1)

pub line-all : (p : ℕ → Bool) → ((b : ℕ) → is_plain b ≡ true → p b ≡ true) → p 32 ≡ true → (w : List ℕ) (ws : List (List ℕ)) → list_all is_word (w ∷ ws) ≡ true → list_all p (join_by (λ x. x) (codes " ") (w ∷ ws)) ≡ true
line-all p each s w ws h =
    let q = and_parts (is_word w) (list_all is_word ws) h in
    all-append p w (flat_map (λ v. 32 ∷ v) ws) (all-where is_plain p w each (word-plain w q.0)) (more-all p each s ws q.1)

-- ---- lines

no-return : (xs : List ℕ) (k : ℕ) → avoids 13 xs ≡ true → eqb (get_or xs k 0) 13 ≡ false
no-return [] k h = refl
no-return (x ∷ xs) zero h = not-true (eqb x 13) (and_parts (not (eqb x 13)) (avoids 13 xs) h).0
no-return (x ∷ xs) (suc k) h = no-return xs k (and_parts (not (eqb x 13)) (avoids 13 xs) h).1

pub strip-again : (xs : List ℕ) → avoids 13 xs ≡ true → strip_carriage_return xs ≡ xs
strip-again xs h = rw (no-return xs (length xs - 1) h) refl

-- a text without CR and LF, and LF, are a line
pub line-cut : (text rest : List ℕ) → avoids 10 text ≡ true → avoids 13 text ≡ true → lines_of (text ++ 10 ∷ rest) ≡ text ∷ lines_of rest
line-cut text rest h k =
    lines-cons (text ++ 10 ∷ rest) text rest (cut-first 10 text rest h)
    ∙ ap (λ t. t ∷ lines_of rest) (strip-again text k)

no-end : (c : ℕ) → eqb 32 c ≡ false → leb 33 c ≡ false → (b : ℕ) → is_plain b ≡ true → not (eqb b c) ≡ true
no-end c s l b h = grind (arith, nat_tests)

-- the first line of a text that begins with the spelling of a line
pub line-text-cut : (w : List ℕ) (ws : List (List ℕ)) (rest : List ℕ) → list_all is_word (w ∷ ws) ≡ true → lines_of (line_text (w ∷ ws) ++ rest) ≡ join_by (λ x. x) (codes " ") (w ∷ ws) ∷ lines_of rest
line-text-cut w ws rest h =
    ap lines_of (append_assoc (join_by (λ x. x) (codes " ") (w ∷ ws)) (10 ∷ []) rest)
    ∙ line-cut (join_by (λ x. x) (codes " ") (w ∷ ws)) rest (line-all (λ b. not (eqb b 10)) (no-end 10 refl refl) refl w ws h) (line-all (λ b. not (eqb b 13)) (no-end 13 refl refl) refl w ws h)
