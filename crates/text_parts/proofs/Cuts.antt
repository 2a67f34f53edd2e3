-- Cutting a text at a byte, into lines and into words.
use Rattle.std.proofs.Common.{◌≡◌, ℕ, zero, suc, ◌<◌, ◌≤◌, Bool, true, false, cond, eqb, List, [], ◌∷◌, length, get_or, take, drop, None, Some, refl, arith}
use Rattle.std.proofs.lemmas.Bool.{ne_eqb, eq-eqb}
use Rattle.std.specs.List.{onto_first}
use Rattle.std.specs.Option.{option_and_then}
use Rattle.std.specs.Str.Lines.{strip_carriage_return}
use Rattle.text_parts.specs.Cuts.{parts_at, cut_at, two_parts, in_two, four_parts}
use Rattle.text_parts.specs.Lines.{lines_of}
use Rattle.text_parts.specs.Words.{strict_words, strict_words_behind}

pub cut_nowhere : (byte : ℕ) (xs : List ℕ) → ((k : ℕ) → k < length xs → get_or xs k 0 ≡ byte → ⊥) → parts_at byte xs ≡ xs ∷ []
cut_nowhere byte [] h = refl
cut_nowhere byte (x ∷ xs) h = rw (ne_eqb x byte (h 0 (omega arith)), cut_nowhere byte xs (λ k l. h (suc k) (omega arith))) refl

pub cut_here : (byte : ℕ) (xs : List ℕ) (i : ℕ) → i < length xs → get_or xs i 0 ≡ byte → ((k : ℕ) → k < i → get_or xs k 0 ≡ byte → ⊥) → parts_at byte xs ≡ take i xs ∷ parts_at byte (drop (suc i) xs)
cut_here byte [] i l e h = absurd (omega arith)
cut_here byte (x ∷ xs) zero l e h = rw (eq-eqb x byte e) refl
cut_here byte (x ∷ xs) (suc i) l e h = rw (ne_eqb x byte (h 0 (omega arith)), cut_here byte xs i (omega arith) e (λ k m. h (suc k) (omega arith))) refl

-- the same of one cut
pub one_cut_nowhere : (byte : ℕ) (xs : List ℕ) → ((k : ℕ) → k < length xs → get_or xs k 0 ≡ byte → ⊥) → cut_at byte xs ≡ None
one_cut_nowhere byte [] h = refl
one_cut_nowhere byte (x ∷ xs) h = rw (ne_eqb x byte (h 0 (omega arith)), one_cut_nowhere byte xs (λ k l. h (suc k) (omega arith))) refl

pub one_cut_here : (byte : ℕ) (xs : List ℕ) (i : ℕ) → i < length xs → get_or xs i 0 ≡ byte → ((k : ℕ) → k < i → get_or xs k 0 ≡ byte → ⊥) → cut_at byte xs ≡ Some (take i xs, drop (suc i) xs)
one_cut_here byte [] i l e h = absurd (omega arith)
one_cut_here byte (x ∷ xs) zero l e h = rw (eq-eqb x byte e) refl
one_cut_here byte (x ∷ xs) (suc i) l e h = rw (ne_eqb x byte (h 0 (omega arith)), one_cut_here byte xs i (omega arith) e (λ k m. h (suc k) (omega arith))) refl

-- a text has one part at least
onto_some : (x : ℕ) (ps : List (List ℕ)) → (q : List ℕ) × (qs : List (List ℕ)) × (onto_first x ps ≡ q ∷ qs)
onto_some x [] = (x ∷ [], [], refl)
onto_some x (p ∷ ps) = (x ∷ p, ps, refl)

cond_some : (b : Bool) (x : ℕ) (ps : List (List ℕ)) → (q : List ℕ) × (qs : List (List ℕ)) × (cond b ([] ∷ ps) (onto_first x ps) ≡ q ∷ qs)
cond_some true x ps = ([], ps, refl)
cond_some false x ps = onto_some x ps

pub parts_some : (byte : ℕ) (xs : List ℕ) → (q : List ℕ) × (qs : List (List ℕ)) × (parts_at byte xs ≡ q ∷ qs)
parts_some byte [] = ([], [], refl)
parts_some byte (x ∷ xs) = cond_some (eqb x byte) x (parts_at byte xs)

-- what ends by LF is a line
pub lines-cons : (text line rest : List ℕ) → parts_at 10 text ≡ line ∷ parts_at 10 rest → lines_of text ≡ strip_carriage_return line ∷ lines_of rest
lines-cons text line rest e =
    let s = parts_some 10 rest in
    rw (e, s.2) refl

-- a byte that stands twice doesn't cut a text in two
pub not_in_two : (byte : ℕ) (text front back a b : List ℕ) → parts_at byte text ≡ front ∷ parts_at byte back → parts_at byte back ≡ a ∷ parts_at byte b → in_two byte text ≡ None
not_in_two byte text front back a b e f =
    let s = parts_some byte b in
    rw (e, f, s.2) refl

-- four parts are one, one and two
pub four-parts-two : (a b : List ℕ) (ps : List (List ℕ)) → four_parts (a ∷ b ∷ ps) ≡ option_and_then (λ p. Some (a, b, p.0, p.1)) (two_parts ps)
four-parts-two a b [] = refl
four-parts-two a b (c ∷ []) = refl
four-parts-two a b (c ∷ d ∷ []) = refl
four-parts-two a b (c ∷ d ∷ e ∷ ps) = refl

-- the first strict word, where the first space has place i
pub first-word : (xs : List ℕ) (i : ℕ) → i ≤ length xs → ((k : ℕ) → k < i → get_or xs k 0 ≡ 32 → ⊥) → (i < length xs → get_or xs i 0 ≡ 32) → strict_words xs ≡ take i xs ∷ strict_words_behind (drop i xs)
first-word [] zero l b f = refl
first-word [] (suc i) l b f = absurd (omega arith)
first-word (x ∷ xs) zero l b f = rw (eq-eqb x 32 (f (omega arith))) refl
first-word (x ∷ xs) (suc i) l b f =
    rw (ne_eqb x 32 (b 0 (omega arith)), first-word xs i (omega arith) (λ k m. b (suc k) (omega arith)) (λ m. f (omega arith))) refl
