-- General lemmas that the lower crates lack.
use Rattle.std.proofs.Common.{◌≡◌, Bool, true, false, ◌&&◌, ◌||◌, List, [], ◌∷◌, ◌++◌, Some, None, refl, sym, ap, ◌∙◌, inl, inr, filter, find, is_some, map, reverse, if◌then◌else◌}
use Rattle.std.specs.List.{list_all, list_any}
use Rattle.std.specs.Option.{option_map}
use Rattle.std.proofs.lemmas.Bool.{and_parts, cases_Bool, false≢true}
use Rattle.std.proofs.lemmas.List.{reverse-append}
use Rattle.std.proofs.lemmas.List.Folds.{list_all-append}
use Rattle.basic_lemmas.proofs.Shared.{and-turned}

pub find-where : {X : Type 0} (s p q : X → Bool) (xs : List X) → ((x : X) → s x ≡ true → p x ≡ q x) → list_all s xs ≡ true → find p xs ≡ find q xs
find-where s p q [] same all = refl
find-where s p q (x ∷ xs) same all = let parts = and_parts (s x) (list_all s xs) all in rw (same x parts.0, find-where s p q xs same parts.1) refl

pub find-and : {X : Type 0} (b : Bool) (p : X → Bool) (ts : List X) → find (λ t. b && p t) ts ≡ (if b then find p ts else None)
find-and true p ts = refl
find-and false p [] = refl
find-and false p (t ∷ ts) = find-and false p ts

pub all-reverse : {X : Type 0} (p : X → Bool) (xs : List X) → list_all p (reverse xs) ≡ list_all p xs
all-reverse p [] = refl
all-reverse {X} p (x ∷ xs) =
    ap (λ (ys : List X). list_all p ys) (reverse-append (x ∷ []) xs)
    ∙ (list_all-append p (reverse xs) (x ∷ []) ∙ (ap (λ b. b && (p x && true)) (all-reverse p xs) ∙ and-turned (list_all p xs) (p x)))

pub map-if : {X Y : Type 0} (f : X → Y) (b : Bool) (x : X) → option_map f (if b then Some x else None) ≡ (if b then Some (f x) else None)
map-if f true x = refl
map-if f false x = refl

pub if-same : {X : Type 0} (a b : Bool) (x : X) → a ≡ b → (if a then Some x else None) ≡ (if b then Some x else None)
if-same a b x h = rw h refl

pub kept-append : {X Y : Type 0} (f : X → Y) (p : X → Bool) (xs ys : List X) → map f (filter p (xs ++ ys)) ≡ map f (filter p xs) ++ map f (filter p ys)
kept-append f p [] ys = refl
kept-append f p (x ∷ xs) ys = elim (cases_Bool (p x)) [ inl yes' ↦ rw (yes', kept-append f p xs ys) refl | inr no' ↦ rw (no', kept-append f p xs ys) refl ]

pub filter-all : {X : Type 0} (p : X → Bool) (xs : List X) → list_all p xs ≡ true → filter p xs ≡ xs
filter-all p [] all = refl
filter-all p (x ∷ xs) all = let parts = and_parts (p x) (list_all p xs) all in rw (parts.0, filter-all p xs parts.1) refl

pub some-if : {X : Type 0} (b : Bool) (x : X) → is_some (if b then Some x else None) ≡ b
some-if true x = refl
some-if false x = refl

-- a list in which one passes has a first that does
pub none-found : {X : Type 0} (p : X → Bool) (xs : List X) → list_any p xs ≡ true → find p xs ≡ None → ⊥
none-found p [] has at = false≢true has
none-found p (x ∷ xs) has at = elim (cases_Bool (p x)) [
  | inl here ↦ (let at' = rw here at at in absurd (cc))
  | inr other ↦ (let has' = rw other at has in let at' = rw other at at in none-found p xs has' at')
]

-- of three of which one holds, the third where the others don't
pub third : (a b c : Bool) → (a || (b || c)) ≡ true → a ≡ false → b ≡ false → c ≡ true
third true b c h x y = absurd (false≢true (sym x))
third false true c h x y = absurd (false≢true (sym y))
third false false c h x y = h
