-- The buffers of a row, in four places.
use Rattle.std.proofs.Common.{◌≡◌, ◌∙◌, Bool, true, false, ◌&&◌, ◌||◌, List, [], ◌∷◌, ◌++◌, Option, Some, None, refl, sym, map, arith, ap}
use Rattle.std.specs.Prelude.{option_map, option_to_list}
use Rattle.std.specs.List.{list_all, list_any}
use Rattle.std.proofs.lemmas.Bool.{false≢true}
use Rattle.cam_types.specs.Four.{four_list}
use Rattle.cam_types.specs.declared.four.Four.{Four}
use Rattle.trace_model.specs.declared.entry.Entry.{Entry}
use Rattle.trace_model.specs.declared.entry.Sent.{Sent}
use Rattle.state_facts.specs.Row.{Target, fresh_target}
use Rattle.judge_rows.specs.declared.target.OpenTarget.{OpenTarget}
use Rattle.judge_rows.specs.Views.{as_target, as_targets}

all-append : (p : Target → Bool) (xs ys : List Target) → list_all p (xs ++ ys) ≡ (list_all p xs && list_all p ys)
all-append p [] ys = refl
all-append p (x ∷ xs) ys = let ih = all-append p xs ys in grind arith

any-append : (p : Target → Bool) (xs ys : List Target) → list_any p (xs ++ ys) ≡ (list_any p xs || list_any p ys)
any-append p [] ys = refl
any-append p (x ∷ xs) ys = let ih = any-append p xs ys in grind arith

map-append : {X Y : Type 0} (f : X → Y) (xs ys : List X) → map f (xs ++ ys) ≡ map f xs ++ map f ys
map-append f [] ys = refl
map-append {X} {Y} f (x ∷ xs) ys = ap (λ (z : List Y). f x ∷ z) (map-append f xs ys)

map-one : {X Y : Type 0} (f : X → Y) (o : Option X) → map f (option_to_list o) ≡ option_to_list (option_map f o)
map-one f None = refl
map-one f (Some x) = refl

-- the values of four places, each mapped
pub map-four : {X Y : Type 0} (f : X → Y) (s : Four X) → map f (four_list s) ≡ option_to_list (option_map f s.a) ++ (option_to_list (option_map f s.b) ++ (option_to_list (option_map f s.c) ++ option_to_list (option_map f s.d)))
map-four f s =
    rw (map-append f (option_to_list s.a) (option_to_list s.b ++ (option_to_list s.c ++ option_to_list s.d)), map-append f (option_to_list s.b) (option_to_list s.c ++ option_to_list s.d), map-append f (option_to_list s.c) (option_to_list s.d), map-one f s.a, map-one f s.b, map-one f s.c, map-one f s.d) refl

pub all_four : (p : Target → Bool) (s : Four OpenTarget) → list_all p (as_targets s) ≡ (list_all p (option_to_list (option_map as_target s.a)) && (list_all p (option_to_list (option_map as_target s.b)) && (list_all p (option_to_list (option_map as_target s.c)) && list_all p (option_to_list (option_map as_target s.d)))))
all_four p s =
    rw (map-four as_target s, all-append p (option_to_list (option_map as_target s.a)) (option_to_list (option_map as_target s.b) ++ (option_to_list (option_map as_target s.c) ++ option_to_list (option_map as_target s.d))), all-append p (option_to_list (option_map as_target s.b)) (option_to_list (option_map as_target s.c) ++ option_to_list (option_map as_target s.d)), all-append p (option_to_list (option_map as_target s.c)) (option_to_list (option_map as_target s.d))) refl

pub any_four : (p : Target → Bool) (s : Four OpenTarget) → list_any p (as_targets s) ≡ (list_any p (option_to_list (option_map as_target s.a)) || (list_any p (option_to_list (option_map as_target s.b)) || (list_any p (option_to_list (option_map as_target s.c)) || list_any p (option_to_list (option_map as_target s.d)))))
any_four p s =
    rw (map-four as_target s, any-append p (option_to_list (option_map as_target s.a)) (option_to_list (option_map as_target s.b) ++ (option_to_list (option_map as_target s.c) ++ option_to_list (option_map as_target s.d))), any-append p (option_to_list (option_map as_target s.b)) (option_to_list (option_map as_target s.c) ++ option_to_list (option_map as_target s.d)), any-append p (option_to_list (option_map as_target s.c)) (option_to_list (option_map as_target s.d))) refl

all-after : (e : Entry) (n : Target → Target) (xs : List Target) → list_all (λ s. s.settled) (map n xs) ≡ list_all (λ s. (n s).settled) xs
all-after e n [] = refl
all-after e n (x ∷ xs) = ap (λ b. (n x).settled && b) (all-after e n xs)

pub back_four : (e : Entry) (n : Target → Target) (s : Four OpenTarget) → list_all (λ s. s.settled) (map n (as_targets s)) ≡ (list_all (λ s. (n s).settled) (option_to_list (option_map as_target s.a)) && (list_all (λ s. (n s).settled) (option_to_list (option_map as_target s.b)) && (list_all (λ s. (n s).settled) (option_to_list (option_map as_target s.c)) && list_all (λ s. (n s).settled) (option_to_list (option_map as_target s.d)))))
back_four e n s = all-after e n (as_targets s) ∙ all_four (λ s. (n s).settled) s

-- buffers that are changed each in its place
pub targets_four : (n : Target → Target) (s t : Four OpenTarget) → option_map as_target t.a ≡ option_map n (option_map as_target s.a) → option_map as_target t.b ≡ option_map n (option_map as_target s.b) → option_map as_target t.c ≡ option_map n (option_map as_target s.c) → option_map as_target t.d ≡ option_map n (option_map as_target s.d) → as_targets t ≡ map n (as_targets s)
targets_four n s t a b c d =
    map-four as_target t ∙ rw (a, b, c, d, map-four as_target s, map-append n (option_to_list (option_map as_target s.a)) (option_to_list (option_map as_target s.b) ++ (option_to_list (option_map as_target s.c) ++ option_to_list (option_map as_target s.d))), map-append n (option_to_list (option_map as_target s.b)) (option_to_list (option_map as_target s.c) ++ option_to_list (option_map as_target s.d)), map-append n (option_to_list (option_map as_target s.c)) (option_to_list (option_map as_target s.d)), map-one n (option_map as_target s.a), map-one n (option_map as_target s.b), map-one n (option_map as_target s.c), map-one n (option_map as_target s.d)) refl

-- and fresh ones of targets
pub new_four : (s : Four Sent) (t : Four OpenTarget) → option_map as_target t.a ≡ option_map fresh_target s.a → option_map as_target t.b ≡ option_map fresh_target s.b → option_map as_target t.c ≡ option_map fresh_target s.c → option_map as_target t.d ≡ option_map fresh_target s.d → as_targets t ≡ map fresh_target (four_list s)
new_four s t a b c d = map-four as_target t ∙ rw (a, b, c, d, map-four fresh_target s) refl

-- what holds of all holds of each
pub each_four : (p : Target → Bool) (s : Four OpenTarget) → list_all p (as_targets s) ≡ true → (list_all p (option_to_list (option_map as_target s.a)) ≡ true) × (list_all p (option_to_list (option_map as_target s.b)) ≡ true) × (list_all p (option_to_list (option_map as_target s.c)) ≡ true) × (list_all p (option_to_list (option_map as_target s.d)) ≡ true)
each_four p s h = parts (list_all p (option_to_list (option_map as_target s.a))) (list_all p (option_to_list (option_map as_target s.b))) (list_all p (option_to_list (option_map as_target s.c))) (list_all p (option_to_list (option_map as_target s.d))) (sym (all_four p s) ∙ h)
  where
    parts : (a b c d : Bool) → (a && (b && (c && d))) ≡ true → (a ≡ true) × (b ≡ true) × (c ≡ true) × (d ≡ true)
    parts true true true true h = (refl, refl, refl, refl)
    parts false b c d h = absurd (false≢true h)
    parts true false c d h = absurd (false≢true h)
    parts true true false d h = absurd (false≢true h)
    parts true true true false h = absurd (false≢true h)
