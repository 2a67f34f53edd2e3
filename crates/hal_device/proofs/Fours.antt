-- What is tested at each of four places holds of all that stand in them.
use Rattle.std.proofs.Common.{◌≡◌, Bool, true, false, ◌&&◌, not, List, [], ◌∷◌, ◌++◌, Option, Some, None, refl, option_to_list}
use Rattle.std.specs.List.{list_all, list_any}
use Rattle.std.proofs.lemmas.Bool.{and_parts, not-true}

pub all-four : {X : Type 0} (at : Option X → Bool) (p : X → Bool) → ((x : X) → at (Some x) ≡ true → p x ≡ true) → (a b c d : Option X) → ((at a && at b) && (at c && at d)) ≡ true → list_all p (option_to_list a ++ (option_to_list b ++ (option_to_list c ++ option_to_list d))) ≡ true
all-four {X} at p each a b c d h =
    let l = and_parts (at a && at b) (at c && at d) h in
    let u = and_parts (at a) (at b) l.0 in
    let v = and_parts (at c) (at d) l.1 in
    one a (option_to_list b ++ (option_to_list c ++ option_to_list d)) u.0 (one b (option_to_list c ++ option_to_list d) u.1 (one c (option_to_list d) v.0 (last d v.1)))
  where
    last : (o : Option X) → at o ≡ true → list_all p (option_to_list o) ≡ true
    last None r = refl
    last (Some x) r = rw (each x r) refl

    one : (o : Option X) (rest : List X) → at o ≡ true → list_all p rest ≡ true → list_all p (option_to_list o ++ rest) ≡ true
    one None rest r h' = h'
    one (Some x) rest r h' = rw (each x r) h'

-- where all fail a test, none passes it
pub none-passes : {X : Type 0} (p : X → Bool) (xs : List X) → list_all (λ x. not (p x)) xs ≡ true → list_any p xs ≡ false
none-passes p [] h = refl
none-passes p (x ∷ xs) h =
    let parts = and_parts (not (p x)) (list_all (λ y. not (p y)) xs) h in
    rw (not-true (p x) parts.0) (none-passes p xs parts.1)
