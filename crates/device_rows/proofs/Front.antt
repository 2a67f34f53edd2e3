-- The rows that are left once the last is taken out.
use Rattle.std.proofs.Common.{◌≡◌, ℕ, ◌≤◌, Bool, true, nat_lt, List, [], ◌∷◌, ◌++◌, length, refl, arith}
use Rattle.std.specs.List.{list_all}
use Rattle.std.proofs.lemmas.Bool.{and_from, and_parts}
use Rattle.device_rows.specs.declared.table_row.Row.{Row}
use Rattle.device_rows.specs.Inside.Kept.{IsKept}
use Rattle.device_rows.specs.TableRows.{are_in_order, frame_of, is_sound}

all-front : {X : Type 0} (p : X → Bool) (xs ys : List X) → list_all p (xs ++ ys) ≡ true → list_all p xs ≡ true
all-front p [] ys h = refl
all-front p (x ∷ xs) ys h =
    let parts = and_parts (p x) (list_all p (xs ++ ys)) h in
    and_from (p x) (list_all p xs) parts.0 (all-front p xs ys parts.1)

order-front : {B : Type 0} (xs ys : List (Row B)) → are_in_order (xs ++ ys) ≡ true → are_in_order xs ≡ true
order-front [] ys h = refl
order-front (x ∷ xs) ys h =
    let parts = and_parts (list_all (λ other. nat_lt (frame_of x) (frame_of other)) (xs ++ ys)) (are_in_order (xs ++ ys)) h in
    and_from (list_all (λ other. nat_lt (frame_of x) (frame_of other)) xs) (are_in_order xs) (all-front (λ other. nat_lt (frame_of x) (frame_of other)) xs ys parts.0) (order-front xs ys parts.1)

length-front : {X : Type 0} (xs ys : List X) → length xs ≤ length (xs ++ ys)
length-front [] ys = omega arith
length-front (x ∷ xs) ys = let ih = length-front xs ys in omega (arith, ih)

pub kept-front : {B : Type 0} (rows front back : List (Row B)) (capacity room same : ℕ) → IsKept rows capacity room → same ≡ room → rows ≡ front ++ back → IsKept front capacity same
kept-front rows front back capacity room same kept e is =
    let old = kept.room in
    let within = rw is at kept.within in
    let short = length-front front back in
    record {
      few = kept.few;
      room = omega (arith, old, e);
      within = omega (arith, within, short);
      ordered = order-front front back (rw is at kept.ordered);
      sound = all-front is_sound front back (rw is at kept.sound);
    }
