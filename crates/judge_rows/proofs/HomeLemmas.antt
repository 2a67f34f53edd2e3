-- Lists with a value for each buffer.
use Rattle.std.proofs.Common.{◌≡◌, ℕ, ◌-◌, zero, suc, List, [], ◌∷◌, ◌++◌, None, refl, map, ap, slice_set, append_assoc, length, arith}
use Rattle.std.specs.Prelude.{option_to_list}
use Rattle.cam_types.specs.Four.{four_list}
use Rattle.cam_types.specs.declared.four.Four.{Four}
use Rattle.cam_types.specs.declared.reply.Made.{Made}
use Rattle.trace_model.specs.declared.entry.Sent.{Sent}
use Rattle.trace_model.specs.Place.{Device}
use Rattle.state_facts.specs.Homes.{Homes, put_all, sent_with}

put_append : {X : Type 0} (a : ℕ) (v : X) (ts us : List Sent) (xs : List X) → put_all a v (ts ++ us) xs ≡ put_all a v ts (put_all a v us xs)
put_append a v [] us xs = refl
put_append {X} a v (t ∷ ts) us xs = ap (λ (z : List X). slice_set z (t.buffer.0 - a) v) (put_append a v ts us xs)

-- four targets, from the last to the first
put_four : {X : Type 0} (a : ℕ) (v : X) (ts : Four Sent) (xs : List X) → put_all a v (four_list ts) xs ≡ put_all a v (option_to_list ts.a) (put_all a v (option_to_list ts.b) (put_all a v (option_to_list ts.c) (put_all a v (option_to_list ts.d) xs)))
put_four a v ts xs = rw (put_append a v (option_to_list ts.a) (option_to_list ts.b ++ (option_to_list ts.c ++ option_to_list ts.d)) xs, put_append a v (option_to_list ts.b) (option_to_list ts.c ++ option_to_list ts.d) xs, put_append a v (option_to_list ts.c) (option_to_list ts.d) xs) refl

pub sent_four : (ts : Four Sent) (t : Homes) → sent_with (four_list ts) t ≡ sent_with (option_to_list ts.a) (sent_with (option_to_list ts.b) (sent_with (option_to_list ts.c) (sent_with (option_to_list ts.d) t)))
sent_four ts t = rw (put_four t.first Device ts t.places, put_four t.first None ts t.fences, put_four t.first None ts t.held) refl

pub map_set : {X Y : Type 0} (f : X → Y) (xs : List X) (i : ℕ) (x : X) → map f (slice_set xs i x) ≡ slice_set (map f xs) i (f x)
map_set f [] i x = refl
map_set f (y ∷ xs) zero x = refl
map_set {X} {Y} f (y ∷ xs) (suc i) x = ap (λ (z : List Y). f y ∷ z) (map_set f xs i x)

pub length-map : {X Y : Type 0} (f : X → Y) (xs : List X) → length (map f xs) ≡ length xs
length-map f [] = refl
length-map f (x ∷ xs) = let ih = length-map f xs in omega (arith, ih)

-- what is pushed one after the other
pub made_four : (a b c d : List Made) → (((([] ++ a) ++ b) ++ c) ++ d) ≡ a ++ (b ++ (c ++ d))
made_four a b c d = simp append_assoc
