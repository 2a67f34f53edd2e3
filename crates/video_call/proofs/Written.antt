-- What is written piece by piece.
use Rattle.std.proofs.Common.{◌≡◌, ℕ, ◌+◌, ◌<◌, List, [], ◌∷◌, ◌++◌, refl, sym, ap, ◌∙◌, arith, length, get_or, take, drop, length-append, take-append-drop, map}
use Rattle.std.specs.Prelude.{OnErr, Result}
use Rattle.std.specs.declared.result.Result.TheVariants.{Ok, Err}
use Rattle.std.proofs.KnownBytes.{Appends-trans}
use Rattle.std.proofs.Math.Seq.{take-append-add}
use Rattle.std.proofs.lemmas.Grind.{flat_map-append}
use Rattle.std.proofs.lemmas.List.{flat_map_more, take-append-le, take_more}
use Rattle.std.specs.List.{flat_map}
use Rattle.io_edge.specs.States.{Breaks, SinkState, Writes}
use Rattle.cam_types.specs.declared.stream.StreamSpec.{StreamSpec}
use Rattle.video_call.specs.Files.{film_file, film_frame, film_head, frame_head}
use Rattle.video_call.specs.declared.shot.Shot.{Shot}
use Rattle.video_call.specs.Shows.{bytes_of, frame_of}

-- ---- two pieces

pub both-written : (a b c : SinkState) (x y : List ℕ) → Writes a b x → Writes b c y → Writes a c (x ++ y)
both-written a b c x y one two = Appends-trans a.written b.written c.written x y one two

-- the first breaks
pub first-broken : (a b : SinkState) (x y : List ℕ) → Breaks a b x → Breaks a b (x ++ y)
first-broken a b x y broken =
    let count = broken.0 in
    let both = length-append x y in
    let longer : count < length (x ++ y) = omega (arith, both, broken.1) in
    let written : Writes a b (take count (x ++ y)) = rw (take-append-le count x y (omega (arith, broken.1))) broken.2 in
    (count, longer, written)

-- the second breaks
pub second-broken : (a b c : SinkState) (x y : List ℕ) → Writes a b x → Breaks b c y → Breaks a c (x ++ y)
second-broken a b c x y wrote broken =
    let count = broken.0 in
    let both = length-append x y in
    let longer : length x + count < length (x ++ y) = omega (arith, both, broken.1) in
    let some = Appends-trans a.written b.written c.written x (take count y) wrote broken.2 in
    let written : Writes a c (take (length x + count) (x ++ y)) = rw (take-append-add x y count) some in
    (length x + count, longer, written)

-- ---- one piece of several

pub one-more : {X : Type 0} (f : X → List ℕ) (xs : List X) (i : ℕ) (d : X) → i < length xs → flat_map f (take i xs) ++ f (get_or xs i d) ≡ flat_map f (take (i + 1) xs)
one-more f xs i d l =
    flat_map_more f [] (take i xs) (get_or xs i d) ∙ ap (λ ys. flat_map f ys) (sym (take_more xs i d l))

pub with-rest : {X : Type 0} (f : X → List ℕ) (xs : List X) (n : ℕ) → flat_map f (take n xs) ++ flat_map f (drop n xs) ≡ flat_map f xs
with-rest f xs n = sym (flat_map-append f (take n xs) (drop n xs)) ∙ ap (λ ys. flat_map f ys) (take-append-drop n xs)

-- one piece more is written
pub piece-written : {X : Type 0} (f : X → List ℕ) (xs : List X) (i : ℕ) (d : X) (a b c : SinkState) → i < length xs → Writes a b (flat_map f (take i xs)) → Writes b c (f (get_or xs i d)) → Writes a c (flat_map f (take (i + 1) xs))
piece-written f xs i d a b c l wrote more =
    rw (← one-more f xs i d l) (both-written a b c (flat_map f (take i xs)) (f (get_or xs i d)) wrote more)

-- one piece breaks
pub piece-broken : {X : Type 0} (f : X → List ℕ) (xs : List X) (i : ℕ) (d : X) (a b c : SinkState) → i < length xs → Writes a b (flat_map f (take i xs)) → Breaks b c (f (get_or xs i d)) → Breaks a c (flat_map f xs)
piece-broken f xs i d a b c l wrote broken =
    let front = second-broken a b c (flat_map f (take i xs)) (f (get_or xs i d)) wrote broken in
    let front' : Breaks a c (flat_map f (take (i + 1) xs)) = rw (one-more f xs i d l) at front in
    rw (with-rest f xs (i + 1)) at (first-broken a c (flat_map f (take (i + 1) xs)) (flat_map f (drop (i + 1) xs)) front')

-- pieces of what is made of each
pub mapped : {X Y : Type 0} (f : Y → List ℕ) (g : X → Y) (xs : List X) → flat_map (λ x. f (g x)) xs ≡ flat_map f (map g xs)
mapped f g [] = refl
mapped f g (x ∷ xs) = ap (λ ys. f (g x) ++ ys) (mapped f g xs)

-- ---- the file of a film

pub film-is : (spec : StreamSpec) (shots : List Shot) (head frame : List ℕ) → head ≡ film_head spec → frame ≡ frame_head spec → head ++ flat_map (frame_of frame spec.format) shots ≡ film_file spec (map bytes_of shots)
film-is spec shots head frame h f =
    rw (h, f) (ap (λ x. film_head spec ++ x) (mapped (film_frame spec) bytes_of shots))
