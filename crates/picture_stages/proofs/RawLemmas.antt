-- A RAW16 picture that is written value by value.
use Rattle.std.proofs.Common.{◌≡◌, ℕ, zero, suc, ◌+◌, ◌*◌, ◌<◌, ◌≤◌, List, [], ◌∷◌, ◌++◌, length, take, drop, get_or, length-drop, refl, ap, sym, ◌∙◌, arith}
use Rattle.std.proofs.lemmas.List.{take_all, take-append-drop, length-take-le, get_or-drop, get_or_append_left}
use Rattle.std.specs.List.{flat_map}
use Rattle.std.proofs.lemmas.Grind.{common_steps, flat_map-append}
use Rattle.cam_types.proofs.PictureLemmas.{length-raw_picture}
use Rattle.cam_types.specs.Over.{written_over}
use Rattle.cam_types.specs.Picture.{raw_picture, two_bytes}

-- all bytes are written once all values are
pub raw_picture-all : (values bytes : List ℕ) (done at : ℕ) → length bytes ≡ length values * 2 → length values ≤ done → length values * 2 ≤ at → take at bytes ≡ flat_map two_bytes (take done values) → bytes ≡ raw_picture values
unfolding raw_picture
raw_picture-all values bytes done at len all every is =
    sym (take_all at bytes (omega arith)) ∙ (is ∙ ap (λ vs. flat_map two_bytes vs) (take_all done values all))

-- the pictures of two bands that follow one another are the picture of both
picture-of-bands : (values front back : List ℕ) → values ≡ front ++ back → raw_picture front ++ raw_picture back ≡ raw_picture values
unfolding raw_picture
picture-of-bands values front back both =
    sym (flat_map-append two_bytes front back) ∙ ap (λ vs. flat_map two_bytes vs) (sym both)

-- the bytes of the values from a place on
raw_picture-drop : (n : ℕ) (values : List ℕ) → raw_picture (drop n values) ≡ drop (n * 2) (raw_picture values)
unfolding raw_picture
raw_picture-drop zero values = refl
raw_picture-drop (suc n) [] =
    let twice : suc n * 2 ≡ suc (suc (n * 2)) = omega arith in
    rw twice refl
raw_picture-drop (suc n) (v ∷ values) =
    let twice : suc n * 2 ≡ suc (suc (n * 2)) = omega arith in
    rw twice (raw_picture-drop n values)

-- a byte of a band of values is that of the whole picture
pub byte-of-band : (values : List ℕ) (first n k : ℕ) → first + n ≤ length values → k < n * 2 → get_or (raw_picture (take n (drop first values))) k 0 ≡ get_or (raw_picture values) (first * 2 + k) 0
byte-of-band values first n k fits low =
    let behind : List ℕ = drop first values in
    let many : length (take n behind) ≡ n = length-take-le n behind (omega (arith, length-drop first values)) in
    let within : k < length (raw_picture (take n behind)) = omega (arith, length-raw_picture (take n behind)) in
    sym (get_or_append_left (raw_picture (take n behind)) (raw_picture (drop n behind)) 0 k within)
    ∙ (ap (λ l. get_or l k 0) (picture-of-bands behind (take n behind) (drop n behind) (sym (take-append-drop n behind)) ∙ raw_picture-drop first values) ∙ get_or-drop (first * 2) (raw_picture values) k 0)

pub length-over : (old new : List ℕ) → length (written_over old new) ≡ length old
length-over old new = grind (arith, common_steps)
