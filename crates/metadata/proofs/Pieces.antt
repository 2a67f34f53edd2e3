-- Bytes cut into pieces of one length, and lists joined of them.
use Rattle.std.proofs.Common.{◌≡◌, ℕ, zero, suc, ◌+◌, ◌*◌, ◌<◌, List, [], ◌∷◌, ◌++◌, length, take, drop, get_or, refl, ap, subst, sym, ◌∙◌, arith}
use Rattle.std.specs.Prelude.{ℤ, FitsSigned}
use Rattle.std.specs.Int.{w32, cast_signed, cast_unsigned}
use Rattle.std.specs.List.{flat_map, AllByRecursion}
use Rattle.std.proofs.lemmas.Int.{to_z-of_z}
use Rattle.std.proofs.lemmas.List.{drop-drop, take-take, drop-take, take_more, flat_map_more}
use Rattle.metadata.specs.Values.{pieces, int32_of, ratio_of}

pub length-pieces : {X : Type 0} (len : ℕ) (read : List ℕ → X) (n : ℕ) (bytes : List ℕ) → length (pieces len read n bytes) ≡ n
length-pieces len read zero bytes = refl
length-pieces len read (suc n) bytes = ap suc (length-pieces len read n (drop len bytes))

-- one piece more
pub pieces_more : {X : Type 0} (len : ℕ) (read : List ℕ → X) (n : ℕ) (bytes : List ℕ) → pieces len read (suc n) bytes ≡ pieces len read n bytes ++ read (take len (drop (len * n) bytes)) ∷ []
pieces_more len read zero bytes = let e : len * 0 ≡ 0 = omega arith in rw e refl
pieces_more len read (suc n) bytes =
    let at : len * suc n ≡ len + len * n = omega arith in
    ap (λ xs. read (take len bytes) ∷ xs) (pieces_more len read n (drop len bytes) ∙ rw (at, ← drop-drop (len * n) len bytes) refl)

-- the ratio in the eight bytes at a place
pub ratio_here : (bytes : List ℕ) (place : ℕ) (n d : ℤ) → FitsSigned w32 n → FitsSigned w32 d → n ≡ int32_of (take 4 (drop place bytes)) → d ≡ int32_of (take 4 (drop (place + 4) bytes))
    → record { numerator = cast_signed w32 (cast_unsigned w32 n); denominator = cast_signed w32 (cast_unsigned w32 d) } ≡ ratio_of (take 8 (drop place bytes))
ratio_here bytes place n d n-fits d-fits n-is d-is =
    let low = take-take 4 8 (drop place bytes) (omega arith) in
    let high = drop-take 4 4 (drop place bytes) in
    let moved = drop-drop 4 place bytes in
    rw (to_z-of_z w32 n n-fits, to_z-of_z w32 d d-fits, low, high, moved, n-is, d-is) refl

pub AllByRecursion-push : {X : Type 0} (P : X → Type 0) (xs : List X) (x : X) → AllByRecursion P xs → P x → AllByRecursion P (xs ++ x ∷ [])
AllByRecursion-push P [] x h p = (p, tt)
AllByRecursion-push P (y ∷ ys) x h p = (h.0, AllByRecursion-push P ys x h.1 p)

-- one element more, as a loop reads it
pub read_more : {X : Type 0} (len : ℕ) (read : List ℕ → X) (i : ℕ) (bytes : List ℕ) (list new : List X) (x y : X) → list ≡ pieces len read i bytes → x ≡ read (take len (drop (len * i) bytes)) → y ≡ x → new ≡ list ++ y ∷ [] → new ≡ pieces len read (i + 1) bytes
read_more len read i bytes list new x y so_far read-is same pushed =
    let next : i + 1 ≡ suc i = omega arith in
    rw (next, pieces_more len read i bytes, pushed, so_far, same, read-is) refl

-- one element more, as a loop writes it
pub wrote_more : {X : Type 0} (f : X → List ℕ) (old out new : List ℕ) (xs : List X) (i : ℕ) (d y : X) → out ≡ old ++ flat_map f (take i xs) → i < length xs → y ≡ get_or xs i d → new ≡ out ++ f y → new ≡ old ++ flat_map f (take (i + 1) xs)
wrote_more f old out new xs i d y so_far lt same pushed =
    pushed ∙ ap (λ bs. bs ++ f y) so_far ∙ flat_map_more f old (take i xs) y ∙ rw (take_more xs i d lt, same) refl

pub All_more : {X : Type 0} (P : X → Type 0) (xs : List X) (i : ℕ) (d : X) → i < length xs → AllByRecursion P (take i xs) → P (get_or xs i d) → AllByRecursion P (take (i + 1) xs)
All_more P xs i d lt so_far here = subst (λ ys. AllByRecursion P ys) (sym (take_more xs i d lt)) (AllByRecursion-push P (take i xs) (get_or xs i d) so_far here)
