-- Places of numbers in a list that grows.
use Rattle.std.proofs.Common.{Option, None, IfSome, Result, Ok, Err, IfOk, ◌≡◌, ℕ, ◌+◌, ◌<◌, List, [], ◌∷◌, ◌++◌, length, Some, slice_get, get_or, refl, sym, ap, ◌∙◌, subst, arith, length-append}
use Rattle.std.proofs.lemmas.List.{get_or_push, length_push}
use Rattle.std.proofs.lemmas.Option.{slice_get_read}
use Rattle.std.proofs.Math.ListN.{get_or-append}
use mathlib.Core.Logic.{dite}
use mathlib.Core.List.{IsPrefix}
use native.Mathlib.Decide.{ℕ_discrete}
use Rattle.turn_lock.proofs.Beginnings.{begins_get}
use Rattle.turn_lock.specs.Tallies.{StandFrom}

-- one more number, after the list grew
pub one_more : (seen more places : List ℕ) (place from count : ℕ) → IsPrefix seen more → length places ≡ count → StandFrom seen places from → slice_get more place ≡ Some (from + count)
    → StandFrom more (places ++ place ∷ []) from
one_more seen more places place from count p long stand last k lt = dite (ℕ_discrete k count)
    (λ e. let at : get_or (places ++ place ∷ []) k 0 ≡ place = get_or_push places place 0 k (long ∙ sym e) in
    subst (λ (n : ℕ). slice_get more n ≡ Some (from + k)) (sym at) (last ∙ ap (λ (n : ℕ). Some (from + n)) (sym e)))
    (λ ne. let low : k < length places = omega (arith, length-append places (place ∷ [])) in
    subst (λ (n : ℕ). slice_get more n ≡ Some (from + k)) (sym (get_or-append places (place ∷ []) 0 k low)) (begins_get seen more (get_or places k 0) (from + k) p (stand k low)))

-- what was told of a beginning holds of the list
pub still_there : (r : Option ℕ) (seen all : List ℕ) (x : ℕ) → IsPrefix seen all → IfSome r (λ place. slice_get seen place ≡ Some x) → IfSome r (λ place. slice_get all place ≡ Some x)
still_there None seen all x p told = told
still_there (Some place) seen all x p told = begins_get seen all place x p told

-- what was pushed on a list of so many stands at the end
pub stands_last : {E : Type 0} (r : Result ℕ E) (old new seen : List ℕ) (n x : ℕ) → n ≡ length old → seen ≡ new → IfOk r (λ place. (new ≡ old ++ x ∷ []) × (place ≡ n))
    → IfOk r (λ place. (slice_get seen place ≡ Some x) × (place + 1 ≡ length seen))
stands_last (Err e) old new seen n x long is told = told
stands_last (Ok place) old new seen n x long is told =
    let all : seen ≡ old ++ x ∷ [] = is ∙ told.0 in
    let more : length seen ≡ length old + 1 = ap length all ∙ length_push old x in
    let at : get_or seen place x ≡ x = rw all (get_or_push old x x place (sym (told.1 ∙ long))) in
    (slice_get_read seen (length seen) place x refl (omega (arith, told.1)) (sym at), omega (arith, told.1))
