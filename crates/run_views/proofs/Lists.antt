-- Candidates that are listed one by one, and the entry that a move adds.
use Rattle.std.proofs.Common.{◌≡◌, ℕ, zero, suc, ◌+◌, ◌≤◌, List, [], ◌∷◌, ◌++◌, Option, Some, None, refl, sym, ap, ◌∙◌, arith, length, reverse, slice_get, take, append-nil, append_assoc}
use Rattle.std.proofs.lemmas.List.{reverse-append, take_all}
use Rattle.std.proofs.lemmas.Option.{slice_get_past, slice_get_within}
use Rattle.run_model.specs.History.{with_entry}
use Rattle.run_model.specs.declared.step.StepName.{StepName}
use Rattle.trace_model.specs.declared.entry.Entry.{Entry}
use Rattle.run_views.specs.Listing.{candidate_text, listed}
use Rattle.basic_lemmas.proofs.Lists.{get-last}

-- one candidate more
pub one_more : (pick place n p m : ℕ) (xs : List StepName) (x : StepName) → slice_get xs n ≡ Some x → p ≡ place + n → m ≡ suc n → listed pick place (take n xs) ++ candidate_text pick p x ≡ listed pick place (take m xs)
one_more pick place n p m [] x at e f = absurd (omega (arith, slice_get_within [] n x at))
one_more pick place zero p m (y ∷ xs) x at e f =
    let same : y ≡ x = cc in
    let here : p ≡ place = omega (arith, e) in
    rw (f, same, here) (sym (append-nil (candidate_text pick place x)))
one_more pick place (suc n) p m (y ∷ xs) x at e f =
    let rest = one_more pick (place + 1) n p (suc n) xs x at (omega (arith, e)) refl in
    rw f (append_assoc (candidate_text pick place y) (listed pick (place + 1) (take n xs)) (candidate_text pick p x) ∙ ap (λ (l : List ℕ). candidate_text pick place y ++ l) rest)

-- all of them
pub all_listed : (pick place : ℕ) (xs : List StepName) (n : ℕ) → length xs ≤ n → listed pick place (take n xs) ≡ listed pick place xs
all_listed pick place xs n l = ap (listed pick place) (take_all n xs l)

-- ---- entries

-- at the place behind the entries so far there is the entry of the move, if it adds one
pub added : (o : Option Entry) (past : List Entry) → slice_get (reverse (with_entry o past)) (length (reverse past)) ≡ o
added None past = slice_get_past (reverse past) (length (reverse past)) (omega arith)
added (Some e) past = ap (λ (l : List Entry). slice_get l (length (reverse past))) (reverse-append (e ∷ []) past) ∙ get-last (reverse past) e
