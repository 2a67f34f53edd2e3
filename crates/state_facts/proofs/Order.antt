-- The frames in order are those that were sent, the last one first.
use Rattle.std.proofs.Common.{◌≡◌, ℕ, Bool, true, List, [], ◌∷◌, refl, ◌∙◌, arith, count_by, find, cond}
use Rattle.std.specs.List.{list_any, list_all}
use Rattle.std.proofs.lemmas.List.Folds.{find-append, list_all-append, list_any-append}
use Rattle.std.proofs.lemmas.List.Sums.{sum_by-append, sum_by-cons}
use Rattle.trace_model.specs.declared.entry.Entry.{Entry}
use Rattle.trace_model.specs.declared.entry.Entry.TheVariants.{Send}
use Rattle.trace_model.specs.Frames.{frames, is_sent}
use Rattle.trace_laws.proofs.BufferSends.{frames-sent}
use Rattle.state_facts.specs.Row.{in_order}
use Rattle.state_facts.proofs.Last.{last_where}
use Rattle.basic_lemmas.proofs.Shared.{and-turned, or-turned}

pub all-order : (p : ℕ → Bool) (past : List Entry) → list_all p (in_order past) ≡ list_all p (frames past)
all-order p [] = refl
all-order p (Send n r i same targets ∷ past) = rw (list_all-append p (in_order past) (n.0 ∷ []), all-order p past) (and-turned (list_all p (frames past)) (p n.0))
all-order p (e ∷ past) = all-order p past

pub any-order : (p : ℕ → Bool) (past : List Entry) → list_any p (in_order past) ≡ list_any p (frames past)
any-order p [] = refl
any-order p (Send n r i same targets ∷ past) = rw (list_any-append p (in_order past) (n.0 ∷ []), any-order p past) (or-turned (list_any p (frames past)) (p n.0))
any-order p (e ∷ past) = any-order p past

pub count-order : (p : ℕ → Bool) (past : List Entry) → count_by p (in_order past) ≡ count_by p (frames past)
count-order p [] = refl
count-order p (Send n r i same targets ∷ past) =
    let f : ℕ → ℕ = λ y. cond (p y) 1 0 in
    let a = sum_by-append f (in_order past) (n.0 ∷ []) in
    let b = sum_by-cons f n.0 [] in
    let c = sum_by-cons f n.0 (frames past) in
    let ih = count-order p past in
    omega (arith, a, b, c, ih)
count-order p (e ∷ past) = count-order p past

pub first-order : (p : ℕ → Bool) (past : List Entry) → find p (in_order past) ≡ last_where p (frames past)
first-order p [] = refl
first-order p (Send n r i same targets ∷ past) = rw (find-append p (in_order past) (n.0 ∷ []), first-order p past) refl
first-order p (e ∷ past) = first-order p past

pub order-sent : (past : List Entry) → list_all (λ n. is_sent n past) (in_order past) ≡ true
order-sent past = all-order (λ n. is_sent n past) past ∙ frames-sent past
