-- Targets, put at their places one after the other.
use Rattle.std.proofs.Common.{◌≡◌, ℕ, zero, suc, ◌+◌, ◌-◌, ◌<◌, ◌≤◌, ◌^◌, List, [], ◌∷◌, ◌++◌, length, replicate, Option, None, Some, Result, Ok, Err, refl, sym, ap, ◌∙◌, arith, append_assoc}
use Rattle.std.proofs.Math.ListN.{set}
use Rattle.std.proofs.lemmas.Bool.{le-leb, lt-leb}
use Rattle.std.proofs.lemmas.List.{set_at, length-append}
use Rattle.cam_types.specs.declared.item.Targets.{Targets}
use Rattle.text_parts.specs.declared.cause.Cause.{Cause}
use Rattle.text_parts.specs.declared.cause.Cause.TheVariants.{Limit, BadNumber}
use Rattle.text_parts.specs.Cuts.{parts_at}
use Rattle.text_parts.specs.Numbers.{number_below}
use Rattle.text_parts.specs.Values.{◌>>=◌, all_of}
use Rattle.script_text.specs.Values.{targets, joined_targets}
use Rattle.text_parts.specs.LineWords.{good, limited}
use Rattle.script_text.specs.Within.{targets_within}

abbrev pub put : List ℕ → ℕ → List ℕ → List ℕ × ℕ
put list count [] = (list, count)
put list count (n ∷ ns) = put (set list count n) (count + 1) ns

abbrev pub put_all : List ℕ → ℕ → Option (List ℕ) → Option (List ℕ × ℕ)
put_all list count None = None
put_all list count (Some ns) = Some (put list count ns)

put-count : (list : List ℕ) (count : ℕ) (ns : List ℕ) → (put list count ns).1 ≡ count + length ns
put-count list count [] = omega arith
put-count list count (n ∷ ns) = put-count (set list count n) (count + 1) ns ∙ omega arith

put-front : (front ns : List ℕ) (k : ℕ) → length ns ≤ k → (put (front ++ replicate k 0) (length front) ns).0 ≡ front ++ (ns ++ replicate (k - length ns) 0)
put-front front [] k l = let e : k ≡ k - 0 = omega arith in ap (λ m. front ++ replicate m 0) e
put-front front (n ∷ ns) zero l = absurd (omega arith)
put-front front (n ∷ ns) (suc k) l =
    let here : set (front ++ replicate (suc k) 0) (length front) n ≡ (front ++ n ∷ []) ++ replicate k 0 = set_at front 0 (replicate k 0) n (length front) refl ∙ sym (append_assoc front (n ∷ []) (replicate k 0)) in
    let long : length front + 1 ≡ length (front ++ n ∷ []) = omega (arith, length-append front (n ∷ [])) in
    let ih = put-front (front ++ n ∷ []) ns k (omega arith) in
    let less : k - length ns ≡ suc k - length (n ∷ ns) = omega arith in
    ap (λ xs. (put xs (length front + 1) ns).0) here ∙ ap (λ m. (put ((front ++ n ∷ []) ++ replicate k 0) m ns).0) long ∙ ih
    ∙ append_assoc front (n ∷ []) (ns ++ replicate (k - length ns) 0) ∙ ap (λ m. front ++ n ∷ (ns ++ replicate m 0)) less

-- what targets of these numbers are
abbrev pub meaning : Option (List ℕ) → Result Targets Cause
meaning streams = limited targets_within (good (streams >>= λ ns. Some (targets ns)))

pub joined-is : (word : List ℕ) → limited targets_within (good (joined_targets word)) ≡ meaning (all_of (number_below (2 ^ 8)) (parts_at 43 word))
unfolding joined_targets
joined-is word = refl

abbrev pub zeros : List ℕ
zeros = replicate 8 0

pub no_targets : (whole : Option (List ℕ)) → None ≡ put_all zeros 0 whole → meaning whole ≡ Err BadNumber
no_targets None h = refl
no_targets (Some ns) h = absurd (cc)

same_count : (ns list : List ℕ) (count : ℕ) → Some (list, count) ≡ Some (put zeros 0 ns) → count ≡ length ns
same_count ns list count h = let e : (list, count) ≡ put zeros 0 ns = cc in ap (λ (p : List ℕ × ℕ). p.1) e ∙ put-count zeros 0 ns ∙ omega arith

same_list : (ns list : List ℕ) (count : ℕ) → length ns ≤ 8 → Some (list, count) ≡ Some (put zeros 0 ns) → list ≡ ns ++ replicate (8 - length ns) 0
same_list ns list count l h = let e : (list, count) ≡ put zeros 0 ns = cc in ap (λ (p : List ℕ × ℕ). p.0) e ∙ put-front [] ns 8 l

pub too_many : (whole : Option (List ℕ)) (list : List ℕ) (count : ℕ) → 8 < count → Some (list, count) ≡ put_all zeros 0 whole → meaning whole ≡ Err Limit
too_many None list count l h = absurd (cc)
too_many (Some ns) list count l h = let e = same_count ns list count h in rw (lt-leb (length ns) 8 (omega arith)) refl

pub all_targets : (whole : Option (List ℕ)) (list : List ℕ) (count : ℕ) → count ≤ 8 → Some (list, count) ≡ put_all zeros 0 whole → meaning whole ≡ Ok (record { count = count; list = list })
all_targets None list count l h = absurd (cc)
all_targets (Some ns) list count l h =
    let e = same_count ns list count h in
    let f = same_list ns list count (omega arith) h in
    rw (le-leb (length ns) 8 (omega arith), e, f) refl
