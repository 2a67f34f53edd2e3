use Rattle.std.proofs.Common.{◌≡◌, ℕ, ◌≤◌, List, [], ◌∷◌, ◌++◌, min, Option, Some, None, option_to_list, refl, arith, sym, inl, inr}
use Rattle.std.proofs.lemmas.Bool.{cases_order}
use Rattle.std.specs.List.{Contains}
use Rattle.std.proofs.lemmas.List.Elements.{All-cons, All-weaker, All-nil, Contains-append_right}
use Rattle.device_rows.specs.Next.{IsLeast, least, lesser, lesser_of}

least-first : (o : Option ℕ) (others : List ℕ) → least (option_to_list o ++ others) ≡ lesser_of o (least others)
least-first None others = refl
least-first (Some s) others = refl

none-least : (ss : List ℕ) → least ss ≡ None → ss ≡ []
none-least [] h = refl
none-least (s ∷ ss) h = absurd (cc)

head : (s : ℕ) (ss : List ℕ) → Contains (s ∷ ss) s
head s ss = (0, grind arith, refl)

-- a new least one, or the one of the others
low-new : (s : ℕ) (ss : List ℕ) (u t : ℕ) → IsLeast u ss → s ≤ u → t ≡ s → IsLeast t (s ∷ ss)
low-new s ss u t low l e =
    rw e (record { one_of = head s ss; none_below = All-cons (λ v. s ≤ v) s ss (omega arith) (All-weaker (λ v. u ≤ v) (λ v. s ≤ v) (λ v k. omega arith) ss low.none_below) })

low-old : (s : ℕ) (ss : List ℕ) (u t : ℕ) → IsLeast u ss → u ≤ s → t ≡ u → IsLeast t (s ∷ ss)
low-old s ss u t low l e =
    rw e (record { one_of = Contains-append_right (s ∷ []) ss u low.one_of; none_below = All-cons (λ v. u ≤ v) s ss l low.none_below })

low-step : (s : ℕ) (ss : List ℕ) (u t : ℕ) → IsLeast u ss → min s u ≡ t → IsLeast t (s ∷ ss)
low-step s ss u t low e =
    elim (cases_order s u) [
      | inl same ↦ low-new s ss u t low (omega arith) (omega arith)
      | inr other ↦ elim other [ inl less ↦ low-new s ss u t low (omega arith) (omega arith) | inr more ↦ low-old s ss u t low (omega arith) (omega arith) ]
    ]

least-step : (s : ℕ) (ss : List ℕ) (o : Option ℕ) (t : ℕ) → least ss ≡ o → ((u : ℕ) → o ≡ Some u → IsLeast u ss) → lesser s o ≡ t → IsLeast t (s ∷ ss)
least-step s ss None t is rest e =
    let empty = none-least ss is in
    rw (empty, sym e) (record { one_of = head s []; none_below = All-cons (λ u. s ≤ u) s [] (omega arith) (All-nil (λ u. s ≤ u)) })
least-step s ss (Some u) t is rest e = low-step s ss u t (rest u refl) e

pub least-is : (ss : List ℕ) (t : ℕ) → least ss ≡ Some t → IsLeast t ss
least-is [] t h = absurd (cc)
least-is (s ∷ ss) t h = least-step s ss (least ss) t refl (λ u i. least-is ss u i) (cc)
