-- Numbers that are raised.
use Rattle.std.proofs.Common.{◌≡◌, ℕ, ◌+◌, ◌<◌, zero, suc, Bool, true, false, ◌&&◌, ◌||◌, List, [], ◌∷◌, refl, sym, inl, inr, arith, length, take, get_or, add-one, ◌==◌, nat_lt, if◌then◌else◌}
use Rattle.std.specs.List.{list_any}
use Rattle.std.proofs.lemmas.Bool.{cases_Bool}
use Rattle.std.proofs.lemmas.Bool.Decides.{nat_tests}
use Rattle.hal_rows.specs.declared.order.Order.{Order}
use Rattle.hal_rows.specs.declared.order.Order.TheVariants.{Sound, Filled, Orderly, Other}
use Rattle.hal_rows.specs.declared.row.Row.{Row}
use Rattle.hal_rows.specs.declared.row.TargetRow.{TargetRow}
use Rattle.hal_rows.specs.Device.{above}
use Rattle.hal_rows.specs.State.{brings}
use Rattle.hal_row.specs.declared.order.Tops.{Tops}
use Rattle.hal_row.specs.Raised.{IsRaised, is_same_order, target_brings, targets_bring, top_in}

-- ---- one after the other

above-twice : (m t : ℕ) → above m (above m t) ≡ above m t
above-twice m t =
    elim (cases_Bool (nat_lt m t)) [
      | inl less ↦ rw less (rw less refl)
      | inr more ↦ rw more (grind (arith, nat_tests))
    ]

raised-like : (m : ℕ) (p q : Order → Bool) (a b : Tops) → ((o : Order) → p o ≡ q o) → IsRaised m p a b → IsRaised m q a b
raised-like m p q a b same h o = rw (← same o) (h o)

raised-then : (m : ℕ) (p q : Order → Bool) (a b c : Tops) → IsRaised m p a b → IsRaised m q b c → IsRaised m (λ o. p o || q o) a c
raised-then m p q a b c h k o = by (p o) (q o) (top_in a o) (top_in b o) (top_in c o) (h o) (k o)
  where
    by : (x y : Bool) (r s t : ℕ) → s ≡ (if x then above m r else r) → t ≡ (if y then above m s else s) → t ≡ (if x || y then above m r else r)
    by true true r s t e f = rw (f, e) (above-twice m r)
    by true false r s t e f = rw (f, e) refl
    by false true r s t e f = rw (f, e) refl
    by false false r s t e f = rw (f, e) refl

-- the three of a target
pub raised_target : (m : ℕ) (t : TargetRow) (a b c d : Tops) → IsRaised m (λ o. t.filled && is_same_order (Filled t.target.stream) o) a b → IsRaised m (λ o. t.orderly && is_same_order (Orderly t.target.stream) o) b c → IsRaised m (λ o. t.other && is_same_order (Other t.target.stream) o) c d → IsRaised m (target_brings t) a d
raised_target m t a b c d h i j =
    raised-like m (λ o. ((t.filled && is_same_order (Filled t.target.stream) o) || (t.orderly && is_same_order (Orderly t.target.stream) o)) || (t.other && is_same_order (Other t.target.stream) o)) (target_brings t) a d same
    (raised-then m (λ o. (t.filled && is_same_order (Filled t.target.stream) o) || (t.orderly && is_same_order (Orderly t.target.stream) o)) (λ o. t.other && is_same_order (Other t.target.stream) o) a c d
    (raised-then m (λ o. t.filled && is_same_order (Filled t.target.stream) o) (λ o. t.orderly && is_same_order (Orderly t.target.stream) o) a b c h i) j)
  where
    none : (x y z : Bool) → (((x && false) || (y && false)) || (z && false)) ≡ false
    none true true true = refl
    none true true false = refl
    none true false true = refl
    none true false false = refl
    none false true true = refl
    none false true false = refl
    none false false true = refl
    none false false false = refl

    first : (x y z e : Bool) → (((x && e) || (y && false)) || (z && false)) ≡ (e && x)
    first x y z e = grind arith

    second : (x y z e : Bool) → (((x && false) || (y && e)) || (z && false)) ≡ (e && y)
    second x y z e = grind arith

    third : (x y z e : Bool) → (((x && false) || (y && false)) || (z && e)) ≡ (e && z)
    third x y z e = grind arith

    same : (o : Order) → (((t.filled && is_same_order (Filled t.target.stream) o) || (t.orderly && is_same_order (Orderly t.target.stream) o)) || (t.other && is_same_order (Other t.target.stream) o)) ≡ target_brings t o
    same Sound = none t.filled t.orderly t.other
    same (Filled s) = first t.filled t.orderly t.other (t.target.stream == s)
    same (Orderly s) = second t.filled t.orderly t.other (t.target.stream == s)
    same (Other s) = third t.filled t.orderly t.other (t.target.stream == s)

any-more : {X : Type 0} (p : X → Bool) (xs : List X) (i : ℕ) (d : X) → i < length xs → list_any p (take (suc i) xs) ≡ (list_any p (take i xs) || p (get_or xs i d))
any-more p [] i d l = absurd (omega arith)
any-more p (x ∷ xs) zero d l = or-false (p x)
  where
    or-false : (b : Bool) → (b || false) ≡ b
    or-false true = refl
    or-false false = refl
any-more p (x ∷ xs) (suc i) d l = rw (any-more p xs i d (omega arith)) (assoc (p x) (list_any p (take i xs)) (p (get_or xs i d)))
  where
    assoc : (a b c : Bool) → (a || (b || c)) ≡ ((a || b) || c)
    assoc true b c = refl
    assoc false b c = refl

-- one more target
pub raised_more : (m : ℕ) (ts : List TargetRow) (i : ℕ) (d : TargetRow) (a b c : Tops) → i < length ts → IsRaised m (targets_bring (take i ts)) a b → IsRaised m (target_brings (get_or ts i d)) b c → IsRaised m (targets_bring (take (i + 1) ts)) a c
raised_more m ts i d a b c l h k =
    raised-like m (λ o. targets_bring (take i ts) o || target_brings (get_or ts i d) o) (targets_bring (take (i + 1) ts)) a c
    (λ o. sym (rw add-one (any-more (λ t. target_brings t o) ts i d l)))
    (raised-then m (targets_bring (take i ts)) (target_brings (get_or ts i d)) a b c h k)

-- a row's: in order, and its targets'
pub raised_row : (m : ℕ) (r : Row) (a b c : Tops) → IsRaised m (λ o. r.sound && is_same_order Sound o) a b → IsRaised m (targets_bring r.targets) b c → IsRaised m (λ o. brings o r) a c
raised_row m r a b c h k =
    raised-like m (λ o. (r.sound && is_same_order Sound o) || targets_bring r.targets o) (λ o. brings o r) a c same
    (raised-then m (λ o. r.sound && is_same_order Sound o) (targets_bring r.targets) a b c h k)
  where
    any-none : (ts : List TargetRow) → list_any (λ t. target_brings t Sound) ts ≡ false
    any-none [] = refl
    any-none (t ∷ ts) = any-none ts

    alone : (x y : Bool) → y ≡ false → ((x && true) || y) ≡ x
    alone true y h = refl
    alone false y h = h

    other' : (x y : Bool) → ((x && false) || y) ≡ y
    other' true y = refl
    other' false y = refl

    same : (o : Order) → ((r.sound && is_same_order Sound o) || targets_bring r.targets o) ≡ brings o r
    same Sound = alone r.sound (targets_bring r.targets Sound) (any-none r.targets)
    same (Filled s) = other' r.sound (targets_bring r.targets (Filled s))
    same (Orderly s) = other' r.sound (targets_bring r.targets (Orderly s))
    same (Other s) = other' r.sound (targets_bring r.targets (Other s))
