-- Things of a list that take slots, each slot once: there are no more of them than slots.
use Rattle.std.proofs.Common.{◌≡◌, ℕ, ◌==◌, ◌+◌, ◌≤◌, Bool, true, false, ◌&&◌, ◌||◌, not, List, [], ◌∷◌, ◌++◌, Option, Some, None, refl, ap, sym, ◌∙◌, arith, inl, inr, length, filter, count_by, is_some, if◌then◌else◌, length-append}
use Rattle.std.specs.List.{list_any}
use Rattle.std.proofs.lemmas.Bool.{cases_Bool, eqb-true, false≢true, and_parts}
use Rattle.std.proofs.lemmas.List.Elements.{filter-append}
use Rattle.basic_lemmas.proofs.Counts.{filter-less, filter-fewer, filter-short, count-cons}

-- a slot: what kind of thing may take it, of which frame, and which of them
pub record Slot : Type 0 where
  pub kind : ℕ
  pub frame : ℕ
  pub place : ℕ

abbrev pub slot : ℕ → ℕ → ℕ → Slot
slot k n s = record { kind = k; frame = n; place = s }

abbrev pub same_slot : Slot → Slot → Bool
same_slot a b = (a.kind == b.kind) && ((a.frame == b.frame) && (a.place == b.place))

slot_is : (a b : Slot) → a.kind ≡ b.kind → a.frame ≡ b.frame → a.place ≡ b.place → a ≡ b
slot_is a b x y z = let k : slot a.kind a.frame a.place ≡ slot b.kind b.frame b.place = rw (x, y, z) refl in k

pub same-is : (a b : Slot) → same_slot a b ≡ true → a ≡ b
same-is a b h =
    let first = and_parts (a.kind == b.kind) ((a.frame == b.frame) && (a.place == b.place)) h in
    let second = and_parts (a.frame == b.frame) (a.place == b.place) first.1 in
    slot_is a b (eqb-true a.kind b.kind first.0) (eqb-true a.frame b.frame second.0) (eqb-true a.place b.place second.1)

-- what takes a slot takes this one
abbrev pub is_slot : Slot → Option Slot → Bool
is_slot t (Some u) = same_slot u t
is_slot t None = false

-- the slot is taken by a thing of the list
abbrev pub used : {X : Type 0} → (X → Option Slot) → List X → Slot → Bool
used key xs t = list_any (λ x. is_slot t (key x)) xs

-- how many slots are free, and how many things take one
abbrev pub free : {X : Type 0} → (X → Option Slot) → List X → List Slot → ℕ
free key xs slots = length (filter (λ t. not (used key xs t)) slots)

abbrev pub taking : {X : Type 0} → (X → Option Slot) → List X → ℕ
taking key xs = count_by (λ x. is_some (key x)) xs

abbrev pub HasRoom : {X : Type 0} → (X → Option Slot) → List X → List Slot → Type 0
HasRoom key xs slots = taking key xs + free key xs slots ≤ length slots

still_used : (a b : Bool) → not b ≡ false → not (a || b) ≡ false
still_used true b h = refl
still_used false b h = h

used_now : (a b : Bool) → a ≡ true → not (a || b) ≡ false
used_now a b h = rw h refl

not_used : (b : Bool) → b ≡ false → not b ≡ true
not_used b h = rw h refl

-- what passes is kept
kept : {X : Type 0} (p q : X → Bool) (xs : List X) → ((x : X) → q x ≡ true → p x ≡ true) → list_any q xs ≡ true → list_any q (filter p xs) ≡ true
kept p q [] more any = absurd (false≢true any)
kept p q (x ∷ xs) more any =
    elim (cases_Bool (q x)) [
      | inl here ↦ rw (more x here, here) refl
      | inr over ↦ (
          let any' = rw over at any in
          let ih = kept p q xs more any' in
          elim (cases_Bool (p x)) [ inl in' ↦ rw (in', over) ih | inr out ↦ rw out ih ]
          )
    ]

-- a thing that takes no slot
pub room-without : {X : Type 0} (key : X → Option Slot) (x : X) (xs : List X) (slots : List Slot) → key x ≡ None → HasRoom key xs slots → HasRoom key (x ∷ xs) slots
room-without {X} key x xs slots h room =
    let one = count-cons {X = X} (λ y. is_some (key y)) x xs in
    let none : ◌≡◌ {A = ℕ} (if is_some (key x) then 1 else 0) 0 = rw h refl in
    let less = filter-less (λ t. not (used key xs t)) (λ t. not (used key (x ∷ xs) t)) (λ t k. still_used (is_slot t (key x)) (used key xs t) k) slots in
    omega (arith, one, none, less, room)

-- a thing that takes a free one
pub room-taken : {X : Type 0} (key : X → Option Slot) (x : X) (xs : List X) (slots : List Slot) (t : Slot) → key x ≡ Some t → used key xs t ≡ false → list_any (same_slot t) slots ≡ true → HasRoom key xs slots → HasRoom key (x ∷ xs) slots
room-taken {X} key x xs slots t h fresh within room =
    let one = count-cons {X = X} (λ y. is_some (key y)) x xs in
    let some : ◌≡◌ {A = ℕ} (if is_some (key x) then 1 else 0) 1 = rw h refl in
    let there : (u : Slot) → same_slot t u ≡ true → not (used key xs u) ≡ true = λ u k. let at = same-is t u k in not_used (used key xs u) (ap (used key xs) (sym at) ∙ fresh) in
    let any = kept (λ u. not (used key xs u)) (same_slot t) slots there within in
    let fails : (u : Slot) → same_slot t u ≡ true → not (used key (x ∷ xs) u) ≡ false = λ u k. used_now (is_slot u (key x)) (used key xs u) (ap (is_slot u) h ∙ k) in
    let less = filter-fewer (λ u. not (used key xs u)) (λ u. not (used key (x ∷ xs) u)) (same_slot t) (λ u k. still_used (is_slot u (key x)) (used key xs u) k) fails slots any in
    omega (arith, one, some, less, room)

-- more slots
pub room-more : {X : Type 0} (key : X → Option Slot) (xs : List X) (new slots : List Slot) → HasRoom key xs slots → HasRoom key xs (new ++ slots)
room-more key xs new slots room =
    let p : Slot → Bool = λ t. not (used key xs t) in
    let both = filter-append p new slots in
    let few = filter-short p new in
    let long = ap length both ∙ length-append (filter p new) (filter p slots) in
    let all = length-append new slots in
    omega (arith, few, long, all, room)

pub room-bound : {X : Type 0} (key : X → Option Slot) (xs : List X) (slots : List Slot) → HasRoom key xs slots → taking key xs ≤ length slots
room-bound key xs slots room = omega (arith, room)
