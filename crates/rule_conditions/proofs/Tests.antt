-- What tests of one entry and of lists come to.
use Rattle.std.proofs.Common.{◌≡◌, ◌↔◌, ℕ, ◌==◌, Bool, true, false, ◌&&◌, List, [], ◌∷◌, Option, Some, None, IsTrue, if◌then◌else◌, refl, sym, ◌∙◌, ap, arith, find, inl, inr}
use Rattle.std.specs.Prelude.{is_some}
use Rattle.std.specs.List.{list_any, list_all}
use Rattle.std.proofs.lemmas.Bool.{cases_Bool, cases_eq, false≢true}
use Rattle.std.proofs.lemmas.Bool.Decides.{nat_tests}
use Rattle.trace_model.specs.declared.entry.Entry.{Entry}
use Rattle.trace_model.specs.declared.entry.Entry.TheVariants.{Send}
use Rattle.trace_model.specs.Frames.{frames, is_sent}

pub by_test : {P : Type 0} (x y : Bool) → x ≡ y → (IsTrue y ↔ P) → IsTrue x ↔ P
by_test x y e h = (λ a. h.0 (sym e ∙ a), λ p. e ∙ h.1 p)

-- an entry that is due under a test is this one
pub where_test : (t same : Bool) (x y : Entry) → (IsTrue same ↔ (x ≡ y)) → IsTrue (t && same) ↔ ((if t then Some x else None) ≡ Some y)
where_test true same x y h = (λ a. ap Some (h.0 a), λ e. h.1 (cc))
where_test false same x y h = (λ a. absurd (false≢true a), λ e. absurd (cc))

-- an entry that is due under a test and another is this one
pub where_tests : (t same : Bool) (x : Option Entry) (y : Entry) → (IsTrue same ↔ (x ≡ Some y)) → IsTrue (t && same) ↔ ((if t then x else None) ≡ Some y)
where_tests true same x y h = h
where_tests false same x y h = (λ a. absurd (false≢true a), λ e. absurd (cc))

pub when_due : (t : Bool) (x : Entry) → IsTrue t ↔ ((if t then Some x else None) ≡ Some x)
when_due true x = (λ _. refl, λ _. refl)
when_due false x = (λ h. absurd (false≢true h), λ e. absurd (cc))

pub no_entry : (y : Entry) → IsTrue false ↔ (None ≡ Some y)
no_entry y = (λ a. absurd (false≢true a), λ e. absurd (cc))

-- what holds of each frame holds of one that was sent
pub at_sent : (q : ℕ → Bool) (m : ℕ) (past : List Entry) → list_all q (frames past) ≡ true → is_sent m past ≡ true → q m ≡ true
at_sent q m [] h s = absurd (cc)
at_sent q m (Send k r i same targets ∷ past) h s =
    elim (cases_eq k.0 m) [
      | inl e ↦ (let first : q k.0 ≡ true = grind arith in rw e at first)
      | inr ne ↦ at_sent q m past (grind arith) (grind (arith, nat_tests))
    ]
at_sent q m (e ∷ past) h s = at_sent q m past h s

-- the one frame that passes is found
pub one_found : (p : ℕ → Bool) (n : ℕ) (past : List Entry) → p n ≡ true → is_sent n past ≡ true → ((m : ℕ) → is_sent m past ≡ true → p m ≡ true → m ≡ n) → find p (frames past) ≡ Some n
one_found p n [] h s one = absurd (cc)
one_found p n (Send k r i same targets ∷ past) h s one =
    elim (cases_Bool (p k.0)) [
      | inl yes' ↦ (let e = one k.0 (grind (arith, nat_tests)) yes' in rw yes' (ap Some e))
      | inr no' ↦ elim (cases_eq k.0 n) [
        | inl e ↦ absurd (let h' = rw e at no' in cc)
        | inr ne ↦ rw no' (one_found p n past h (grind (arith, nat_tests)) (λ m t. one m (grind arith)))
      ]
    ]
one_found p n (e ∷ past) h s one = one_found p n past h s one
