-- The first condition that an entry doesn't meet, where all but the last are told.
use Rattle.std.proofs.Common.{◌≡◌, ℕ, ◌<◌, ◌≤◌, zero, suc, Bool, true, false, ◌&&◌, not, List, [], ◌∷◌, Some, refl, sym, subst, ◌∙◌, arith, find, get_or, length, take, slice_get, inl, inr}
use Rattle.std.specs.List.{list_all}
use Rattle.std.proofs.lemmas.Bool.{and_from, and_parts, cases_Bool, false≢true}
use Rattle.cam_types.specs.declared.script.Script.{Script}
use Rattle.trace_model.specs.declared.entry.Entry.{Entry}
use Rattle.trace_model.specs.declared.entry.Entry.TheVariants.{Filled, Failed, Early, Late}
use Rattle.trace_model.specs.Allowed.{IsAllowed}
use Rattle.rule_conditions.specs.declared.condition.Condition.{Condition}
use Rattle.rule_conditions.specs.Conditions.{conditions_of, first_failed, holds}
use Rattle.rule_conditions.proofs.Law.{meets}
use Rattle.rule_conditions.specs.Parts.{is_known, is_return}

abbrev all_but_last : (Condition → Bool) → List Condition → Bool
all_but_last k [] = true
all_but_last k (c ∷ []) = true
all_but_last k (c ∷ (d ∷ cs)) = k c && all_but_last k (d ∷ cs)

known_before : (e : Entry) → all_but_last (is_known e) (conditions_of e) ≡ true
known_before (Filled n s b f digest) = refl
known_before (Late d digest) = refl
known_before e = refl

found_at : (p : Condition → Bool) (cs : List Condition) (i : ℕ) (c : Condition) → slice_get cs i ≡ Some c → list_all p (take i cs) ≡ true → p c ≡ false → find (λ x. not (p x)) cs ≡ Some c
found_at p [] i c at before fails = absurd (cc)
found_at p (d ∷ cs) zero c at before fails =
    let same : d ≡ c = cc in
    let fails' = rw (← same) at fails in
    rw fails' at
found_at p (d ∷ cs) (suc i) c at before fails =
    let parts = and_parts (p d) (list_all p (take i cs)) before in
    rw parts.0 (found_at p cs i c at parts.1 fails)

-- what is met up to a condition that isn't told is met to the end
met_to_the_end : (k p : Condition → Bool) (cs : List Condition) (i : ℕ) (c : Condition) → all_but_last k cs ≡ true → slice_get cs i ≡ Some c → k c ≡ false → list_all p (take i cs) ≡ true → p c ≡ true → list_all p cs ≡ true
met_to_the_end k p [] i c known at untold before met = refl
met_to_the_end k p (d ∷ []) zero c known at untold before met =
    let same : c ≡ d = cc in and_from _ _ (rw same at met) refl
met_to_the_end k p (d ∷ []) (suc i) c known at untold before met = absurd (cc)
met_to_the_end k p (d ∷ (e ∷ cs)) zero c known at untold before met =
    let same : c ≡ d = cc in
    absurd (false≢true (sym (rw same at untold) ∙ (and_parts (k d) (all_but_last k (e ∷ cs)) known).0))
met_to_the_end k p (d ∷ (e ∷ cs)) (suc i) c known at untold before met =
    let parts = and_parts (p d) (list_all p (take i (e ∷ cs))) before in
    and_from _ _ parts.0 (met_to_the_end k p (e ∷ cs) i c (and_parts (k d) (all_but_last k (e ∷ cs)) known).1 at untold parts.1 met)

pub first_at : (script : Script) (past : List Entry) (e : Entry) (i : ℕ) (c : Condition) → slice_get (conditions_of e) i ≡ Some c → list_all (holds script past e) (take i (conditions_of e)) ≡ true → (is_known e c ≡ true → false ≡ holds script past e c) → (IsAllowed script past e → ⊥) → first_failed script past e ≡ Some c
first_at script past e i c at before told refused =
    elim (cases_Bool (holds script past e c)) [
      | inl met ↦ elim (cases_Bool (is_known e c)) [
        | inl known ↦ absurd (false≢true (told known ∙ met))
        | inr untold ↦ absurd (refused ((meets script past e).0 (met_to_the_end (is_known e) (holds script past e) (conditions_of e) i c (known_before e) at untold before met)))
      ]
      | inr fails ↦ found_at (holds script past e) (conditions_of e) i c at before fails
    ]

got : (cs : List Condition) (i : ℕ) (d : Condition) → i < length cs → slice_get cs i ≡ Some (get_or cs i d)
got [] i d l = absurd (omega arith)
got (c ∷ cs) zero d l = refl
got (c ∷ cs) (suc i) d l = got cs i d (omega arith)

-- the code's list is that of the entry's conditions
pub first_in : (script : Script) (past : List Entry) (e : Entry) (cs : List Condition) (i : ℕ) (d : Condition) → cs ≡ conditions_of e → i < length cs → list_all (holds script past e) (take i cs) ≡ true → (is_known e (get_or cs i d) ≡ true → false ≡ holds script past e (get_or cs i d)) → (IsAllowed script past e → ⊥) → first_failed script past e ≡ Some (get_or cs i d)
first_in script past e cs i d same l before told refused =
    first_at script past e i (get_or cs i d) (subst (λ (x : List Condition). slice_get x i ≡ Some (get_or cs i d)) same (got cs i d l)) (subst (λ (x : List Condition). list_all (holds script past e) (take i x) ≡ true) same before) told refused

all_taken : (p : Condition → Bool) (cs : List Condition) (i : ℕ) → length cs ≤ i → list_all p (take i cs) ≡ true → list_all p cs ≡ true
all_taken p [] i l h = refl
all_taken p (c ∷ cs) zero l h = absurd (omega arith)
all_taken p (c ∷ cs) (suc i) l h =
    let parts = and_parts (p c) (list_all p (take i cs)) h in
    and_from _ _ parts.0 (all_taken p cs i (omega arith) parts.1)

pub never : (script : Script) (past : List Entry) (e : Entry) (cs : List Condition) (i : ℕ) → cs ≡ conditions_of e → length cs ≤ i → list_all (holds script past e) (take i cs) ≡ true → (IsAllowed script past e → ⊥) → ⊥
never script past e cs i same l before refused =
    refused ((meets script past e).0 (subst (λ (x : List Condition). list_all (holds script past e) x ≡ true) same (all_taken (holds script past e) cs i l before)))

pub known_plain : (e : Entry) (c : Condition) → is_return e ≡ false → is_known e c ≡ true
known_plain (Filled n s b f digest) c h = absurd (cc)
known_plain (Failed n s b f) c h = refl
known_plain (Early n s b d) c h = refl
known_plain (Late d digest) c h = absurd (cc)
known_plain e c h = refl
