-- What holds of all entries holds of the one at a place.
use Rattle.std.proofs.Common.{◌≡◌, ℕ, Bool, true, zero, suc, List, [], ◌∷◌, Option, Some, refl, take, reverse}
use Rattle.std.specs.List.{list_all}
use Rattle.std.specs.Prelude.{slice_get}
use Rattle.std.proofs.lemmas.Bool.{and_from, and_parts}
use Rattle.cam_types.specs.declared.script.Script.{Script}
use Rattle.trace_model.specs.Verdict.{IsIllegalAt}
use Rattle.trace_model.specs.declared.verdict.RuleName.{RuleName}
use Rattle.trace_model.specs.declared.entry.Entry.{Entry}
use Rattle.trace_model.specs.Allowed.{IsAllowed}

pub one_of_all : {X : Type 0} (p : X → Bool) (xs : List X) (n : ℕ) (e : X) → slice_get xs n ≡ Some e → list_all p xs ≡ true → p e ≡ true
one_of_all p [] n e at h = absurd (cc)
one_of_all p (x ∷ xs) zero e at h =
    let same : x ≡ e = cc in rw (← same) (and_parts (p x) (list_all p xs) h).0
one_of_all p (x ∷ xs) (suc n) e at h = one_of_all p xs n e at (and_parts (p x) (list_all p xs) h).1

some_same : {X : Type 0} (x y : X) → Some x ≡ Some y → x ≡ y
some_same x y h = cc

-- the entry that a verdict names isn't allowed
pub refused : (script : Script) (xs before : List Entry) (p : ℕ) (rule : RuleName) (e : Entry) → IsIllegalAt script xs p rule → slice_get xs p ≡ Some e → before ≡ take p xs → IsAllowed script (reverse before) e → ⊥
refused script xs before p rule e h at is allowed =
    let two : Some e ≡ Some h.entry = cc in
    let same : e ≡ h.entry = some_same e h.entry two in
    h.refused (rw (is, same) at allowed)
