-- Rows and their buffers, as they are looked for.
use Rattle.std.proofs.Common.{◌≡◌, ◌∙◌, ℕ, ◌||◌, not, nat_lt, Bool, true, List, [], ◌∷◌, Option, Some, refl, sym, ap, map, inl, inr}
use Rattle.std.specs.List.{find, list_all}
use Rattle.std.proofs.lemmas.Bool.{and_parts, cases_Bool}
use Rattle.state_facts.specs.FrameReadings.{each_below}
use Rattle.state_facts.specs.Row.{Row}
use Rattle.judge_rows.specs.declared.row.OpenRow.{OpenRow}
use Rattle.judge_rows.specs.Views.{row_of}

pub before_map : (n : ℕ) (p : OpenRow → Bool) (q : Row → Bool) (xs : List OpenRow) → ((r : OpenRow) → p r ≡ q (row_of r)) → list_all (λ r. not (nat_lt r.frame.0 n) || p r) xs ≡ each_below n q (map row_of xs)
before_map n p q [] same = refl
before_map n p q (x ∷ xs) same = rw (same x, before_map n p q xs same) refl

-- what holds of each row holds of one that is found
pub found_all : (p q : Row → Bool) (rows : List Row) (o : Option Row) (r : Row) → list_all p rows ≡ true → o ≡ find q rows → o ≡ Some r → p r ≡ true
found_all p q [] o r all found is = absurd (let none = sym found ∙ is in cc)
found_all p q (x ∷ rows) o r all found is =
    let parts = and_parts (p x) (list_all p rows) all in
    elim (cases_Bool (q x)) [
      | inl yes' ↦ (let found' = rw yes' at found in let some : Some x ≡ Some r = sym found' ∙ is in let same : x ≡ r = cc in ap p (sym same) ∙ parts.0)
      | inr no' ↦ (let found' = rw no' at found in found_all p q rows o r parts.1 found' is)
    ]
