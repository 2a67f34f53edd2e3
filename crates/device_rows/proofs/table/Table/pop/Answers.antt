use Rattle.std.proofs.Common.{◌≡◌, ℕ, ◌<◌, List, [], ◌∷◌, ◌++◌, length, Option, None, Some, IfSome, IsNone, IsSome, option_to_list, refl, sym, ap, ◌∙◌, arith}
use Rattle.std.specs.Prelude.{◌↔◌, vec_len}
use Rattle.std.proofs.lemmas.List.{append-nil, length_push}
use Rattle.device_rows.specs.declared.table_row.Row.{Row}
use Rattle.device_rows.proofs.Front.{kept-front}
use Rattle.device_rows.proofs.Places.{same-rows}
use Rattle.device_rows.proofs.table.Table.pop.Goals as goal

pub invariant_of-self : goal.invariant_of-self
invariant_of-self g c =
    kept-front c.self.inside.rows.items c.pop.new.self.items (option_to_list c.pop.result) _ _ _ c.self.invariant c.pop.ensures.capacity c.pop.ensures.items

module _ {B : Type 0} where
  none-left : (o : Option (Row B)) (old new : List (Row B)) (n : ℕ) → old ≡ new ++ option_to_list o → n ≡ length old → (0 < n → IsSome o) → IsNone o ↔ (old ≡ [])
  none-left None [] new n is long more = (λ _. refl, λ _. refl)
  none-left None (row ∷ rows) new n is long more = absurd (cc (more (omega arith)))
  none-left (Some row) old new n is long more = (λ h. absurd (cc h), λ h. absurd (omega (arith, ap length (sym is ∙ h), length_push new row)))

  last-of : (o : Option (Row B)) (old new : List (Row B)) → old ≡ new ++ option_to_list o → IfSome o (λ row. old ≡ new ++ row ∷ [])
  last-of None old new is = tt
  last-of (Some row) old new is = is

  still : (o : Option (Row B)) (old new : List (Row B)) → old ≡ new ++ option_to_list o → IsNone o → new ≡ old
  still None old new is none = sym (is ∙ append-nil new)
  still (Some row) old new is none = absurd (cc none)

pub returns-clause-none : goal.returns-clause-none
returns-clause-none g c =
    let old = c.self.inside.rows in
    rw (← c.self.view_is) (none-left c.pop.result old.items c.pop.new.self.items (vec_len old) c.pop.ensures.items (omega arith) c.pop.ensures.variant.1)

pub returns-clause-last : goal.returns-clause-last
returns-clause-last g c = rw (← c.self.view_is) (last-of c.pop.result c.self.inside.rows.items c.pop.new.self.items c.pop.ensures.items)

pub returns-clause-unchanged : goal.returns-clause-unchanged
returns-clause-unchanged g c =
    rw (← c.self.view_is) (λ none. same-rows c.self.inside.capacity c.pop.new.self.items c.self.inside.rows.items (still c.pop.result c.self.inside.rows.items c.pop.new.self.items c.pop.ensures.items none))
