-- Later requests in call.
use Rattle.std.proofs.Common.{◌≡◌, ◌∙◌, ℕ, Bool, true, false, ◌&&◌, List, refl, sym, inl, inr}
use Rattle.std.specs.List.{list_any}
use Rattle.std.specs.Map.{values_of}
use Rattle.std.proofs.lemmas.Bool.{and_parts, cases_Bool}
use Rattle.basic_lemmas.proofs.Lists.{any-less, any-mapped}
use Rattle.hal_rows.specs.declared.row.Row.{Row}
use Rattle.hal_rows.specs.Row.{is_row_in_call}
use Rattle.hal_rows.specs.State.{is_later_in_call}

-- where no request is in call, none is a later one in call
pub none_later : (test : Row → Bool) (r : Row) (each : List Row) → list_any (is_later_in_call test r) each ≡ (list_any is_row_in_call each && list_any (is_later_in_call test r) each)
none_later test r each =
    elim (cases_Bool (list_any is_row_in_call each)) [
      | inl some ↦ rw some refl
      | inr none ↦ rw none (any-less is_row_in_call (is_later_in_call test r) each (λ q h. (and_parts (is_row_in_call q) _ h).0) none)
    ]

-- a row that passes a test, beside its number
pub any_rows : (p : Row → Bool) (es : List (ℕ × Row)) → list_any (λ e. p e.1) es ≡ list_any p (values_of es)
any_rows p es = sym (any-mapped p (λ (e : ℕ × Row). e.1) es)
