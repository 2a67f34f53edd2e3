-- Empty lists, and rows beside their numbers.
use Rattle.std.proofs.Common.{◌≡◌, ◌==◌, ℕ, Bool, List, [], ◌∷◌, length, refl, sym, arith}
use Rattle.std.specs.List.{list_any}
use Rattle.std.specs.Map.{values_of}
use Rattle.basic_lemmas.proofs.Lists.{any-mapped}
use Rattle.hal_rows.specs.declared.row.Row.{Row}

-- a row that passes a test, beside its number
pub any_rows : (p : Row → Bool) (es : List (ℕ × Row)) → list_any (λ e. p e.1) es ≡ list_any p (values_of es)
any_rows p es = sym (any-mapped p (λ (e : ℕ × Row). e.1) es)
