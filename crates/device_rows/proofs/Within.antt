-- The place of a row that was found lies within the rows.
use Rattle.std.proofs.Common.{◌≡◌, ℕ, ◌<◌, List, [], ◌∷◌, length, Option, Some, sym, ◌∙◌}
use Rattle.std.specs.List.{position}
use Rattle.std.proofs.lemmas.List.Quantifiers.{position-Some}
use Rattle.device_rows.specs.declared.table_row.Row.{Row}
use Rattle.device_rows.specs.TableRows.{is_of}

pub within : {B : Type 0} (f : ℕ) (rows : List (Row B)) (r : Option ℕ) (i : ℕ) → r ≡ position (is_of f) rows → r ≡ Some i → i < length rows
within f [] r i is some = absurd (cc (sym is ∙ some))
within f (row ∷ rows) r i is some = (position-Some (is_of f) (row ∷ rows) i row (sym is ∙ some)).0
