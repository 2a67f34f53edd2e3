-- Whose numbers an event raises.
use Rattle.std.proofs.Common.{◌≡◌, ◌∙◌, ℕ, ◌==◌, Bool, true, false, List, [], ◌∷◌, Option, Some, None, refl, sym, ap, nat_eq}
use Rattle.std.specs.Map.{lookup, set_value, values_of}
use Rattle.std.specs.Option.{option_map}
use Rattle.std.proofs.lemmas.Bool.{eq-eqb, false≢true}
use Rattle.hal_model.specs.declared.event.HalEvent.{HalEvent}
use Rattle.hal_model.specs.declared.event.HalEvent.TheVariants.{RequestBegin, RequestOk, Results}
use Rattle.hal_model.specs.Rules.{frame_in}
use Rattle.hal_model.specs.Words.{begins_request}
use Rattle.hal_rows.specs.declared.row.Row.{Row}
use Rattle.hal_rows.specs.Row.{note_row, row_for}
use Rattle.hal_rows.specs.State.{if_accepted, settled}
use Rattle.hal_row.specs.declared.order.Tops.{Tops}
use Rattle.hal_row.specs.Settled.{IsTopped, settled_of}
use Rattle.hal_table.specs.Index.{are_keyed, set_found, with_row}
use Rattle.hal_table.proofs.Entries.{found_set, row_reads}
use Rattle.hal_table.proofs.Counted.{some_is}

-- the row in which something is noted
found_noted : (f : Row → Row) (n : ℕ) (es : List (ℕ × Row)) → lookup (nat_eq n) (with_row f n es) ≡ option_map f (lookup (nat_eq n) es)
found_noted f n es = by (lookup (nat_eq n) es) refl
  where
    by : (o : Option Row) → lookup (nat_eq n) es ≡ o → lookup (nat_eq n) (set_found f n es o) ≡ option_map f o
    by None none = none
    by (Some r) some = found_set n n es r (f r) some ∙ rw (eq-eqb n n refl) refl

settled_own : (k : ℕ) (fl : Bool) (e : HalEvent) (n : ℕ) (each : List Row) → begins_request e ≡ false → frame_in e ≡ Some n → settled_of e (option_map (note_row k fl e) (row_for n each)) ≡ settled k fl e each
settled_own k fl (RequestBegin m same ts a b) n each no' names = absurd (false≢true (sym no'))
settled_own k fl (RequestOk m) n each no' names = ap (λ z. option_map (note_row k fl (RequestOk m)) (row_for z each)) (sym (some_is m n names))
settled_own k fl (Results m j pack buffers input) n each no' names = ap (λ z. if_accepted (option_map (note_row k fl (Results m j pack buffers input)) (row_for z each))) (sym (some_is m n names))
settled_own k fl _ n each no' names = refl

pub settled_reads : (k : ℕ) (fl : Bool) (e : HalEvent) (n : ℕ) (es : List (ℕ × Row)) → are_keyed es ≡ true → begins_request e ≡ false → frame_in e ≡ Some n → settled_of e (lookup (nat_eq n) (with_row (note_row k fl e) n es)) ≡ settled k fl e (values_of es)
settled_reads k fl e n es keyed no' names =
    ap (settled_of e) (found_noted (note_row k fl e) n es ∙ ap (option_map (note_row k fl e)) (row_reads n es keyed)) ∙ settled_own k fl e n (values_of es) no' names

settled_none : (k : ℕ) (fl : Bool) (e : HalEvent) (each : List Row) → frame_in e ≡ None → settled k fl e each ≡ None
settled_none k fl (RequestBegin m same ts a b) each none = absurd (cc)
settled_none k fl (RequestOk m) each none = absurd (cc)
settled_none k fl (Results m j pack buffers input) each none = absurd (cc)
settled_none k fl _ each none = refl

pub topped_none : (k : ℕ) (fl : Bool) (e : HalEvent) (each : List Row) (tops : Tops) → frame_in e ≡ None → IsTopped (settled k fl e each) tops tops
topped_none k fl e each tops none order = rw (settled_none k fl e each none) refl

pub topped_same : (x y : Option Row) (old new : Tops) → x ≡ y → IsTopped x old new → IsTopped y old new
topped_same x y old new is topped order = rw (← is) (topped order)
