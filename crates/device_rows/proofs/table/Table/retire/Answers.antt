use Rattle.std.proofs.Common.{◌≡◌, ◌∙◌, ℕ, zero, suc, ◌<◌, List, [], ◌∷◌, length, get_or, true, false, refl, sym, arith}
use Rattle.std.proofs.lemmas.List.Edits.{length-remove}
use Rattle.device_rows.specs.TableRows.{is_cleared, passes, row_of, without}
use Rattle.device_rows.proofs.Places.{absent, cond-false, cond-true, kept-remove, passes-is, passes-none, present, same-rows}
use Rattle.device_rows.proofs.Within.{within}
use Rattle.device_rows.proofs.table.Table.retire.Goals as goal

pub returns-in_default-clause-value : goal.returns-in_default-clause-value
returns-in_default-clause-value g c =
    let gone = absent c.args.frame.0 c.self.inside.rows.items c.deref.result.now c.place_of.result c.deref.ensures.value c.place_of.ensures c.in_default.is in
    rw (← c.self.view_is) (passes-none is_cleared (row_of c.args.frame.0 c.self.inside.rows.items) gone.found)

pub returns-in_default-clause-left : goal.returns-in_default-clause-left
returns-in_default-clause-left g c =
    let gone = absent c.args.frame.0 c.self.inside.rows.items c.deref.result.now c.place_of.result c.deref.ensures.value c.place_of.ensures c.in_default.is in
    rw (← c.self.view_is) (same-rows c.self.inside.capacity _ _ (cond-false (passes is_cleared (row_of c.args.frame.0 c.self.inside.rows.items)) (without c.args.frame.0 c.self.inside.rows.items) c.self.inside.rows.items c.self.inside.rows.items (passes-none is_cleared (row_of c.args.frame.0 c.self.inside.rows.items) gone.found) refl))

pub returns-then-not-is_cleared-clause-value : goal.returns-then-not-is_cleared-clause-value
returns-then-not-is_cleared-clause-value g c =
    let there = present c.args.frame.0 c.self.inside.rows.items c.deref.result.now c.place_of.result c.in-Some.place c.index-row.result.now c.deref.ensures.value c.place_of.ensures c.in-Some.is c.index-row.ensures c.self.invariant.ordered in
    rw (← c.self.view_is) (passes-is is_cleared (row_of c.args.frame.0 c.self.inside.rows.items) c.index-row.result.now false there.found (sym c.is_cleared.ensures ∙ c.if-not-is_cleared.true))

pub returns-then-not-is_cleared-clause-left : goal.returns-then-not-is_cleared-clause-left
returns-then-not-is_cleared-clause-left g c =
    let there = present c.args.frame.0 c.self.inside.rows.items c.deref.result.now c.place_of.result c.in-Some.place c.index-row.result.now c.deref.ensures.value c.place_of.ensures c.in-Some.is c.index-row.ensures c.self.invariant.ordered in
    rw (← c.self.view_is) (same-rows c.self.inside.capacity _ _ (cond-false (passes is_cleared (row_of c.args.frame.0 c.self.inside.rows.items)) (without c.args.frame.0 c.self.inside.rows.items) c.self.inside.rows.items c.self.inside.rows.items (passes-is is_cleared (row_of c.args.frame.0 c.self.inside.rows.items) c.index-row.result.now false there.found (sym c.is_cleared.ensures ∙ c.if-not-is_cleared.true)) refl))

same-item : {X : Type 0} (xs : List X) (i : ℕ) (x y : X) → i < length xs → x ≡ get_or xs i x → y ≡ get_or xs i y → x ≡ y
same-item [] i x y within a b = absurd (omega arith)
same-item (z ∷ xs) zero x y within a b = a ∙ sym b
same-item (z ∷ xs) (suc i) x y within a b = same-item xs i x y (omega arith) a b

pub discard-requires : goal.discard-requires
discard-requires g c =
    let there = present c.args.frame.0 c.self.inside.rows.items c.deref.result.now c.place_of.result c.in-Some.place c.index-row.result.now c.deref.ensures.value c.place_of.ensures c.in-Some.is c.index-row.ensures c.self.invariant.ordered in
    let same = same-item c.self.inside.rows.items c.in-Some.place c.remove.result c.index-row.result.now there.within c.remove.ensures.value c.index-row.ensures in
    rw same (sym c.is_cleared.ensures ∙ c.if-not-is_cleared.false)

pub returns-clause-fewer : goal.returns-clause-fewer
returns-clause-fewer g c =
    let there = present c.args.frame.0 c.self.inside.rows.items c.deref.result.now c.place_of.result c.in-Some.place c.index-row.result.now c.deref.ensures.value c.place_of.ensures c.in-Some.is c.index-row.ensures c.self.invariant.ordered in
    rw (← c.self.view_is, c.remove.ensures.items) (λ _. length-remove c.self.inside.rows.items c.in-Some.place there.within)

pub invariant_of-self : goal.invariant_of-self
invariant_of-self g c =
    let there = present c.args.frame.0 c.self.inside.rows.items c.deref.result.now c.place_of.result c.in-Some.place c.index-row.result.now c.deref.ensures.value c.place_of.ensures c.in-Some.is c.index-row.ensures c.self.invariant.ordered in
    kept-remove c.self.inside.rows.items c.remove.new.self.items c.in-Some.place _ _ _ c.self.invariant c.remove.ensures.capacity there.within c.remove.ensures.items

pub returns-clause-value : goal.returns-clause-value
returns-clause-value g c =
    let there = present c.args.frame.0 c.self.inside.rows.items c.deref.result.now c.place_of.result c.in-Some.place c.index-row.result.now c.deref.ensures.value c.place_of.ensures c.in-Some.is c.index-row.ensures c.self.invariant.ordered in
    rw (← c.self.view_is) (passes-is is_cleared (row_of c.args.frame.0 c.self.inside.rows.items) c.index-row.result.now true there.found (sym c.is_cleared.ensures ∙ c.if-not-is_cleared.false))

pub returns-clause-left : goal.returns-clause-left
returns-clause-left g c =
    let there = present c.args.frame.0 c.self.inside.rows.items c.deref.result.now c.place_of.result c.in-Some.place c.index-row.result.now c.deref.ensures.value c.place_of.ensures c.in-Some.is c.index-row.ensures c.self.invariant.ordered in
    rw (← c.self.view_is) (same-rows c.self.inside.capacity _ _ (cond-true (passes is_cleared (row_of c.args.frame.0 c.self.inside.rows.items)) (without c.args.frame.0 c.self.inside.rows.items) c.self.inside.rows.items c.remove.new.self.items (passes-is is_cleared (row_of c.args.frame.0 c.self.inside.rows.items) c.index-row.result.now true there.found (sym c.is_cleared.ensures ∙ c.if-not-is_cleared.false)) (c.remove.ensures.items ∙ sym there.gone)))

pub index-row-requires : goal.index-row-requires
index-row-requires g c =
    let low = within c.args.frame.0 c.deref.result.now c.place_of.result c.in-Some.place c.place_of.ensures c.in-Some.is in
    omega (arith, low, c.deref.ensures.len)

pub returns-in_default-clause-fewer : goal.returns-in_default-clause-fewer
returns-in_default-clause-fewer g c = λ h. absurd (cc h)

pub returns-then-not-is_cleared-clause-fewer : goal.returns-then-not-is_cleared-clause-fewer
returns-then-not-is_cleared-clause-fewer g c = λ h. absurd (cc h)

pub remove-requires : goal.remove-requires
remove-requires g c =
    let low = within c.args.frame.0 c.deref.result.now c.place_of.result c.in-Some.place c.place_of.ensures c.in-Some.is in
    omega (arith, low, c.deref.ensures.len)
