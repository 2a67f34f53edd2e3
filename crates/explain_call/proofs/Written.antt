-- Lines of entries that are written one after the other.
use Rattle.std.proofs.Common.{◌≡◌, ◌∙◌, ◌≤◌, ℕ, ◌+◌, ◌-◌, true, List, [], ◌∷◌, ◌++◌, append_assoc, ap, arith, drop, get_or, length, subst, sym, take}
use Rattle.std.specs.List.{list_all}
use Rattle.std.proofs.lemmas.Bool.{and_parts}
use Rattle.std.proofs.lemmas.List.{take_all}
use Rattle.trace_model.specs.Printable.{is_printable}
use Rattle.trace_model.specs.declared.entry.Entry.{Entry}

-- the entries behind the first
abbrev pub others : List Entry → List Entry
others entries = take (length entries - 1) (drop 1 entries)

first-and-others : (entries : List Entry) (d : Entry) → 1 ≤ length entries → entries ≡ get_or entries 0 d ∷ others entries
first-and-others [] d some = absurd (omega (arith, some))
first-and-others (e ∷ entries) d some = ap (λ l. e ∷ l) (sym (take_all (length (e ∷ entries) - 1) entries (omega arith)))

-- where the line of the first is written, those of the others are left
pub written_one : (lines : ℕ → List Entry → List ℕ) (line : List ℕ) (n most : ℕ) (d : Entry) (rest : List Entry) (text grown whole : List ℕ) → 1 ≤ length rest → lines n (get_or rest 0 d ∷ others rest) ≡ line ++ lines (n + 1) (others rest) → grown ≡ text ++ line → text ++ lines n rest ≡ whole → list_all is_printable rest ≡ true → n + length rest ≤ most → (grown ++ lines (n + 1) (others rest) ≡ whole) × (list_all is_printable (others rest) ≡ true) × (n + 1 + length (others rest) ≤ most)
written_one lines line n most d rest text grown whole some step more so_far printable fits =
    let cut = first-and-others rest d some in
    let left = lines (n + 1) (others rest) in (
      ap (λ l. l ++ left) more
          ∙ (append_assoc text line left ∙ (ap (λ l. text ++ l) (sym step) ∙ (ap (λ l. text ++ lines n l) (sym cut) ∙ so_far))),
      (and_parts (is_printable (get_or rest 0 d)) (list_all is_printable (others rest)) (subst (λ l. list_all is_printable l ≡ true) cut printable)).1,
      omega (arith, fits, ap length cut),
    )
