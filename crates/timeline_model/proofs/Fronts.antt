-- A legal trace up to an entry, and as many drawings as entries.
use Rattle.std.proofs.Common.{◌≡◌, ℕ, suc, ◌<◌, List, [], ◌∷◌, ◌++◌, refl, sym, ap, ◌∙◌, arith, length, length-append, reverse, take, drop, get_or, subst}
use Rattle.std.proofs.Math.Seq.{take-suc}
use Rattle.std.proofs.lemmas.List.{length-reverse, length-take-le, reverse-append, take-append-drop}
use Rattle.cam_types.specs.declared.script.Script.{Script}
use Rattle.trace_model.specs.declared.entry.Entry.{Entry}
use Rattle.trace_model.specs.Legal.{IsLegal}
use Rattle.timeline_model.specs.Drawings.{all_drawn, drawn_of}

pub newest : {X : Type 0} (xs : List X) (i : ℕ) (d : X) → i < length xs → reverse (take (suc i) xs) ≡ get_or xs i d ∷ reverse (take i xs)
newest xs i d less = ap reverse (take-suc xs i d less) ∙ reverse-append (take i xs) (get_or xs i d ∷ [])

legal-after : (script : Script) (later past : List Entry) → IsLegal script (later ++ past) → IsLegal script past
legal-after script [] past legal = legal
legal-after script (e ∷ later) past legal = legal-after script later past legal.1

pub legal_before : (script : Script) (trace : List Entry) (p : ℕ) → IsLegal script (reverse trace) → IsLegal script (reverse (take p trace))
legal_before script trace p legal =
    let whole : reverse trace ≡ reverse (drop p trace) ++ reverse (take p trace) = ap reverse (sym (take-append-drop p trace)) ∙ reverse-append (take p trace) (drop p trace) in
    legal-after script (reverse (drop p trace)) (reverse (take p trace)) (subst (IsLegal script) whole legal)

-- the entry at a place is the newest of a legal past
pub legal_at : (script : Script) (trace : List Entry) (i : ℕ) (d : Entry) → i < length trace → IsLegal script (reverse trace) → IsLegal script (get_or trace i d ∷ reverse (take i trace))
legal_at script trace i d less legal = subst (IsLegal script) (newest trace i d less) (legal_before script trace (suc i) legal)

pub taken_length : {X : Type 0} (xs : List X) (i : ℕ) → i < length xs → length (reverse (take i xs)) ≡ i
taken_length xs i less = length-reverse (take i xs) ∙ length-take-le i xs (omega arith)

pub drawn_length : (script : Script) (past : List Entry) → length (all_drawn script past) ≡ length past
drawn_length script [] = refl
drawn_length script (e ∷ past) =
    let ih = drawn_length script past in
    length-append (all_drawn script past) (drawn_of script e past ∷ []) ∙ omega (arith, ih)
