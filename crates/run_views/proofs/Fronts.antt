-- The entries that are drawn are legal, and each has a line.
use Rattle.std.proofs.Common.{◌≡◌, ℕ, zero, suc, ◌<◌, ◌≤◌, Bool, true, List, [], ◌∷◌, ◌++◌, Option, Some, None, refl, ap, ◌∙◌, arith, length, reverse, take, slice_get, IfSome, IsTrue}
use Rattle.std.specs.List.{list_all}
use Rattle.std.proofs.lemmas.Bool.{and_from, and_parts}
use Rattle.std.proofs.lemmas.List.{reverse-append}
use Rattle.std.proofs.lemmas.List.Folds.{list_all-append}
use Rattle.cam_types.specs.declared.script.Script.{Script}
use Rattle.trace_model.specs.Verdict.{IsVerdict}
use Rattle.trace_model.specs.declared.verdict.Verdict.{Verdict}
use Rattle.trace_model.specs.declared.verdict.Verdict.TheVariants.{Legal, IllegalAt, Incomplete}
use Rattle.trace_model.specs.declared.entry.Entry.{Entry}
use Rattle.trace_model.specs.Allowed.{IsAllowed}
use Rattle.trace_model.specs.Legal.{IsLegal}
use Rattle.trace_model.specs.Printable.{is_printable}
use Rattle.timeline_model.specs.Drawings.{all_drawn, drawn_of}
use Rattle.timeline_model.specs.declared.drawn.Drawn.{Drawn}
use Rattle.run_views.specs.Fronts.{fault_in, front}
use Rattle.basic_lemmas.proofs.Lists.{all-reversed, all-taken}

pub front_legal : (script : Script) (entries : List Entry) (v : Verdict) → IsVerdict script entries v → IsLegal script (reverse (front entries v))
front_legal script entries Legal judged = judged.legal
front_legal script entries (IllegalAt p rule) judged = judged.before
front_legal script entries (Incomplete part) judged = judged.legal

front_prints : (entries : List Entry) (v : Verdict) → list_all is_printable entries ≡ true → list_all is_printable (front entries v) ≡ true
front_prints entries Legal h = h
front_prints entries (IllegalAt p rule) h = all-taken is_printable p entries h
front_prints entries (Incomplete part) h = h

drawn_prints : (script : Script) (past : List Entry) → list_all is_printable past ≡ true → list_all (λ (one : Drawn). is_printable one.entry) (all_drawn script past) ≡ true
drawn_prints script [] h = refl
drawn_prints script (e ∷ past) h =
    let parts = and_parts (is_printable e) (list_all is_printable past) h in
    rw (list_all-append (λ (one : Drawn). is_printable one.entry) (all_drawn script past) (drawn_of script e past ∷ []), drawn_prints script past parts.1, parts.0) refl

pub all_print : (script : Script) (entries : List Entry) (v : Verdict) → list_all is_printable entries ≡ true → list_all (λ (one : Drawn). is_printable one.entry) (all_drawn script (reverse (front entries v))) ≡ true
all_print script entries v h = drawn_prints script (reverse (front entries v)) (all-reversed is_printable (front entries v) (front_prints entries v h))

one_prints : (entries : List Entry) (p : ℕ) → list_all is_printable entries ≡ true → IfSome (slice_get entries p) (λ e. IsTrue (is_printable e))
one_prints [] p h = tt
one_prints (e ∷ entries) zero h = (and_parts (is_printable e) (list_all is_printable entries) h).0
one_prints (e ∷ entries) (suc p) h = one_prints entries p (and_parts (is_printable e) (list_all is_printable entries) h).1

pub fault_prints : (entries : List Entry) (v : Verdict) → list_all is_printable entries ≡ true → IfSome (fault_in entries v) (λ e. IsTrue (is_printable e))
fault_prints entries Legal h = tt
fault_prints entries (IllegalAt p rule) h = one_prints entries p h
fault_prints entries (Incomplete part) h = tt

-- the entry that a verdict names isn't allowed behind those before it
pub fault_refused : (script : Script) (entries : List Entry) (v : Verdict) → IsVerdict script entries v → IfSome (fault_in entries v) (λ e. IsAllowed script (reverse (front entries v)) e → ⊥)
fault_refused script entries Legal judged = tt
fault_refused script entries (IllegalAt p rule) judged = rw judged.at judged.refused
fault_refused script entries (Incomplete part) judged = tt

taken-length : {X : Type 0} (n : ℕ) (xs : List X) → length (take n xs) ≤ length xs
taken-length zero [] = omega arith
taken-length (suc n) [] = omega arith
taken-length zero (x ∷ xs) = omega arith
taken-length (suc n) (x ∷ xs) = let ih = taken-length n xs in omega (arith, ih)

pub front_length : (entries : List Entry) (v : Verdict) → length (front entries v) ≤ length entries
front_length entries Legal = omega arith
front_length entries (IllegalAt p rule) = taken-length p entries
front_length entries (Incomplete part) = omega arith
