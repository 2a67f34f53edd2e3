-- What a camera's step leaves and answers.
use denote.Bor.{Bor}
use Rattle.std.proofs.Common.{◌≡◌, ℕ, true, List, [], ◌∷◌, ◌++◌, Option, Some, None, refl, sym, ap, ◌∙◌, arith, length, get_or, slice_get, option_copied, is_some, ltb, reverse, take, IsTrue, IfSome}
use Rattle.std.specs.List.{list_all}
use Rattle.std.proofs.lemmas.Bool.{ltb-false, ltb-true}
use Rattle.std.proofs.lemmas.Grind.{reverse_onto}
use Rattle.std.proofs.lemmas.List.{reverse-reverse, take_at}
use Rattle.std.proofs.lemmas.Option.{slice_get_past, slice_get_read}
use Rattle.basic_lemmas.proofs.Lists.{all-at, all-reversed}
use Rattle.trace_model.specs.declared.entry.Entry.{Entry}
use Rattle.trace_model.specs.Printable.{is_printable}
use Rattle.run_model.specs.History.{trace_of, with_entry}
use Rattle.run_model.specs.Played.{move_at}
use Rattle.run_model.specs.Ready.{move_of}
use Rattle.run_model.specs.State.{State}
use Rattle.run_model.specs.declared.step.StepName.{StepName}
use Rattle.settle.specs.Stepping.{MakesPicked}
use Rattle.logical_call.specs.Turns.{MakesChoice}

-- ---- the entry that was added

-- what was there before it
pub before-it : (o : Option Entry) (past : List Entry) → reverse (take (length (reverse past)) (reverse (with_entry o past))) ≡ past
before-it None past = ap reverse (take_at' (reverse past)) ∙ reverse-reverse past
  where
    take_at' : (xs : List Entry) → take (length xs) xs ≡ xs
    take_at' [] = refl
    take_at' (x ∷ xs) = ap (λ (ys : List Entry). x ∷ ys) (take_at' xs)
before-it (Some e) past = ap (λ (xs : List Entry). reverse (take (length (reverse past)) xs)) (reverse_onto past e []) ∙ (ap reverse (take_at (reverse past) (e ∷ []) (length (reverse past)) refl) ∙ reverse-reverse past)

-- and the entry itself
behind : (xs : List Entry) (e : Entry) → slice_get (xs ++ e ∷ []) (length xs) ≡ Some e
behind [] e = refl
behind (x ∷ xs) e = behind xs e

added-it : (o : Option Entry) (past seen trace : List Entry) → seen ≡ reverse past → trace ≡ reverse (with_entry o past) → slice_get trace (length seen) ≡ o
added-it None past seen trace before now = rw (now, before) (slice_get_past (reverse past) (length (reverse past)) (omega arith))
added-it (Some e) past seen trace before now = rw (now, before) (ap (λ (xs : List Entry). slice_get xs (length (reverse past))) (reverse_onto past e []) ∙ behind (reverse past) e)

-- a candidate was made, and its entry stands where the trace has grown
pub made-choice : (old new : State) (number : ℕ) (step : StepName) (entry : Option Entry) (seen trace : List Entry) → MakesPicked old new number step → seen ≡ reverse (trace_of old.history) → trace ≡ reverse (trace_of new.history) → entry ≡ slice_get trace (length seen) → MakesChoice old new number entry
made-choice old new number step entry seen trace p before now is =
    let m = p.made.move in
    let grown : trace ≡ reverse (with_entry m.entry (trace_of old.history)) = now ∙ ap (λ (s : State). reverse (trace_of s.history)) p.made.made.left in
    record {
      move = m;
      chosen = ap (λ (o : Option StepName). move_at old.script old.history o) p.picked ∙ (ap (λ (k : StepName). move_of old.script old.history k) (sym p.made.of) ∙ p.made.made.ready);
      left = p.made.made.left;
      of = is ∙ added-it m.entry (trace_of old.history) seen trace before grown;
    }

pub has-line : (o : Option Entry) (past trace : List Entry) (i : ℕ) → list_all is_printable past ≡ true → trace ≡ reverse past → o ≡ slice_get trace i → IfSome o (λ e. IsTrue (is_printable e))
has-line None past trace i all now is = tt
has-line (Some e) past trace i all now is = all-at is_printable (reverse past) i e (all-reversed is_printable past all) (rw (← now) (sym is))

-- an entry that is lent from a trace
pub lent-at : (o : Option (Bor Entry)) (trace : List Entry) (i : ℕ) → is_some o ≡ ltb i (length trace) → IfSome o (λ e. e.now ≡ get_or trace i e.now) → option_copied o ≡ slice_get trace i
lent-at None trace i there at = sym (slice_get_past trace i (ltb-false _ _ (sym there)))
lent-at (Some e) trace i there at = sym (slice_get_read trace (length trace) i e.now refl (ltb-true _ _ (sym there)) at)
