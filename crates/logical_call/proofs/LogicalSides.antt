-- A step of either camera, and the frame that has ended in the second of the two by it.
use Rattle.std.proofs.Common.{◌≡◌, ◌↔◌, ℕ, Bool, List, ◌∷◌, Option, Some, None, refl, sym, ap, ◌∙◌, length, reverse, take, subst, IsTrue}
use Rattle.std.proofs.lemmas.List.{reverse-reverse}
use Rattle.cam_types.specs.declared.script.Script.{Script}
use Rattle.trace_model.specs.Complete.{IsComplete}
use Rattle.trace_model.specs.declared.entry.Entry.{Entry}
use Rattle.logical_call.specs.declared.pair.Paired.{Paired}
use Rattle.logical_call.specs.declared.pair.Side.{Side}
use Rattle.logical_call.specs.declared.pair.Side.TheVariants.{First, Second}
use Rattle.logical_call.specs.Orderless.{without_faults}
use Rattle.logical_call.specs.Pairs.{frame_of}
use Rattle.logical_call.specs.Sides.{first_part, paired_of, second_part}
use Rattle.run_model.specs.State.{State}
use Rattle.run_model.specs.History.{trace_of, with_entry}
use Rattle.logical_call.specs.Both.{Both, camera}
use Rattle.logical_call.specs.Pairing.{frame_after, pair_between}
use Rattle.logical_call.specs.Turns.{IsOver, IsTurn, MakesChoice, MakesStep, choice, pair_by}
use Rattle.logical_call.specs.Whose.{turn_of}
use Rattle.logical_call.specs.declared.turn.Turn.TheVariants as turn
use Rattle.logical_call.proofs.Stepping.{before-it}
use Rattle.logical_call.proofs.Turning.{turn-first, turn-second}

-- both cameras, as a contract sees them
abbrev pub view : State → State → Both
view f s = record { script = f.script; first = f.history; second = s.history }

-- ---- pairs

of-first : (e : Entry) (sides : List Side) (o : Option ℕ) → pair_between (first_part sides) (second_part sides) (e ∷ first_part sides) (second_part sides) o ≡ paired_of (First e) sides o
of-first e sides None = refl
of-first e sides (Some n) = refl

of-second : (e : Entry) (sides : List Side) (o : Option ℕ) → pair_between (first_part sides) (second_part sides) (first_part sides) (e ∷ second_part sides) o ≡ paired_of (Second e) sides o
of-second e sides None = refl
of-second e sides (Some n) = refl

pair-first : (past other : List Entry) (o : Option Entry) (sides : List Side) → first_part sides ≡ past → second_part sides ≡ other → pair_between past other (with_entry o past) other (frame_after past o) ≡ pair_by 0 o sides
pair-first past other None sides f s = refl
pair-first past other (Some e) sides f s = rw (← f, ← s) (of-first e sides (frame_of (first_part sides) e))

pair-second : (other past : List Entry) (o : Option Entry) (sides : List Side) → first_part sides ≡ other → second_part sides ≡ past → pair_between other past other (with_entry o past) (frame_after past o) ≡ pair_by 1 o sides
pair-second other past None sides f s = refl
pair-second other past (Some e) sides f s = rw (← f, ← s) (of-second e sides (frame_of (second_part sides) e))

-- ---- steps

-- the trace of the camera that makes a step, before it and with it
own-traces : (past grown : List Entry) (before now : List Entry) (o : Option Entry) → grown ≡ with_entry o past → before ≡ take (length (reverse past)) (reverse grown) → now ≡ reverse grown → (reverse before ≡ past) × (reverse now ≡ with_entry o past)
own-traces past grown before now o is hb hn =
    (ap reverse hb ∙ (ap (λ (t : List Entry). reverse (take (length (reverse past)) (reverse t))) is ∙ before-it o past), ap reverse hn ∙ (reverse-reverse grown ∙ is))

pub step-first : (f s f' : State) (number : ℕ) (entry : Option Entry) (pair : Option Paired) (before first second : List Entry) → MakesChoice f f' number entry → before ≡ take (length (reverse (trace_of f.history))) (reverse (trace_of f'.history)) → first ≡ reverse (trace_of f'.history) → second ≡ reverse (trace_of s.history) → pair ≡ pair_between (reverse before) (reverse second) (reverse first) (reverse second) (frame_after (reverse before) entry) → MakesStep 0 (view f s) (view f' s) number entry pair
step-first f s f' number entry pair before first second made hb hf hs is =
    let past = trace_of f.history in
    let o = made.move.entry in
    let own = own-traces past (trace_of f'.history) before first o (ap (λ (x : State). trace_of x.history) made.left) hb hf in
    let second-is : reverse second ≡ trace_of s.history = ap reverse hs ∙ reverse-reverse (trace_of s.history) in
    let whole : pair ≡ pair_between past (trace_of s.history) (with_entry o past) (trace_of s.history) (frame_after past o) = is ∙ rw (own.0, own.1, second-is, made.of) refl in
    record {
      move = made.move;
      chosen = made.chosen;
      left = ap (λ (x : State). view x s) made.left;
      of = made.of;
      paired = λ sides are. whole ∙ (pair-first past (trace_of s.history) o sides are.first are.second ∙ ap (λ (e : Option Entry). pair_by 0 e sides) (sym made.of));
    }

pub step-second : (f s s' : State) (number : ℕ) (entry : Option Entry) (pair : Option Paired) (before first second : List Entry) → s.script ≡ without_faults f.script → MakesChoice s s' number entry → before ≡ take (length (reverse (trace_of s.history))) (reverse (trace_of s'.history)) → first ≡ reverse (trace_of f.history) → second ≡ reverse (trace_of s'.history) → pair ≡ pair_between (reverse first) (reverse before) (reverse first) (reverse second) (frame_after (reverse before) entry) → MakesStep 1 (view f s) (view f s') number entry pair
step-second f s s' number entry pair before first second script made hb hf hs is =
    let past = trace_of s.history in
    let o = made.move.entry in
    let own = own-traces past (trace_of s'.history) before second o (ap (λ (x : State). trace_of x.history) made.left) hb hs in
    let first-is : reverse first ≡ trace_of f.history = ap reverse hf ∙ reverse-reverse (trace_of f.history) in
    let whole : pair ≡ pair_between (trace_of f.history) past (trace_of f.history) (with_entry o past) (frame_after past o) = is ∙ rw (own.0, first-is, own.1, made.of) refl in
    record {
      move = made.move;
      chosen = subst (λ (t : Script). choice (record { script = t; history = s.history }) number ≡ Some made.move) script made.chosen;
      left = ap (λ (x : State). view f x) made.left;
      of = made.of;
      paired = λ sides are. whole ∙ (pair-second (trace_of f.history) past o sides are.first are.second ∙ ap (λ (e : Option Entry). pair_by 1 e sides) (sym made.of));
    }

-- ---- whose turn it is, by which runs are complete

first-done : (f s : State) (b : Bool) → (IsTrue b ↔ IsComplete f.script (trace_of f.history)) → (IsTrue b ↔ IsOver (camera 0 (view f s)))
first-done f s b h = h

second-done : (f s : State) (b : Bool) → s.script ≡ without_faults f.script → (IsTrue b ↔ IsComplete s.script (trace_of s.history)) → (IsTrue b ↔ IsOver (camera 1 (view f s)))
second-done f s b script h = subst (λ (t : Script). IsTrue b ↔ IsComplete t (trace_of s.history)) script h

pub turns : (pick : ℕ) (f s : State) (both : Both) (a b : Bool) → view f s ≡ both → s.script ≡ without_faults f.script → (IsTrue a ↔ IsComplete f.script (trace_of f.history)) → (IsTrue b ↔ IsComplete s.script (trace_of s.history)) → (turn_of pick a b ≡ turn.First → IsTurn both pick 0) × (turn_of pick a b ≡ turn.Second → IsTurn both pick 1)
turns pick f s both a b is script first second =
    let f-done = first-done f s a first in
    let s-done = second-done f s b script second in
    let turns' : (turn_of pick a b ≡ turn.First → IsTurn (view f s) pick 0) × (turn_of pick a b ≡ turn.Second → IsTurn (view f s) pick 1) = (turn-first pick (view f s) a b f-done s-done, turn-second pick (view f s) a b f-done s-done) in
    subst (λ (v : Both). (turn_of pick a b ≡ turn.First → IsTurn v pick 0) × (turn_of pick a b ≡ turn.Second → IsTurn v pick 1)) is turns'
