-- Joint runs: each camera's part, and how many deeds there are.
use Rattle.std.proofs.Common.{◌≡◌, ℕ, zero, suc, ◌+◌, ◌≤◌, ◌==◌, Bool, true, false, ◌&&◌, not, List, [], ◌∷◌, Option, Some, None, refl, sym, ap, ◌∙◌, arith, length, subst, IsTrue}
use Rattle.std.proofs.lemmas.Bool.{and_parts, false≢true}
use Rattle.cam_types.specs.declared.script.Script.{Script}
use Rattle.trace_model.specs.declared.entry.Entry.{Entry}
use Rattle.trace_model.specs.Complete.{IsComplete}
use Rattle.trace_model.specs.Legal.{IsLegal}
use Rattle.run_model.proofs.Legal.{runs_legally}
use Rattle.run_model.proofs.Moves.{moves_bounded}
use Rattle.logical_call.specs.declared.pair.Side.{Side}
use Rattle.logical_call.specs.Orderless.{is_orderless, without_faults}
use Rattle.logical_call.specs.Sides.{AreLegal, first_part, have_ended, second_part}
use Rattle.logical_call.proofs.Sides.{each_has_a_pair, pairs_follow}
use Rattle.logical_call.proofs.Steady.{faults_aside}
use Rattle.run_model.specs.declared.step.Move.{Move}
use Rattle.run_model.specs.Bounds.{move_bound}
use Rattle.run_model.specs.History.{trace_of, with_entry}
use Rattle.run_model.specs.Run.{IsRun}
use Rattle.logical_call.specs.Both.{Both, camera, with_move}
use Rattle.logical_call.specs.LogicalLaws.{EachItemHasOnePair, IsBounded, PairsFollowTheSecondEnd, RunsOfBoth, pair_at}
use Rattle.logical_call.specs.Runs.{AreNamed, Deed, both_by, sides_by, with_side}
use Rattle.logical_call.specs.Turns.{AreEntries, choice, pair_by, side}
use Rattle.logical_call.proofs.Choices.{choice-ready}

-- ---- one more move

pub script-with : (c : ℕ) (m : Move) (both : Both) → (with_move c m both).script ≡ both.script
script-with zero m both = refl
script-with (suc c) m both = refl

pub script-by : (script : Script) (deeds : List Deed) → (both_by script deeds).script ≡ script
script-by script [] = refl
script-by script (d ∷ deeds) = script-with d.camera d.move (both_by script deeds) ∙ script-by script deeds

abbrev pub AreBothRuns : Both → Type 0
AreBothRuns both = IsRun both.script both.first × IsRun (without_faults both.script) both.second

pub runs-with : (c : ℕ) (m : Move) (both : Both) (number : ℕ) → choice (camera c both) number ≡ Some m → AreBothRuns both → AreBothRuns (with_move c m both)
runs-with zero m both number chosen runs = ((choice-ready (camera 0 both) number m chosen, runs.0), runs.1)
runs-with (suc c) m both number chosen runs = (runs.0, (choice-ready (camera (suc c) both) number m chosen, runs.1))

pub runs-by : (script : Script) (deeds : List Deed) → AreNamed script deeds → AreBothRuns (both_by script deeds)
runs-by script [] named = (tt, tt)
runs-by script (d ∷ deeds) named = runs-with d.camera d.move (both_by script deeds) _ named.0.chosen (runs-by script deeds named.1)

-- ---- entries

own-first : (o : Option Entry) (sides : List Side) → first_part (with_side 0 o sides) ≡ with_entry o (first_part sides)
own-first None sides = refl
own-first (Some e) sides = refl

other-first : (c : ℕ) (o : Option Entry) (sides : List Side) → first_part (with_side (suc c) o sides) ≡ first_part sides
other-first c None sides = refl
other-first c (Some e) sides = refl

own-second : (c : ℕ) (o : Option Entry) (sides : List Side) → second_part (with_side (suc c) o sides) ≡ with_entry o (second_part sides)
own-second c None sides = refl
own-second c (Some e) sides = refl

other-second : (o : Option Entry) (sides : List Side) → second_part (with_side 0 o sides) ≡ second_part sides
other-second None sides = refl
other-second (Some e) sides = refl

pub entries-with : (c : ℕ) (m : Move) (both : Both) (sides : List Side) → AreEntries both sides → AreEntries (with_move c m both) (with_side c m.entry sides)
entries-with zero m both sides are = record {
  first = own-first m.entry sides ∙ ap (with_entry m.entry) are.first;
  second = other-second m.entry sides ∙ are.second;
}
entries-with (suc c) m both sides are = record {
  first = other-first c m.entry sides ∙ are.first;
  second = own-second c m.entry sides ∙ ap (with_entry m.entry) are.second;
}

pub entries-by : (script : Script) (deeds : List Deed) → AreEntries (both_by script deeds) (sides_by deeds)
entries-by script [] = record { first = refl; second = refl }
entries-by script (d ∷ deeds) = entries-with d.camera d.move (both_by script deeds) (sides_by deeds) (entries-by script deeds)

-- ---- runs of both

pub legal-by : (script : Script) (deeds : List Deed) → AreNamed script deeds → AreLegal script (without_faults script) (sides_by deeds)
legal-by script deeds named =
    let same = script-by script deeds in
    let runs = runs-by script deeds named in
    let are = entries-by script deeds in
    let first : IsRun script (both_by script deeds).first = subst (λ (s : Script). IsRun s (both_by script deeds).first) same runs.0 in
    let second : IsRun (without_faults script) (both_by script deeds).second = subst (λ (s : Script). IsRun (without_faults s) (both_by script deeds).second) same runs.1 in (
      subst (λ (past : List Entry). IsLegal script past) (sym are.first) (runs_legally script (both_by script deeds).first first),
      subst (λ (past : List Entry). IsLegal (without_faults script) past) (sym are.second) (runs_legally (without_faults script) (both_by script deeds).second second),
    )

pub runs_of_both : (script : Script) (deeds : List Deed) → RunsOfBoth script deeds
runs_of_both script deeds named =
    let same = script-by script deeds in
    let runs = runs-by script deeds named in
    record {
      first = subst (λ (s : Script). IsRun s (both_by script deeds).first) same runs.0;
      second = subst (λ (s : Script). IsRun (without_faults s) (both_by script deeds).second) same runs.1;
      entries = entries-by script deeds;
      legal = legal-by script deeds named;
    }

-- ---- how many deeds there are

long-with : (c : ℕ) (m : Move) (both : Both) → length (with_move c m both).first + length (with_move c m both).second ≡ 1 + (length both.first + length both.second)
long-with zero m both = omega arith
long-with (suc c) m both = omega arith

pub long-by : (script : Script) (deeds : List Deed) → length deeds ≡ length (both_by script deeds).first + length (both_by script deeds).second
long-by script [] = refl
long-by script (d ∷ deeds) =
    let ih = long-by script deeds in
    let more = long-with d.camera d.move (both_by script deeds) in
    omega (arith, ih, more)

pub is_bounded : (script : Script) (deeds : List Deed) → IsBounded script deeds
is_bounded script deeds named =
    let both = runs_of_both script deeds named in
    let first = moves_bounded script (both_by script deeds).first both.first in
    let second : length (both_by script deeds).second ≤ move_bound script = moves_bounded (without_faults script) (both_by script deeds).second both.second in
    let long = long-by script deeds in
    omega (arith, first, second, long)

-- ---- pairs

not-twice : (b : Bool) → (b && not b) ≡ true → ⊥
not-twice true h = false≢true h
not-twice false h = false≢true h

follows : (script : Script) (c : ℕ) (o : Option Entry) (sides : List Side) (n : ℕ) → AreLegal script (without_faults script) (with_side c o sides) → (have_ended n (with_side c o sides) && not (have_ended n sides)) ≡ true → pair_by c o sides ≡ Some (pair_at n (with_side c o sides))
follows script c None sides n legal ends = absurd (not-twice (have_ended n sides) ends)
follows script c (Some e) sides n legal ends = pairs_follow script (without_faults script) sides (side c e) n legal ends

pub pairs_follow_the_second_end : (script : Script) (deeds : List Deed) → PairsFollowTheSecondEnd script deeds
pairs_follow_the_second_end script deeds d named n ends = follows script d.camera d.move.entry (sides_by deeds) n (legal-by script (d ∷ deeds) named) ends

pub each_item_has_one_pair : (script : Script) (deeds : List Deed) → EachItemHasOnePair script deeds
each_item_has_one_pair script deeds logical run n =
    let same = script-by script deeds in
    let are = entries-by script deeds in
    let twins = faults_aside script in
    let orderless : IsTrue (is_orderless script) = (and_parts (not script.early) (is_orderless script) (and_parts (script.version == 1) (not script.early && is_orderless script) logical).1).1 in
    let first : IsComplete script (first_part (sides_by deeds)) = subst (λ (past : List Entry). IsComplete script past) (sym are.first) (subst (λ (s : Script). IsComplete s (trace_of (both_by script deeds).first)) same run.first) in
    let second : IsComplete (without_faults script) (second_part (sides_by deeds)) = subst (λ (past : List Entry). IsComplete (without_faults script) past) (sym are.second) (subst (λ (s : Script). IsComplete (without_faults s) (trace_of (both_by script deeds).second)) same run.second) in
    each_has_a_pair script (without_faults script) (sides_by deeds) twins.0 orderless (twins.1 orderless) first second n
