-- The steps so far, and their text.
use Rattle.std.proofs.Common.{◌≡◌, ℕ, ◌+◌, ◌*◌, ◌/◌, ◌≤◌, List, [], ◌∷◌, ◌++◌, Option, Some, refl, sym, ap, ◌∙◌, arith, length, subst, IsTrue, append_assoc, codes}
use Rattle.std.proofs.lemmas.List.{append-nil}
use Rattle.cam_types.specs.declared.script.Script.{Script}
use Rattle.cam_types.specs.Script.{is_valid}
use Rattle.logical_call.specs.Both.{Both, camera, with_move}
use Rattle.logical_call.specs.Runs.{AreNamed, Deed, both_by, sides_by}
use Rattle.logical_call.specs.Turns.{AnswersStep, AreEntries, IsTurn, choice, pair_by}
use Rattle.logical_call.specs.declared.logical.LogicalStep.TheVariants.{Did}
use Rattle.logical_call.proofs.Joint.{entries-by, long-by, script-by}
use Rattle.logical_call.specs.declared.pair.Paired.{Paired}
use Rattle.run_model.specs.Bounds.{move_bound}
use Rattle.run_model.specs.Played.{pick_at}
use Rattle.run_model.proofs.Few.{few}
use Rattle.text_parts.specs.Lines.{line_text}
use Rattle.trace_model.specs.declared.entry.Entry.{Entry}
use Rattle.logical_call.specs.Lines.{lines_by, step_text}

abbrev pub front : List ℕ
front = line_text (codes "logical" ∷ codes "1" ∷ [])

-- the cameras have made so many of the steps that the picks name, and the text tells them
pub record RunsTo (script : Script) (both : Both) (made : ℕ) (text : List ℕ) : Type 0 where
  pub deeds : List Deed
  pub named : AreNamed script deeds
  pub many : length deeds ≡ made
  pub by : both ≡ both_by script deeds
  pub shown : text ≡ front ++ lines_by deeds

pub one-more : (script : Script) (both new : Both) (made : ℕ) (text longer : List ℕ) (c : ℕ) (entry : Option Entry) (pair : Option Paired) → RunsTo script both made text → AnswersStep both (pick_at script made) (Did c entry pair) new → longer ≡ text ++ step_text c entry pair → RunsTo script new (made + 1) longer
one-more script both new made text longer c entry pair so-far answer is =
    let deeds = so-far.deeds in
    let step = answer.1 in
    let d : Deed = record { camera = c; move = step.move } in
    let turn : IsTurn (both_by script deeds) (pick_at script (length deeds)) c = subst (λ (k : ℕ). IsTurn (both_by script deeds) (pick_at script k) c) (sym so-far.many) (subst (λ (b : Both). IsTurn b (pick_at script made) c) so-far.by answer.0) in
    let chosen : choice (camera c (both_by script deeds)) (pick_at script (length deeds) / 2) ≡ Some step.move = subst (λ (k : ℕ). choice (camera c (both_by script deeds)) (pick_at script k / 2) ≡ Some step.move) (sym so-far.many) (subst (λ (b : Both). choice (camera c b) (pick_at script made / 2) ≡ Some step.move) so-far.by step.chosen) in
    let are : AreEntries both (sides_by deeds) = subst (λ (b : Both). AreEntries b (sides_by deeds)) (sym so-far.by) (entries-by script deeds) in
    let told : step_text c entry pair ≡ step_text c step.move.entry (pair_by c step.move.entry (sides_by deeds)) = rw (step.paired (sides_by deeds) are, step.of) refl in
    record {
      deeds = d ∷ deeds;
      named = (record { turn = turn; chosen = chosen }, so-far.named);
      many = omega (arith, so-far.many);
      by = step.left ∙ ap (with_move c step.move) so-far.by;
      shown = is ∙ (ap (λ (t : List ℕ). t ++ step_text c entry pair) so-far.shown ∙ (append_assoc front (lines_by deeds) (step_text c entry pair) ∙ ap (λ (t : List ℕ). front ++ (lines_by deeds ++ t)) told));
    }

-- ---- how many there are

pub made-so-far : (script : Script) (both : Both) (made : ℕ) (text : List ℕ) → RunsTo script both made text → made ≡ length both.first + length both.second
made-so-far script both made text so-far =
    let long = long-by script so-far.deeds in
    let same : length both.first + length both.second ≡ length (both_by script so-far.deeds).first + length (both_by script so-far.deeds).second = ap (λ (b : Both). length b.first + length b.second) so-far.by in
    omega (arith, long, same, so-far.many)

pub few-made : (script : Script) (bound : ℕ) → IsTrue (is_valid script) → bound ≤ 2 * move_bound script → bound ≤ 4204550
few-made script bound valid within =
    let small = few script valid in
    omega (arith, within, small.frames, small.commands)

-- two puts, one behind the other
pub two-puts : (a b c x y : List ℕ) → b ≡ a ++ x → c ≡ b ++ y → c ≡ a ++ (x ++ y)
two-puts a b c x y first second = second ∙ (ap (λ (t : List ℕ). t ++ y) first ∙ append_assoc a x y)

-- the script is as it was
pub script-so-far : (script : Script) (both : Both) (made : ℕ) (text : List ℕ) → RunsTo script both made text → both.script ≡ script
script-so-far script both made text so-far = ap (λ (b : Both). b.script) so-far.by ∙ script-by script so-far.deeds
