-- What was seen begins what is left at the end.
use Rattle.std.proofs.Common.{◌≡◌, ℕ, List, ◌++◌, Option, reverse, sym, ap, ◌∙◌, subst}
use Rattle.std.proofs.lemmas.List.{reverse-append, reverse-reverse}
use mathlib.Core.List.{IsPrefix}
use Rattle.cam_types.specs.declared.profile.Profile.{Profile}
use Rattle.cam_types.specs.declared.script.Script.{Script}
use Rattle.io_edge.specs.States.{SinkState}
use Rattle.call_parts.specs.Answers.{Answers}
use Rattle.run_model.specs.State.{State}
use Rattle.run_model.specs.Lawful.{KeepsLaws}
use Rattle.run_model.specs.History.{trace_of}
use Rattle.run_model.specs.Run.{IsRun}
use Rattle.run_model.specs.declared.step.Move.{Move}
use Rattle.settle.specs.Stepping.{IsSettledBy}
use Rattle.trace_model.specs.Complete.{IsComplete}
use Rattle.trace_model.specs.declared.entry.Entry.{Entry}
use Rattle.trace_text.specs.Spelling.{spelling}
use Rattle.turn_lock.proofs.Beginnings.{begins_through}
use Rattle.run_calls.specs.Finished.{FinishesAs}

-- moves that are made later stand behind
pub later : (moves h : List Move) → IsPrefix (reverse h) (reverse (moves ++ h))
later moves h = (reverse moves, sym (reverse-append moves h))

-- what was settled is a whole run, which begins with the moves before
pub settled-ends : (named : Option Profile) (old new : State) (count status : ℕ) (before after : SinkState) → IsSettledBy old new count → IsRun new.script new.history → ((past : List Entry) → IsComplete old.script past → KeepsLaws old.script past) → Answers 0 (spelling named (reverse (trace_of new.history))) status before after
    → FinishesAs named old.script (reverse old.history) status before after
settled-ends named old new count status before after settled run law answers =
    let same : new.script ≡ old.script = ap (λ (s : State). s.script) settled.left in
    let complete : IsComplete old.script (trace_of new.history) = subst (λ (script : Script). IsComplete script (trace_of new.history)) same settled.complete in
    record {
      history = new.history;
      begins = subst (λ (s : State). IsPrefix (reverse old.history) (reverse s.history)) (sym settled.left) (later settled.moves old.history);
      whole = record {
        run = subst (λ (script : Script). IsRun script new.history) same run;
        complete = complete;
        lawful = law (trace_of new.history) complete;
      };
      answers = answers;
    }

-- what ends a service that was closed ends what its root had seen
pub ends-seen : (named : Option Profile) (script closed : Script) (first seen : List Move) (h : List Move) (status : ℕ) (before after : SinkState) → closed ≡ script → h ≡ reverse seen → IsPrefix first seen → FinishesAs named closed (reverse h) status before after
    → FinishesAs named script first status before after
ends-seen named script closed first seen h status before after same is begins ends =
    let back : reverse h ≡ seen = ap reverse is ∙ reverse-reverse seen in
    let from : IsPrefix seen (reverse ends.history) = subst (λ (l : List Move). IsPrefix l (reverse ends.history)) back ends.begins in
    subst (λ (s : Script). FinishesAs named s first status before after) same
    (record { history = ends.history; begins = begins_through first seen (reverse ends.history) begins from; whole = ends.whole; answers = ends.answers })
