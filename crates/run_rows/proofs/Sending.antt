-- The row of a frame that is sent is as the device wants it.
use Rattle.std.proofs.Common.{◌≡◌, ℕ, Bool, true, ◌&&◌, List, [], ◌∷◌, ◌++◌, Option, Some, None, refl, sym, ap, ◌∙◌, length}
use Rattle.std.specs.List.{list_all}
use Rattle.std.specs.Option.{option_map}
use Rattle.std.proofs.lemmas.Bool.{and_parts}
use Rattle.std.proofs.lemmas.List.Folds.{list_all-append}
use Rattle.run_rows.proofs.General.{filter-all}
use Rattle.cam_types.specs.Rows as view
use Rattle.cam_types.specs.declared.four.Four.{Four}
use Rattle.cam_types.specs.declared.item.Settings.{Settings}
use Rattle.cam_types.specs.declared.number.FrameNo.{FrameNo}
use Rattle.cam_types.specs.declared.number.RequestId.{RequestId}
use Rattle.cam_types.specs.declared.row.RowView.{RowView}
use Rattle.cam_types.specs.declared.script.Script.{Script}
use Rattle.trace_model.specs.declared.entry.Entry.{Entry}
use Rattle.trace_model.specs.declared.entry.Entry.TheVariants.{Send}
use Rattle.trace_model.specs.declared.entry.Sent.{Sent}
use Rattle.trace_model.specs.Configuration.{streams}
use Rattle.trace_model.specs.Queue.{next}
use Rattle.run_model.specs.declared.step.Move.{Move}
use Rattle.run_model.specs.declared.step.StepName.{StepName}
use Rattle.run_model.specs.History.{trace_of}
use Rattle.run_model.specs.Rows.{rows}
use Rattle.run_model.specs.Run.{IsRun}
use Rattle.device_rows.specs.Kept.{is_fresh, is_fresh_target}
use Rattle.run_model.proofs.Legal.{runs_legally}
use Rattle.state_facts.specs.Turns.{settings_next}
use Rattle.run_rows.specs.Changes.{fresh_row, fresh_target, fresh_targets}
use Rattle.run_rows.specs.Kept.{IsSound, has_some_target, has_streams, is_in_range}
use Rattle.run_rows.proofs.Counted.{range_is, streams_is, targets_is}
use Rattle.run_rows.proofs.Fours.{all-four, each_of}
use Rattle.run_rows.proofs.Fresh.{send-changed}
use Rattle.run_rows.proofs.Whole.{all-open, all-with}

fresh-one : (o : Option Sent) → each_of is_fresh_target (option_map fresh_target o) ≡ true
fresh-one None = refl
fresh-one (Some t) = refl

pub fresh_is : (settings : Settings) (n : FrameNo) (r : RequestId) (targets : Four Sent) → is_fresh (fresh_row settings n r targets) ≡ true
fresh_is settings n r targets =
    all-four is_fresh_target (fresh_targets targets) ∙ rw (fresh-one targets.a, fresh-one targets.b, fresh-one targets.c, fresh-one targets.d) refl

last-of : (q : RowView → Bool) (rows : List RowView) (row : RowView) → list_all q (rows ++ row ∷ []) ≡ true → q row ≡ true
last-of q rows row all =
    let both = and_parts (list_all q rows) (q row && true) (sym (list_all-append q rows (row ∷ [])) ∙ all) in
    (and_parts (q row) true both.1).0

-- what each row meets the new one meets
new-meets : (script : Script) (m : Move) (h : List Move) (n : FrameNo) (r : RequestId) (i : ℕ) (same : Bool) (targets : Four Sent) (q : RowView → Bool) → IsRun script (m ∷ h) → rows script (m ∷ h) ≡ rows script h ++ fresh_row (settings_next (next script (trace_of h))) n r targets ∷ [] → list_all q (rows script (m ∷ h)) ≡ true → q (fresh_row (settings_next (next script (trace_of h))) n r targets) ≡ true
new-meets script m h n r i same targets q run at all =
    last-of q (rows script h) (fresh_row (settings_next (next script (trace_of h))) n r targets) (ap (λ (rs : List RowView). list_all q rs) (sym at) ∙ all)

abbrev pub SendsSound : Script → List Move → StepName → Option Entry → Type 0
SendsSound script h step (Some (Send n r i same targets)) =
    IsRun script (record { step = step; entry = Some (Send n r i same targets) } ∷ h) → IsSound (length (streams script (trace_of h))) (fresh_row (settings_next (next script (trace_of h))) n r targets)
SendsSound script h step _ = Unit {0}

sound-by : (script : Script) (h : List Move) (step : StepName) (o : Option Entry) → SendsSound script h step o
sound-by script h step (Some (Send n r i same targets)) = λ run.
    let m : Move = record { step = step; entry = Some (Send n r i same targets) } in
    let at = send-changed script h step n r i same targets run ∙ filter-all view.is_open (rows script h ++ fresh_row (settings_next (next script (trace_of h))) n r targets ∷ []) (all-with (fresh_row (settings_next (next script (trace_of h))) n r targets) (rows script h) refl (all-open script h (runs_legally script h run.1))) in
    record {
      targets = new-meets script m h n r i same targets has_some_target run at (targets_is script (m ∷ h) run);
      streams_rise = new-meets script m h n r i same targets (has_streams (length (streams script (trace_of h)))) run at (streams_is script (m ∷ h) run);
      range = new-meets script m h n r i same targets is_in_range run at (range_is script (m ∷ h) run);
    }
sound-by script h step (Some _) = tt
sound-by script h step None = tt

pub sent_sound : (script : Script) (m : Move) (h : List Move) (n : FrameNo) (r : RequestId) (i : ℕ) (same : Bool) (targets : Four Sent) → IsRun script (m ∷ h) → m.entry ≡ Some (Send n r i same targets) → IsSound (length (streams script (trace_of h))) (fresh_row (settings_next (next script (trace_of h))) n r targets)
sent_sound script m h n r i same targets run at = by m.step m.entry at run
  where
    by : (step : StepName) (o : Option Entry) → o ≡ Some (Send n r i same targets) → IsRun script (record { step = step; entry = o } ∷ h) → IsSound (length (streams script (trace_of h))) (fresh_row (settings_next (next script (trace_of h))) n r targets)
    by step o at run' = let run'' = rw at at run' in sound-by script h step (Some (Send n r i same targets)) run''
