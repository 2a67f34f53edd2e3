-- What a form's call says is what is said of the words that have the form.
use Rattle.std.proofs.Common.{◌≡◌, ◌≢◌, ◌≤◌, ℕ, true, false, List, Option, Some, None, IfSome, ◌⊎◌, inl, inr, refl, sym, arith, subst}
use Rattle.std.proofs.lemmas.Bool.{false≢true}
use Rattle.std.specs.Prelude.{is_some}
use Rattle.io_edge.specs.States.{SinkState, Writes}
use Rattle.text_parts.specs.declared.form.Form.{Form}
use Rattle.text_parts.specs.declared.form.Form.TheVariants.{Play, Run, Check, Convert, Gen, Arbiter, Auto, Logical, Reprocess, Help}
use Rattle.call_parts.specs.declared.output.Output.TheVariants.{Summary}
use Rattle.call_parts.specs.Answers.{Answers, TellsBy}
use Rattle.call_parts.specs.Ends.{CountsSink, CountsSource, KeepsEnds, ReadsBy}
use Rattle.call_parts.proofs.Sinks.{answered, stays}
use Rattle.play_calls.specs.Generated.{generated}
use Rattle.arbiter_call.specs.Arbitrates.{IsArbitrated}
use Rattle.auto_call.specs.Auto.{IsCaptured}
use Rattle.play_calls.specs.Converting.{IsConverted}
use Rattle.play_calls.specs.Judging.{IsJudgedLegal}
use Rattle.play_calls.specs.Says.{IsWhole, IsWholeRun, SaysOfSeed}
use Rattle.logical_call.specs.Logical.{IsLogicalWhole}
use Rattle.reprocess_call.specs.Reprocess.{IsReprocessed}
use Rattle.run_calls.specs.Running.{IsRunWhole}
use Rattle.camera_top.specs.Commands.{TellsOf}
use Rattle.camera_top.specs.Does.{Does, IsDone, IsRead}
use Rattle.camera_top.specs.Help.{help_text, usage_line}
use Rattle.camera_top.specs.Words.{limit_of}

-- what `camera_main` says, clause by clause
abbrev Says : Option Form → ℕ → Option (List ℕ) → Option (List ℕ) → ℕ → ℕ → SinkState → SinkState → Type 0
Says form status from to faults_before faults_after before after = record {
  tells : TellsOf form from status before after;
  usage_only : status ≡ 2 → form ≡ None;
  help_done : form ≡ Some Help → status ≡ 0 → Writes before after help_text;
  play_done : form ≡ Some Play → status ≡ 0 → IsRead (λ input. IsWhole input before after) from to;
  run_done : (workers : ℕ) → form ≡ Some (Run workers) → status ≡ 0 → IsRead (λ input. IsRunWhole input before after) from to;
  gen_done : (seed count : ℕ) → form ≡ Some (Gen seed count) → status ≡ 0 → IsWholeRun Summary (generated seed count) before after;
  check_done : form ≡ Some Check → status ≡ 0 → IsRead (λ input. IsJudgedLegal input before after) from to;
  convert_done : form ≡ Some Convert → status ≡ 0 → IsRead (λ input. IsConverted input before after) from to;
  arbiter_done : form ≡ Some Arbiter → status ≡ 0 → IsRead (λ input. IsArbitrated input before after) from to;
  auto_done : form ≡ Some Auto → status ≡ 0 → IsRead (λ input. IsCaptured input before after) from to;
  logical_done : form ≡ Some Logical → status ≡ 0 → IsRead (λ input. IsLogicalWhole input before after) from to;
  reprocess_done : form ≡ Some Reprocess → status ≡ 0 → IsRead (λ input. IsReprocessed input before after) from to;
  done_form : status ≡ 0 → is_some form ≡ true;
  unread : is_some (limit_of form) ≡ false → (to ≡ from) × (faults_after ≡ faults_before) × (status ≢ 1) × (status ≢ 3);
  source : CountsSource status faults_before faults_after;
  sink : CountsSink status before after;
  read : IfSome (limit_of form) (λ limit. ReadsBy limit status from to);
  known : status ≤ 5;
}

-- where something was done, there was a form
some-form : (form : Option Form) (from to : Option (List ℕ)) (before after : SinkState) → IsDone form from to before after → is_some form ≡ true
some-form (Some form) from to before after done = refl
some-form None from to before after done = absurd done

clauses : (form : Option Form) (status : ℕ) (from to : Option (List ℕ)) (faults_before faults_after : ℕ) (before after : SinkState) → Does form status from to faults_before faults_after before after → Says form status from to faults_before faults_after before after
clauses form status from to faults_before faults_after before after does =
    let of = λ (f : Option Form) (is : form ≡ f) (zero' : status ≡ 0). subst (λ (some : Option Form). IsDone some from to before after) is (does.done zero') in
    record {
      tells = does.tells;
      usage_only = does.usage_only;
      help_done = of (Some Help);
      play_done = of (Some Play);
      run_done = λ workers. of (Some (Run workers));
      gen_done = λ seed count. of (Some (Gen seed count));
      check_done = of (Some Check);
      convert_done = of (Some Convert);
      arbiter_done = of (Some Arbiter);
      auto_done = of (Some Auto);
      logical_done = of (Some Logical);
      reprocess_done = of (Some Reprocess);
      done_form = λ zero'. some-form form from to before after (does.done zero');
      unread = does.unread;
      source = does.source;
      sink = does.sink;
      read = does.read;
      known = does.known;
    }

-- what is done of a form is said of the words that have it
pub says : (told form : Option Form) (status : ℕ) (from to : Option (List ℕ)) (faults_before faults_after : ℕ) (before after : SinkState) → told ≡ form → Does told status from to faults_before faults_after before after → Says form status from to faults_before faults_after before after
says told form status from to faults_before faults_after before after is does =
    subst (λ (f : Option Form). Says f status from to faults_before faults_after before after) is (clauses told status from to faults_before faults_after before after does)

-- a form that reads
pub reading : (form wanted : Form) (limit status : ℕ) (from to : Option (List ℕ)) (faults_before faults_after : ℕ) (before after : SinkState) → form ≡ wanted → limit_of (Some wanted) ≡ Some limit → TellsOf (Some wanted) from status before after → (status ≡ 0 → IsDone (Some wanted) from to before after) → KeepsEnds limit status faults_before faults_after from to before after → Does (Some form) status from to faults_before faults_after before after
reading form wanted limit status from to faults_before faults_after before after is reads tells done ends =
    subst (λ (f : Form). Does (Some f) status from to faults_before faults_after before after) (sym is)
    (record {
      tells = tells;
      usage_only = λ usage. absurd (ends.no_usage usage);
      done = done;
      unread = λ none. absurd (false≢true (sym (rw reads at none)));
      source = ends.source;
      sink = ends.sink;
      read = rw reads ends.read;
      known = ends.known;
    })

-- what a status is not where nothing is read
abbrev IsQuiet : ℕ → Type 0
IsQuiet status = (status ≢ 1) × (status ≢ 3) × (status ≤ 5)

-- a form that reads nothing, or words of no form
telling : (form : Option Form) (status : ℕ) (from : Option (List ℕ)) (faults : ℕ) (before after : SinkState) → limit_of form ≡ None → TellsOf form from status before after → (status ≡ 2 → form ≡ None) → (status ≡ 0 → IsDone form from from before after) → CountsSink status before after → IsQuiet status → Does form status from from faults faults before after
telling form status from faults before after unread tells usage done sink quiet' =
    record {
      tells = tells;
      usage_only = usage;
      done = done;
      unread = λ _. (refl, refl, quiet'.0, quiet'.1);
      source = stays status faults faults quiet'.1 refl;
      sink = sink;
      read = rw unread tt;
      known = quiet'.2;
    }

-- ---- the forms that read nothing

quiet : (status : ℕ) → (status ≡ 0) ⊎ ((status ≡ 4) ⊎ (status ≡ 5)) → IsQuiet status × (status ≢ 2)
quiet status (inl h) = ((λ e. absurd (omega (arith, h, e)), λ e. absurd (omega (arith, h, e)), omega (arith, h)), λ e. absurd (omega (arith, h, e)))
quiet status (inr (inl h)) = ((λ e. absurd (omega (arith, h, e)), λ e. absurd (omega (arith, h, e)), omega (arith, h)), λ e. absurd (omega (arith, h, e)))
quiet status (inr (inr h)) = ((λ e. absurd (omega (arith, h, e)), λ e. absurd (omega (arith, h, e)), omega (arith, h)), λ e. absurd (omega (arith, h, e)))

pub generating : (form : Form) (seed count status : ℕ) (from : Option (List ℕ)) (faults : ℕ) (before after : SinkState) → form ≡ Gen seed count → TellsBy (SaysOfSeed seed count) status before after → (status ≡ 0 → IsWholeRun Summary (generated seed count) before after) → CountsSink status before after → (status ≡ 0) ⊎ ((status ≡ 4) ⊎ (status ≡ 5)) → Does (Some form) status from from faults faults before after
generating form seed count status from faults before after is tells whole sink known =
    let calm = quiet status known in
    subst (λ (f : Form). Does (Some f) status from from faults faults before after) (sym is)
    (telling (Some (Gen seed count)) status from faults before after refl tells (λ two. absurd (calm.1 two)) whole sink calm.0)

helped : (status : ℕ) (from : Option (List ℕ)) (faults : ℕ) (before after : SinkState) → Answers 0 help_text status before after → Does (Some Help) status from from faults faults before after
helped status from faults before after (inl h) =
    telling (Some Help) status from faults before after refl (inl h) (λ two. absurd (omega (arith, h.0, two))) (λ _. h.1.0)
    (answered 0 help_text status before after (omega arith) (inl h)) (quiet status (inl h.0)).0
helped status from faults before after (inr h) =
    telling (Some Help) status from faults before after refl (inr h) (λ two. absurd (omega (arith, h.0, two))) (λ zero'. absurd (omega (arith, h.0, zero')))
    (answered 0 help_text status before after (omega arith) (inr h)) (quiet status (inr (inl h.0))).0

pub helping : (form : Form) (status : ℕ) (from : Option (List ℕ)) (faults : ℕ) (before after : SinkState) → form ≡ Help → Answers 0 help_text status before after → Does (Some form) status from from faults faults before after
helping form status from faults before after is answers =
    subst (λ (f : Form). Does (Some f) status from from faults faults before after) (sym is) (helped status from faults before after answers)

pub refusing : (status : ℕ) (from : Option (List ℕ)) (faults : ℕ) (before after : SinkState) → Answers 2 usage_line status before after → Does None status from from faults faults before after
refusing status from faults before after (inl h) =
    telling None status from faults before after refl (inl h) (λ _. refl) (λ zero'. absurd (omega (arith, h.0, zero')))
    (answered 2 usage_line status before after (omega arith) (inl h)) (λ e. absurd (omega (arith, h.0, e)), λ e. absurd (omega (arith, h.0, e)), omega (arith, h.0))
refusing status from faults before after (inr h) =
    telling None status from faults before after refl (inr h) (λ _. refl) (λ zero'. absurd (omega (arith, h.0, zero')))
    (answered 2 usage_line status before after (omega arith) (inr h)) (quiet status (inr (inl h.0))).0
