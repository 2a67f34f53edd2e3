-- What a tool's call says is what is said of the words that ask for the tool.
use Rattle.std.proofs.Common.{◌≡◌, ◌≢◌, ◌≤◌, ◌⊎◌, ℕ, true, false, List, Option, Some, None, IfSome, inl, inr, refl, sym, ap, ◌∙◌, arith, subst}
use Rattle.std.proofs.lemmas.Bool.{false≢true}
use Rattle.std.specs.Prelude.{is_some}
use Rattle.std.specs.Io.KnownBytes.{IsAtEnd}
use Rattle.io_edge.specs.States.{SinkState, Writes}
use Rattle.call_parts.specs.Answers.{Answers, OnDone}
use Rattle.call_parts.specs.Ends.{CountsSink, CountsSource, KeepsEnds, ReadsBy}
use Rattle.call_parts.proofs.Sinks.{answered, stays}
use Rattle.tools_top.specs.Commands.{IsDone, TellsOfTool}
use Rattle.tools_top.specs.Help.{help_text, usage_line}
use Rattle.tools_top.specs.Words.{limit_of}
use Rattle.tools_top.specs.declared.tool.Tool.{Tool}
use Rattle.tools_top.specs.declared.tool.Tool.TheVariants.{Help}

-- what `tools_main` says
abbrev Does : Option Tool → ℕ → Option (List ℕ) → Option (List ℕ) → ℕ → ℕ → SinkState → SinkState → Type 0
Does tool status from to faults_before faults_after before after = record {
  tells : TellsOfTool tool from status before after;
  usage_only : status ≡ 2 → tool ≡ None;
  help_done : tool ≡ Some Help → status ≡ 0 → Writes before after help_text;
  done : is_some (limit_of tool) ≡ true → status ≡ 0 → IsAtEnd to × IfSome from (λ input. IsDone tool input before after);
  done_tool : status ≡ 0 → is_some tool ≡ true;
  unread : is_some (limit_of tool) ≡ false → (to ≡ from) × (faults_after ≡ faults_before) × (status ≢ 1) × (status ≢ 3) × (status ≢ 5);
  source : CountsSource status faults_before faults_after;
  sink : CountsSink status before after;
  read : IfSome (limit_of tool) (λ limit. ReadsBy limit status from to);
  known : status ≤ 5;
}

-- words that ask for a tool say what it says
of_tool : (tool wanted : Option Tool) (status : ℕ) (from to : Option (List ℕ)) (faults_before faults_after : ℕ) (before after : SinkState) → wanted ≡ tool → Does wanted status from to faults_before faults_after before after → Does tool status from to faults_before faults_after before after
of_tool tool wanted status from to faults_before faults_after before after is h = subst (λ (t : Option Tool). Does t status from to faults_before faults_after before after) is h

-- a tool that reads
pub reading : (tool : Option Tool) (wanted : Tool) (limit status : ℕ) (from to : Option (List ℕ)) (faults_before faults_after : ℕ) (before after : SinkState) → Some wanted ≡ tool → limit_of (Some wanted) ≡ Some limit → TellsOfTool (Some wanted) from status before after → OnDone (λ input before after. IsDone (Some wanted) input before after) status from to before after → KeepsEnds limit status faults_before faults_after from to before after
    → Does tool status from to faults_before faults_after before after
reading tool wanted limit status from to faults_before faults_after before after is reads tells done ends =
    of_tool tool (Some wanted) status from to faults_before faults_after before after is (record {
      tells = tells;
      usage_only = λ two. absurd (ends.no_usage two);
      help_done = λ help _. absurd (false≢true (sym (ap is_some (sym reads ∙ ap limit_of help))));
      done = λ _. done;
      done_tool = λ _. refl;
      unread = λ none. absurd (false≢true (sym (rw reads at none)));
      source = ends.source;
      sink = ends.sink;
      read = rw reads ends.read;
      known = ends.known;
    })

-- ---- the words that read nothing

-- what a status is not where nothing is read
abbrev IsQuiet : ℕ → Type 0
IsQuiet status = (status ≢ 1) × (status ≢ 3) × (status ≢ 5) × (status ≤ 5)

quiet : (status : ℕ) → (status ≡ 0) ⊎ ((status ≡ 2) ⊎ (status ≡ 4)) → IsQuiet status
quiet status (inl h) = (λ e. absurd (omega (arith, h, e)), λ e. absurd (omega (arith, h, e)), λ e. absurd (omega (arith, h, e)), omega (arith, h))
quiet status (inr (inl h)) = (λ e. absurd (omega (arith, h, e)), λ e. absurd (omega (arith, h, e)), λ e. absurd (omega (arith, h, e)), omega (arith, h))
quiet status (inr (inr h)) = (λ e. absurd (omega (arith, h, e)), λ e. absurd (omega (arith, h, e)), λ e. absurd (omega (arith, h, e)), omega (arith, h))

telling : (tool wanted : Option Tool) (status : ℕ) (from : Option (List ℕ)) (faults : ℕ) (before after : SinkState) → wanted ≡ tool → limit_of wanted ≡ None → TellsOfTool wanted from status before after → (status ≡ 2 → wanted ≡ None) → (wanted ≡ Some Help → status ≡ 0 → Writes before after help_text) → (status ≡ 0 → is_some wanted ≡ true) → CountsSink status before after → IsQuiet status
    → Does tool status from from faults faults before after
telling tool wanted status from faults before after is unread tells usage help some sink quiet' =
    of_tool tool wanted status from from faults faults before after is (record {
      tells = tells;
      usage_only = usage;
      help_done = help;
      done = λ reads. absurd (false≢true (rw unread at reads));
      done_tool = some;
      unread = λ _. (refl, refl, quiet'.0, quiet'.1, quiet'.2);
      source = stays status faults faults quiet'.1 refl;
      sink = sink;
      read = rw unread tt;
      known = quiet'.3;
    })

pub helping : (tool : Option Tool) (status : ℕ) (from : Option (List ℕ)) (faults : ℕ) (before after : SinkState) → Some Help ≡ tool → Answers 0 help_text status before after → Does tool status from from faults faults before after
helping tool status from faults before after is (inl h) =
    telling tool (Some Help) status from faults before after is refl (inl h) (λ two. absurd (omega (arith, h.0, two))) (λ _ _. h.1.0) (λ _. refl)
    (answered 0 help_text status before after (omega arith) (inl h)) (quiet status (inl h.0))
helping tool status from faults before after is (inr h) =
    telling tool (Some Help) status from faults before after is refl (inr h) (λ two. absurd (omega (arith, h.0, two))) (λ _ zero'. absurd (omega (arith, h.0, zero'))) (λ _. refl)
    (answered 0 help_text status before after (omega arith) (inr h)) (quiet status (inr (inr h.0)))

pub refusing : (tool : Option Tool) (status : ℕ) (from : Option (List ℕ)) (faults : ℕ) (before after : SinkState) → None ≡ tool → Answers 2 usage_line status before after → Does tool status from from faults faults before after
refusing tool status from faults before after is (inl h) =
    telling tool None status from faults before after is refl (inl h) (λ _. refl) (λ help. absurd (false≢true (ap is_some help))) (λ zero'. absurd (omega (arith, h.0, zero')))
    (answered 2 usage_line status before after (omega arith) (inl h)) (quiet status (inr (inl h.0)))
refusing tool status from faults before after is (inr h) =
    telling tool None status from faults before after is refl (inr h) (λ _. refl) (λ help. absurd (false≢true (ap is_some help))) (λ zero'. absurd (omega (arith, h.0, zero')))
    (answered 2 usage_line status before after (omega arith) (inr h)) (quiet status (inr (inr h.0)))

-- ---- the tool that an arm of a match has

pub found : (told tool : Option Tool) (inner wanted : Tool) → inner ≡ wanted → told ≡ Some inner → told ≡ tool → Some wanted ≡ tool
found told tool inner wanted within is same = ap Some (sym within) ∙ (sym is ∙ same)
