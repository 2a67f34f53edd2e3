-- What `logical` tells of an input.
use Rattle.std.proofs.Common.{◌≡◌, ℕ, Bool, true, false, List, Ok, refl, ap, arith, subst, inl, inr}
use Rattle.io_edge.specs.States.{SinkState, Writes}
use Rattle.cam_types.specs.declared.script.Script.{Script}
use Rattle.call_parts.specs.Answers.{Answers, AnswersWithMemory, AreAnswers, TellsBy}
use Rattle.call_parts.proofs.Done.{meant}
use Rattle.call_parts.specs.Lines.{refused_script_text}
use Rattle.logical_call.specs.Both.{Both, at_first}
use Rattle.logical_call.specs.LogicalLaws.{EachItemHasOnePair, IsBounded}
use Rattle.logical_call.specs.Runs.{Deed, both_by}
use Rattle.logical_call.proofs.Joint.{script-by}
use Rattle.logical_call.specs.Turns.{IsRefused}
use Rattle.logical_call.specs.declared.logical.LogicalRefused.{LogicalRefused}
use Rattle.logical_call.specs.declared.logical.LogicalRefused.TheVariants.{NotLogical}
use Rattle.logical_call.specs.Orderless.{is_logical, without_faults}
use Rattle.run_model.specs.Lawful.{KeepsLaws}
use Rattle.run_model.specs.History.{trace_of}
use Rattle.script_text.specs.Grammar.{script_of}
use Rattle.trace_model.specs.Complete.{IsComplete}
use Rattle.trace_model.specs.declared.entry.Entry.{Entry}
use Rattle.logical_call.specs.Logical.{IsLogicalWhole, IsRunText, TellsBoth, TellsOfRun, TellsOfScript, TellsWhere}

pub told : (script : Script) (text : List ℕ) (status : ℕ) (before after : SinkState) → IsRunText script text → Answers 0 text status before after → TellsBy (TellsOfRun script) status before after
told script text status before after is h = inr (0, text, (refl, is), h)

-- a script that isn't logical is refused
pub refused : (script : Script) (why : LogicalRefused) (status : ℕ) (before after : SinkState) → why ≡ NotLogical → IsRefused script why → AnswersWithMemory 1 (refused_script_text 0 61) status before after → TellsBy (TellsOfScript script) status before after
refused script why status before after is not' (inl h) = inl h
refused script why status before after is not' (inr h) =
    let other : is_logical script ≡ false = subst (λ (w : LogicalRefused). IsRefused script w) is not' in
    inr (1, refused_script_text 0 61, rw other (refl, refl), h)

-- one that is logical is run from the start
pub opened : (script : Script) (cameras : Both) (status : ℕ) (before after : SinkState) → is_logical script ≡ true → cameras ≡ at_first script → TellsBy (TellsOfRun cameras.script) status before after → TellsBy (TellsOfScript script) status before after
opened script cameras status before after yes' first h =
    let same : cameras.script ≡ script = ap (λ (b : Both). b.script) first in
    rw (yes', ← same) h

-- ---- at status 0

abbrev pub LawsAtEnd : Type 0
LawsAtEnd = (script : Script) (past : List Entry) → IsComplete script past → KeepsLaws script past

-- what the laws say of all joint runs
pub record JointLaws : Type 0 where
  pub kept : LawsAtEnd
  pub bounded : (script : Script) (deeds : List Deed) → IsBounded script deeds
  pub paired : (script : Script) (deeds : List Deed) → EachItemHasOnePair script deeds

whole-where : (input : List ℕ) (script : Script) (logical : Bool) (text : List ℕ) (before after : SinkState) → JointLaws → script_of input ≡ Ok script → is_logical script ≡ logical → TellsWhere logical script 0 text → Writes before after text → IsLogicalWhole input before after
whole-where input script true text before after laws is yes' says written =
    let t = says.1 in
    let same = script-by script t.deeds in
    record {
      script = script;
      meaning = is;
      logical = yes';
      deeds = t.deeds;
      run = t.run;
      first = laws.kept script (trace_of (both_by script t.deeds).first) (rw same at t.run.first);
      second = laws.kept (without_faults script) (trace_of (both_by script t.deeds).second) (rw same at t.run.second);
      paired = laws.paired script t.deeds yes' t.run;
      few = laws.bounded script t.deeds t.run.named;
      written = rw t.shown at written;
    }
whole-where input script false text before after laws is yes' says written = absurd (omega (arith, says.0))

pub whole_run : (input text : List ℕ) (before after : SinkState) → JointLaws → TellsBoth input 0 text → Writes before after text → IsLogicalWhole input before after
whole_run input text before after laws tells written =
    meant _ TellsOfScript (IsLogicalWhole input before after) (script_of input) text
    (λ script is says. whole-where input script (is_logical script) text before after laws is refl says written) tells

-- ---- a status that belongs to a script

are-told-where : (logical : Bool) (script : Script) → AreAnswers (TellsWhere logical script)
are-told-where true script wanted text h = omega (arith, h.0)
are-told-where false script wanted text h = omega (arith, h.0)

pub are_told : (script : Script) → AreAnswers (TellsOfScript script)
are_told script wanted text h = are-told-where (is_logical script) script wanted text h
