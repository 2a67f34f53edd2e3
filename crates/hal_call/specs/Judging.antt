-- What `hal` answers and writes, for a person or for tools. (docs/FORMATS.md, hal log)
use Rattle.std.specs.Prelude.{◌≡◌, ℕ, Bool, List, [], ◌∷◌, Result, Ok, Err, reverse}
use Rattle.io_edge.specs.States.{SinkState, Writes}
use Rattle.hal_judge.specs.Judged.{rules_for}
use Rattle.hal_model.specs.Rules.{open_requests, report_by}
use Rattle.hal_model.specs.declared.rule.Breach.{Breach}
use Rattle.hal_text.specs.Meaning.{log_of}
use Rattle.hal_text.specs.Refusal.{refused_text}
use Rattle.hal_call.specs.declared.form.Form.{Form}
use Rattle.hal_call.specs.declared.form.Form.TheVariants.{Person, Plain}
use Rattle.hal_text.specs.Person.{person_text}
use Rattle.hal_text.specs.PersonRefusal.{refused_text as person_refused}
use Rattle.hal_lines.specs.declared.cause.Cause.{Cause}
use Rattle.hal_text.specs.declared.refused.LogRefused.{LogRefused}
use Rattle.hal_text.specs.declared.refused.LogRefused.TheVariants.{Bad, NoMemory}
use Rattle.hal_text.specs.declared.log.HalLog.{HalLog}
use Rattle.hal_text.specs.Plain.{plain_text}

-- the breaches of a log, and the requests that are outstanding at its end
abbrev pub breaches : Bool → HalLog → List Breach
breaches strict log = report_by (rules_for strict) log.parts (reverse log.events)

abbrev pub outstanding : HalLog → List ℕ
outstanding log = open_requests log.parts (reverse log.events)

-- 0 where nothing is broken
abbrev pub report_status : List Breach → ℕ
report_status [] = 0
report_status (b ∷ bs) = 1

-- the report for a person, or the plain one
abbrev pub told_text : Form → HalLog → List Breach → List ℕ → List ℕ
told_text Person log breaches left = person_text log breaches left
told_text Plain log breaches left = plain_text log.lines breaches left

abbrev pub report_text : Form → Bool → HalLog → List ℕ
report_text form strict log = told_text form log (breaches strict log) (outstanding log)

-- the line that refuses a text; for a person with the cause in a sentence
abbrev pub refusal_text : Form → ℕ → Cause → List ℕ
refusal_text Person line cause = person_refused line cause
refusal_text Plain line cause = refused_text line cause

-- the status and the whole text that belong to what a text means as a log
abbrev pub JudgesLog : Form → Bool → Result HalLog LogRefused → ℕ → List ℕ → Type 0
JudgesLog form strict (Ok log) status text =
    (status ≡ report_status (breaches strict log)) × (text ≡ report_text form strict log)
JudgesLog form strict (Err (Bad line cause)) status text = (status ≡ 1) × (text ≡ refusal_text form line cause)
JudgesLog form strict (Err NoMemory) status text = ⊥

-- of an input
abbrev pub Judges : Form → Bool → List ℕ → ℕ → List ℕ → Type 0
Judges form strict input status text = JudgesLog form strict (log_of input) status text

-- the input is a log that breaks none of the rules, and its report was written, and nothing else
pub record IsUnbroken (form : Form) (strict : Bool) (input : List ℕ) (before after : SinkState) : Type 0 where
  pub log : HalLog
  pub meaning : log_of input ≡ Ok log
  pub kept : breaches strict log ≡ []
  pub written : Writes before after (report_text form strict log)
