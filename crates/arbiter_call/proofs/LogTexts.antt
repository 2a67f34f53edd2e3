-- The text of a log, line by line.
use Rattle.std.proofs.Common.{◌≡◌, ℕ, true, List, ◌++◌, Option, Some, reverse, refl, ap, ◌∙◌, subst, arith, inl, inr, append_assoc}
use Rattle.std.specs.List.{list_all}
use Rattle.std.proofs.lemmas.List.{reverse-reverse}
use Rattle.call_parts.specs.Answers.{Answers}
use Rattle.cam_types.specs.declared.script.Script.{Script}
use Rattle.basic_lemmas.proofs.Lists.{all-where, all-reversed}
use Rattle.arbiter_call.specs.Answers.{log_of}
use Rattle.arbiter_call.specs.Laws.{IsOver, KeepsLaws}
use Rattle.arbiter_call.specs.Ranges.{is_line, is_logged}
use Rattle.arbiter_call.specs.declared.answer.LogLine.{LogLine}
use Rattle.arbiter_call.specs.declared.line.ArbiterLine.{ArbiterLine}
use Rattle.arbiter_call.proofs.Scripts.{fits-logged}
use Rattle.arbiter_call.proofs.Valid.{parts-of}
use Rattle.arbiter_call.specs.Scripts.{script_behind, shots_fit}
use Rattle.arbiter_call.specs.Spelling.{line_of}
use Rattle.arbiter_call.specs.Valid.{is_valid}
use Rattle.arbiter_call.specs.declared.text.ArbiterText.{ArbiterText}
use Rattle.play_calls.proofs.Telling.{KeepsLawsAtEnd}
use Rattle.play_calls.specs.Says.{PlaysAs}
use Rattle.run_model.specs.History.{trace_of}
use Rattle.call_parts.specs.Texts.{text_in}
use Rattle.call_parts.specs.declared.output.Output.TheVariants.{Summary}
use Rattle.arbiter_call.specs.Arbitrates.{Adds, IsArbitratedText, IsBehind, IsLineText, IsSummary, IsWholeText}

-- ---- a session

-- what a text in memory has after a play that didn't fail
pub summed : (script : Script) (status : ℕ) (xs ys : List ℕ) (m n : ℕ) → KeepsLawsAtEnd script → status ≡ 0 → PlaysAs Summary script status (record { written = Some xs; faults = m }) (record { written = Some ys; faults = n }) → Adds (IsSummary script) xs ys
summed script status xs ys m n law done plays = by plays.answers
  where
    by : Answers 0 (text_in Summary script plays.history) status (record { written = Some xs; faults = m }) (record { written = Some ys; faults = n }) → Adds (IsSummary script) xs ys
    by (inl h) =
        (text_in Summary script plays.history, record { history = plays.history; run = plays.run; lawful = law (trace_of plays.history) plays.run.complete; shown = refl }, h.1.0)
    by (inr h) = absurd (omega (arith, done, h.0))

-- ---- a line

-- a line, and behind it the summary of the session that it ends
pub line-and-summary : (line : LogLine) (script : Script) (words before middle after : List ℕ) → words ≡ line_of line → middle ≡ before ++ words → Some script ≡ script_behind line → Adds (IsSummary script) middle after → Adds (IsLineText line) before after
line-and-summary line script words before middle after spelled added is (summary, fits, behind) =
    (line_of line ++ summary, record { summary = summary; behind = subst (λ (o : Option Script). IsBehind o summary) is fits; shown = refl }, behind ∙ (ap (λ (t : List ℕ). t ++ summary) (added ∙ ap (λ (t : List ℕ). before ++ t) spelled) ∙ append_assoc before (line_of line) summary))

-- ---- a log

-- the text of the whole log of what clients ask
pub log-text : (text : ArbiterText) (log past : List LogLine) (told : List ℕ) → is_valid text ≡ true → log ≡ reverse past → past ≡ log_of text.cameras text.lines → ((cameras : ℕ) (lines : List ArbiterLine) → list_all (is_line cameras) lines ≡ true → KeepsLaws (log_of cameras lines) × IsOver (log_of cameras lines)) → IsWholeText (reverse log) told → IsArbitratedText text told
log-text text log past told valid is made laws whole =
    let back : reverse log ≡ log_of text.cameras text.lines = ap reverse is ∙ (reverse-reverse past ∙ made) in
    let kept : KeepsLaws (log_of text.cameras text.lines) × IsOver (log_of text.cameras text.lines) = laws text.cameras text.lines (parts-of text valid).lines in
    record { whole = subst (λ (l : List LogLine). IsWholeText l told) back whole; laws = kept.0; over = kept.1 }

-- all sessions of a log have their frames to wait for
pub all-fit : (cameras : ℕ) (past : List LogLine) → list_all (is_logged cameras) past ≡ true → list_all shots_fit (reverse past) ≡ true
all-fit cameras past h = all-reversed shots_fit past (all-where (is_logged cameras) shots_fit past (fits-logged cameras) h)
