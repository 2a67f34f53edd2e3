-- A configuration is accepted while every buffer is in its pool and no frame is open.
use Rattle.std.proofs.Common.{◌≡◌, ◌||◌, not, is_some, ℕ, true, List, ◌∷◌, Option, Some, None, refl, sym, ap, ◌∙◌}
use Rattle.std.proofs.lemmas.Bool.{and_parts, false≢true}
use Rattle.cam_types.specs.Four.{four_of}
use Rattle.cam_types.specs.declared.four.Four.{Four}
use Rattle.cam_types.specs.declared.reply.Made.{Made}
use Rattle.cam_types.specs.declared.reply.Reply.{Reply}
use Rattle.cam_types.specs.declared.reply.Reply.TheVariants.{Configured, Ok, Submitted, Refused}
use Rattle.cam_types.specs.declared.script.Command.{Command}
use Rattle.cam_types.specs.declared.script.Command.TheVariants.{Configure}
use Rattle.cam_types.specs.declared.script.Script.{Script}
use Rattle.cam_types.specs.declared.script.Word.{Word}
use Rattle.trace_model.specs.declared.entry.Entry.{Entry}
use Rattle.trace_model.specs.declared.entry.Entry.TheVariants.{Call}
use Rattle.trace_model.specs.Calls.{begun, command_at, is_waiting_command}
use Rattle.trace_model.specs.Client.{is_empty, is_idle, is_over}
use Rattle.trace_model.specs.Configuration.{made_count}
use Rattle.trace_model.specs.Entry.{is_refusal}
use Rattle.trace_model.specs.Legal.{IsLegal}
use Rattle.trace_model.specs.Open.{is_quiet}
use Rattle.trace_model.specs.Place.{all_in_pool}
use Rattle.trace_model.specs.Queue.{queued}
use Rattle.trace_model.specs.Reply.{acceptance, made_for, own_refusal, refusal, reply, reply_with, state_refusal}
use Rattle.run_model.specs.declared.step.Move.{Move}
use Rattle.run_model.specs.History.{trace_of, with_entry}
use Rattle.run_model.specs.Rows.{rows}
use Rattle.run_model.specs.Run.{IsRun}
use Rattle.trace_laws.proofs.Calls.{call-is}
use Rattle.trace_laws.proofs.Refusals.{refuses, refusal-refuses}
use Rattle.state_facts.proofs.Served.{or-none}
use Rattle.state_facts.specs.Homes.{homes}
use Rattle.state_facts.proofs.BufferReadings.{made_is, pool_is}
use Rattle.run_model.proofs.Legal.{runs_legally}
use Rattle.run_rows.specs.Kept.{is_no_row}
use Rattle.run_rows.proofs.Counted.{quiet_is}
use Rattle.run_rows.proofs.Stopped.{answered, call-is as answer-is}
use Rattle.service_parts.specs.Facts.{IsConfiguredBy}

-- what is said of a past after which a configuration is accepted
pub record IsAtRest (script : Script) (past : List Entry) (o : Option Command) (each : Four Made) : Type 0 where
  pub by : IsConfiguredBy script (homes past) o each
  pub quiet : is_quiet past ≡ true

configured : (script : Script) (past : List Entry) (c : Command) (o : Option Reply) (each : Four Made) → IsLegal script past → refuses o ≡ true → refusal script past c ≡ o → reply_with o (acceptance script past c) ≡ Configured each → is_over script past c ≡ true → IsAtRest script past (Some c) each
configured script past c (Some (Refused code a b)) each legal refused at is over = absurd (cc)
configured script past c (Some Ok) each legal refused at is over = absurd (false≢true refused)
configured script past c (Some (Submitted r)) each legal refused at is over = absurd (false≢true refused)
configured script past c (Some (Configured m)) each legal refused at is over = absurd (false≢true refused)
configured script past (Configure specs) None each legal refused at is over =
    let rest = and_parts (is_idle script past) (all_in_pool past) over in
    record {
      by = record {
        accepted = (or-none (state_refusal past (Configure specs)) (own_refusal script past (Configure specs)) at).1;
        made = own (four_of (made_for script.profile (made_count past) specs)) is ∙ ap (λ (n : ℕ). four_of (made_for script.profile n specs)) (made_is past);
        home = sym (pool_is script past legal) ∙ rest.1;
      };
      quiet = (and_parts (is_quiet past) (is_empty (queued script past)) rest.0).0;
    }
  where
    own : (m : Four Made) → Configured m ≡ Configured each → each ≡ m
    own m h = cc
configured script past c None each legal refused at is over = absurd (cc)

at-rest : (script : Script) (past : List Entry) (i : ℕ) (word : Word) (each : Four Made) → IsLegal script (Call i word (Configured each) ∷ past) → IsAtRest script past (command_at script i) each
at-rest script past i word each legal =
    let call = answer-is script past i word (Configured each) legal.0 in
    let over = answered (not (is_waiting_command call.command) || is_some (begun past)) (is_refusal (reply script past call.command)) (is_over script past call.command) call.may (ap is_refusal call.reply_is) in
    let rest = configured script past call.command (refusal script past call.command) each legal.1 (refusal-refuses script past call.command) refl call.reply_is over in
    let place = (call-is script past i word (Configured each) legal.0).2 in
    by (command_at script i) (Some call.command) (ap (λ (j : ℕ). command_at script j) place ∙ call.next) rest
  where
    by : (a b : Option Command) → a ≡ b → IsAtRest script past b each → IsAtRest script past a each
    by a b same rest = rw same rest

pub configured_home : (script : Script) (past : List Entry) (i : ℕ) (word : Word) (each : Four Made) → IsLegal script (Call i word (Configured each) ∷ past) → IsConfiguredBy script (homes past) (command_at script i) each
configured_home script past i word each legal = (at-rest script past i word each legal).by

pub configured_quiet : (script : Script) (past : List Entry) (i : ℕ) (word : Word) (each : Four Made) → IsLegal script (Call i word (Configured each) ∷ past) → is_quiet past ≡ true
configured_quiet script past i word each legal = (at-rest script past i word each legal).quiet

pub configured_rest : (script : Script) (h : List Move) (m : Move) (i : ℕ) (word : Word) (each : Four Made) → IsRun script (m ∷ h) → m.entry ≡ Some (Call i word (Configured each)) → is_no_row (rows script h) ≡ true
configured_rest script h m i word each run at =
    let legal = of m.entry at (runs_legally script (m ∷ h) run) in
    sym (quiet_is script h) ∙ configured_quiet script (trace_of h) i word each legal
  where
    of : (o : Option Entry) → o ≡ Some (Call i word (Configured each)) → IsLegal script (with_entry o (trace_of h)) → IsLegal script (Call i word (Configured each) ∷ trace_of h)
    of o same legal = rw same at legal
