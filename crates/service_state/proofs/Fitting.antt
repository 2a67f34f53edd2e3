-- What the client has called fits its types in every run.
use Rattle.std.proofs.Common.{arith, ◌≡◌, ◌≤◌, true, List, [], ◌∷◌, Option, Some, None, refl, ap, length}
use Rattle.std.specs.List.{list_all}
use Rattle.cam_types.specs.Picture.{is_offered}
use Rattle.cam_types.specs.Script.{is_valid}
use Rattle.cam_types.specs.declared.script.Command.{Command}
use Rattle.cam_types.specs.declared.script.Command.TheVariants.{Configure}
use Rattle.cam_types.specs.declared.script.Script.{Script}
use Rattle.cam_types.specs.declared.reply.Reply.TheVariants.{Configured}
use Rattle.trace_laws.specs.Typed.{is_typed}
use Rattle.trace_model.specs.declared.entry.Entry.{Entry}
use Rattle.trace_model.specs.declared.entry.Entry.TheVariants.{Call}
use Rattle.trace_model.specs.Calls.{command_at}
use Rattle.trace_model.specs.Configuration.{streams, streams_of}
use Rattle.trace_model.specs.Legal.{IsLegal}
use Rattle.run_model.specs.History.{trace_of}
use Rattle.state_facts.specs.Homes.{homes}
use Rattle.client_calls.specs.Around.{Fits}
use Rattle.state_facts.proofs.Fits.{numbers_fit}
use Rattle.service_parts.specs.Facts.{IsConfiguredBy}
use Rattle.service_parts.proofs.AtRest.{configured_home}
use Rattle.service_parts.specs.Parts.{Parts}
use Rattle.request_checks.proofs.Accepted.{few_specs, offered_specs}
use Rattle.service_state.specs.Serving.{IsOfRun}
use Rattle.service_state.proofs.Runs.{legal_left}

-- an accepted configuration has at most four streams, and each of them is offered
pub few_streams : (script : Script) (past : List Entry) → IsLegal script past → length (streams script past) ≤ 4
few_streams script [] legal = grind arith
few_streams script (Call i word (Configured each) ∷ past) legal = by (command_at script i) (configured_home script past i word each legal)
  where
    by : (c : Option Command) → IsConfiguredBy script (homes past) c each → length (streams_of c) ≤ 4
    by (Some (Configure specs)) told = few_specs specs told.accepted
    by (Some _) told = absurd told
    by None told = absurd told
few_streams script (e ∷ past) legal = few_streams script past legal.1

pub offered_streams : (script : Script) (past : List Entry) → IsLegal script past → list_all is_offered (streams script past) ≡ true
offered_streams script [] legal = refl
offered_streams script (Call i word (Configured each) ∷ past) legal = by (command_at script i) (configured_home script past i word each legal)
  where
    by : (c : Option Command) → IsConfiguredBy script (homes past) c each → list_all is_offered (streams_of c) ≡ true
    by (Some (Configure specs)) told = offered_specs specs told.accepted
    by (Some _) told = absurd told
    by None told = absurd told
offered_streams script (e ∷ past) legal = offered_streams script past legal.1

-- so each stream of the client is offered
pub offered_left : (script : Script) (p : Parts) → IsOfRun script p → list_all is_offered p.client.streams ≡ true
offered_left script p r = rw (ap (λ q. q.client.streams) r.left) (offered_streams script (trace_of r.history) (legal_left script p r))

pub fits_left : (script : Script) (p : Parts) (r : IsOfRun script p) → is_typed script ≡ true → is_valid script ≡ true → Fits p.client
fits_left script p r typed valid =
    let legal = legal_left script p r in
    let fit = numbers_fit script (trace_of r.history) typed valid legal in
    let at = ap (λ q. q.client) r.left in
    let few = few_streams script (trace_of r.history) legal in
    rw at (record { calls = fit.calls; repeated = fit.repeated; done = fit.done; streams = few })
