-- What stays of a frame as the run goes on: its settings and targets once it is sent, the streams while it is open.
use Rattle.std.proofs.Common.{◌≡◌, ℕ, true, List, Option, Some, None, refl}
use Rattle.cam_types.specs.declared.reply.Reply.TheVariants.{Configured}
use Rattle.cam_types.specs.declared.script.Script.{Script}
use Rattle.trace_model.specs.declared.entry.Entry.{Entry}
use Rattle.trace_model.specs.declared.entry.Entry.TheVariants.{Call}
use Rattle.trace_model.specs.Configuration.{streams}
use Rattle.trace_model.specs.Frames.{is_sent, settings_of}
use Rattle.trace_model.specs.Legal.{IsLegal}
use Rattle.trace_model.specs.Open.{is_open}
use Rattle.run_model.specs.History.{with_entry}
use Rattle.trace_laws.proofs.Frames.{sent-once}
use Rattle.state_facts.proofs.Accepted.{settings-kept}
use Rattle.run_rows.proofs.Stopped.{quiet-closed}
use Rattle.run_rows.proofs.Streams.{configure-quiet}

pub settings-stay : (script : Script) (past : List Entry) (o : Option Entry) (n : ℕ) → IsLegal script (with_entry o past) → is_sent n past ≡ true → settings_of script (with_entry o past) n ≡ settings_of script past n
settings-stay script past (Some e) n legal sent = settings-kept script past e n legal sent (sent-once script past e n legal.1 legal.0 sent)
settings-stay script past None n legal sent = refl

-- ---- streams

pub streams-stay : (script : Script) (past : List Entry) (o : Option Entry) (n : ℕ) → IsLegal script (with_entry o past) → is_open n past ≡ true → streams script (with_entry o past) ≡ streams script past
streams-stay script past (Some (Call i w (Configured each))) n legal open_ = absurd (quiet-closed past n (configure-quiet script past i w each legal) open_)
streams-stay script past (Some e) n legal open_ = refl
streams-stay script past None n legal open_ = refl
