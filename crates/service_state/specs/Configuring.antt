use Rattle.std.specs.Prelude.{◌≡◌, Bool, true, false, Option, Some, None}
use Rattle.cam_types.specs.Refusals.{specs_refusal}
use Rattle.cam_types.specs.declared.reply.Reply.{Reply}
use Rattle.cam_types.specs.declared.reply.Reply.TheVariants.{Configured}
use Rattle.trace_model.specs.declared.entry.Entry.{Entry}
use Rattle.run_model.specs.Ready.{or_entry}
use Rattle.state_facts.specs.Replies.{begin_in, call_in}
use Rattle.run_rows.specs.Kept.{is_no_row}
use Rattle.service_state.specs.Serving.{Serving}
use Rattle.cam_types.specs.declared.script.Command.{Command}
use Rattle.cam_types.specs.declared.script.Command.TheVariants.{Configure}
use Rattle.cam_types.specs.declared.script.Word.{Word}
use Rattle.trace_model.specs.Calls.{word_of}
use Rattle.state_facts.specs.Turns.{Turns}
use Rattle.client_calls.specs.Captures.{CanTake}

-- A command that begins, or is answered.

-- what is due of the client
abbrev pub due_in : Serving → Option Entry
due_in s =
    or_entry (begin_in s.script s.parts.client)
    (call_in s.script (is_no_row s.parts.rows) s.parts.client s.parts.queue s.parts.buffers)

-- the reply accepts a configuration
abbrev pub is_configuration : Reply → Bool
is_configuration (Configured _) = true
is_configuration _ = false

-- what the command submits can be taken, and its word is this
abbrev pub CanTakeAt : Turns → Option Command → Word → Reply → Type 0
CanTakeAt t (Some c) word reply = (word ≡ word_of c) × CanTake t c reply
CanTakeAt t None word reply = ⊥

-- the command is a configure, and its streams aren't refused (camera3.h, configure_streams)
abbrev pub IsAccepted : Option Command → Type 0
IsAccepted (Some (Configure specs)) = specs_refusal specs ≡ None
IsAccepted _ = ⊥
