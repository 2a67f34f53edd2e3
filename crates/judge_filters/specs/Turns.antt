use Rattle.std.specs.Prelude.{Bool, false, ◌&&◌, ◌||◌, not, Option, Some, None, if◌then◌else◌}
use Rattle.cam_types.specs.declared.script.Script.{Script}
use Rattle.trace_model.specs.declared.entry.Entry.{Entry}
use Rattle.trace_model.specs.declared.entry.Entry.TheVariants.{Call}
use Rattle.trace_model.specs.Calls.{command_at}
use Rattle.trace_model.specs.Entry.{is_refusal}
use Rattle.trace_model.specs.Queue.{repeating_of, is_repeat_word, is_clearing_word, request_in}
use Rattle.cam_types.specs.Requests.{Repeating}

-- The entry that says which list repeats. Our own choice.

-- the entry accepts a command that sets or clears the repeating list
abbrev pub sets_repeating : Entry → Bool
sets_repeating (Call _ word reply) = not (is_refusal reply) && (is_repeat_word word || is_clearing_word word)
sets_repeating _ = false

-- the repeating list that the entry leaves
abbrev pub repeating_in : Script → Option Entry → Option Repeating
repeating_in script (Some (Call i word reply)) =
    if is_repeat_word word then repeating_of (command_at script i) (request_in reply) else None
repeating_in script _ = None
