-- A begin and a call aren't due at once.
use Rattle.std.proofs.Common.{◌≡◌, Bool, true, false, ◌&&◌, ◌||◌, not, ◌++◌, Option, Some, None, refl, is_some, if◌then◌else◌}
use Rattle.cam_types.specs.declared.script.Command.{Command}
use Rattle.cam_types.specs.declared.script.Script.{Script}
use Rattle.trace_model.specs.declared.entry.Entry.{Entry}
use Rattle.trace_model.specs.declared.entry.Entry.TheVariants.{Begin, Call}
use Rattle.trace_model.specs.Calls.{command_at, is_waiting_command, word_of}
use Rattle.trace_model.specs.Entry.{is_refusal}
use Rattle.run_model.specs.Ready.{or_entry}
use Rattle.state_facts.specs.Turns.{Turns}
use Rattle.state_facts.specs.Homes.{Homes}
use Rattle.state_facts.specs.Clients.{Clients}
use Rattle.state_facts.specs.Replies.{begin_in, begin_with, call_in, call_with, over_in, reply_in}
use Rattle.allowed_entries.specs.Known.{shown}

one-of-two : (waits begun rest : Bool) (b c : Entry) → shown (or_entry (if waits && not begun then Some b else None) (if (not waits || begun) && rest then Some c else None)) ≡ shown (if waits && not begun then Some b else None) ++ shown (if (not waits || begun) && rest then Some c else None)
one-of-two true false rest b c = refl
one-of-two true true rest b c = refl
one-of-two false begun rest b c = refl

pub begin_or_call : (script : Script) (t : Clients) (quiet : Bool) (q : Turns) (h : Homes) → shown (or_entry (begin_in script t) (call_in script quiet t q h)) ≡ shown (begin_in script t) ++ shown (call_in script quiet t q h)
begin_or_call script t quiet q h = by (command_at script t.calls)
  where
    by : (o : Option Command) → shown (or_entry (begin_with t.begun o) (call_with script quiet t q h o)) ≡ shown (begin_with t.begun o) ++ shown (call_with script quiet t q h o)
    by None = refl
    by (Some c) =
        one-of-two (is_waiting_command c) (is_some t.begun) (is_refusal (reply_in script t q h c) || over_in quiet t q h c) (Begin (word_of c)) (Call t.calls (word_of c) (reply_in script t q h c))
