-- A begin and a call aren't due at once.
use Rattle.std.proofs.Common.{◌≡◌, ◌↔◌, ℕ, Bool, true, false, ◌&&◌, ◌||◌, not, Option, Some, None, refl, is_some, if◌then◌else◌}
use Rattle.cam_types.specs.declared.reply.Reply.{Reply}
use Rattle.cam_types.specs.declared.script.Command.{Command}
use Rattle.cam_types.specs.declared.script.Script.{Script}
use Rattle.cam_types.specs.declared.script.Word.{Word}
use Rattle.trace_model.specs.declared.entry.Entry.{Entry}
use Rattle.trace_model.specs.declared.entry.Entry.TheVariants.{Begin, Call}
use Rattle.trace_model.specs.Calls.{command_at, is_waiting_command, word_of}
use Rattle.trace_model.specs.Entry.{is_refusal}
use Rattle.run_model.specs.Ready.{or_entry}
use Rattle.state_facts.specs.Turns.{Turns}
use Rattle.state_facts.specs.Homes.{Homes}
use Rattle.state_facts.specs.Clients.{Clients}
use Rattle.state_facts.specs.Replies.{begin_in, begin_with, call_in, call_with, over_in, reply_in}

begin-tests : (waits begun rest : Bool) (b c : Entry) (word : Word) (i : ℕ) (w : Word) (r : Reply) → b ≡ Begin w → c ≡ Call i w r → or_entry (if waits && not begun then Some b else None) (if (not waits || begun) && rest then Some c else None) ≡ Some (Begin word) → (if waits && not begun then Some b else None) ≡ Some (Begin word)
begin-tests true false rest b c word i w r is call h = h
begin-tests true true true b c word i w r is call h = absurd (cc)
begin-tests true true false b c word i w r is call h = absurd (cc)
begin-tests false begun true b c word i w r is call h = absurd (cc)
begin-tests false begun false b c word i w r is call h = absurd (cc)

begin-back : (o p : Option Entry) (e : Entry) → o ≡ Some e → or_entry o p ≡ Some e
begin-back None p e h = absurd (cc)
begin-back (Some d) p e h = h

call-tests : (waits begun rest : Bool) (b c : Entry) (j : ℕ) (v : Word) (s : Reply) (w : Word) → b ≡ Begin w → or_entry (if waits && not begun then Some b else None) (if (not waits || begun) && rest then Some c else None) ≡ Some (Call j v s) → (if (not waits || begun) && rest then Some c else None) ≡ Some (Call j v s)
call-tests true false rest b c j v s w is h = absurd (cc)
call-tests true true rest b c j v s w is h = h
call-tests false begun rest b c j v s w is h = h

call-back : (waits begun rest : Bool) (b c : Entry) (e : Entry) → (if (not waits || begun) && rest then Some c else None) ≡ Some e → or_entry (if waits && not begun then Some b else None) (if (not waits || begun) && rest then Some c else None) ≡ Some e
call-back true false rest b c e h = absurd (cc)
call-back true true rest b c e h = h
call-back false begun rest b c e h = h

pub begin_either : (script : Script) (t : Clients) (quiet : Bool) (q : Turns) (h : Homes) (word : Word) → (or_entry (begin_in script t) (call_in script quiet t q h) ≡ Some (Begin word)) ↔ (begin_in script t ≡ Some (Begin word))
begin_either script t quiet q h word = by (command_at script t.calls)
  where
    by : (o : Option Command) → (or_entry (begin_with t.begun o) (call_with script quiet t q h o) ≡ Some (Begin word)) ↔ (begin_with t.begun o ≡ Some (Begin word))
    by None = (λ e. e, λ e. e)
    by (Some c) = (
      λ e. begin-tests (is_waiting_command c) (is_some t.begun) (is_refusal (reply_in script t q h c) || over_in quiet t q h c) (Begin (word_of c)) (Call t.calls (word_of c) (reply_in script t q h c)) word t.calls (word_of c) (reply_in script t q h c) refl refl e,
      λ e. begin-back (begin_with t.begun (Some c)) (call_with script quiet t q h (Some c)) (Begin word) e,
    )

pub call_either : (script : Script) (t : Clients) (quiet : Bool) (q : Turns) (h : Homes) (i : ℕ) (w : Word) (r : Reply) → (or_entry (begin_in script t) (call_in script quiet t q h) ≡ Some (Call i w r)) ↔ (call_in script quiet t q h ≡ Some (Call i w r))
call_either script t quiet q h i w r = by (command_at script t.calls)
  where
    by : (o : Option Command) → (or_entry (begin_with t.begun o) (call_with script quiet t q h o) ≡ Some (Call i w r)) ↔ (call_with script quiet t q h o ≡ Some (Call i w r))
    by None = (λ e. e, λ e. e)
    by (Some c) = (
      λ e. call-tests (is_waiting_command c) (is_some t.begun) (is_refusal (reply_in script t q h c) || over_in quiet t q h c) (Begin (word_of c)) (Call t.calls (word_of c) (reply_in script t q h c)) i w r (word_of c) refl e,
      λ e. call-back (is_waiting_command c) (is_some t.begun) (is_refusal (reply_in script t q h c) || over_in quiet t q h c) (Begin (word_of c)) (Call t.calls (word_of c) (reply_in script t q h c)) (Call i w r) e,
    )
