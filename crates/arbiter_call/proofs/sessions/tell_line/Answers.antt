use Rattle.std.proofs.lemmas.Result.{on_ok_weaker}
use Rattle.arbiter_call.proofs.LogTexts.{line-and-summary}
use Rattle.arbiter_call.proofs.sessions.tell_line.Goals as goal

pub returns-in-Some : goal.returns-in-Some
returns-in-Some c =
    on_ok_weaker c.tell_session.result
    (line-and-summary c.args.line c.in-Some.script c.in_ok-words.words.items c.args.text.now.text.items c.append.new.self.text.items c.tell_session.new.text.text.items c.in_ok-words.ensures (rw c.as_slice.ensures.value at c.in_ok-append.ensures) (rw c.in-Some.is at c.in_ok-script.ensures.script))
    c.tell_session.ensures
