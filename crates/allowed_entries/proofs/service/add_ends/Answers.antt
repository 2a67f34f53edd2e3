use Rattle.std.proofs.Common.{◌++◌, ◌∙◌, ap}
use Rattle.std.proofs.lemmas.List.{append_assoc}
use Rattle.state_facts.specs.Replies.{begin_in, call_in}
use Rattle.state_facts.specs.FrameReadings.{is_none_left}
use Rattle.state_facts.specs.States.{error_device_in}
use Rattle.allowed_entries.specs.Known.{shown}
use Rattle.allowed_entries.specs.Readings.{ends_in}
use Rattle.allowed_entries.proofs.Client.{begin_or_call}
use Rattle.allowed_entries.proofs.Joins.{join, on_ok}
use Rattle.allowed_entries.proofs.service.add_ends.Goals as goal

pub returns : goal.returns
unfolding ends_in
returns c =
    let script = c.args.script.now in
    let s = c.args.tables.now.state in
    let before = c.args.list.now.items in
    let begin = shown (begin_in script s.client) in
    let call = shown (call_in script (is_none_left s.rows) s.client s.queue s.buffers) in
    let device = shown (error_device_in script s) in
    on_ok c.add_due-2.result _ _
    (λ last.
    join before c.add_due.new.list.items c.add_due-2.new.list.items (shown c.client_due.result) (begin ++ call) device c.in_ok-add_due.ensures
    (ap shown c.client_due.ensures ∙ begin_or_call script s.client (is_none_left s.rows) s.queue s.buffers)
    (last ∙ ap (λ o. c.add_due.new.list.items ++ shown o) c.error_device_due.ensures)
    ∙ ap (λ l. before ++ l) (append_assoc begin call device))
    c.add_due-2.ensures
