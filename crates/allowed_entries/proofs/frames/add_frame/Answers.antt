use Rattle.std.proofs.Common.{ap, refl}
use Rattle.trace_model.specs.Entry.{is_shutter}
use Rattle.state_facts.specs.States.{error_request_in, error_result_in, partial_in, shutter_in}
use Rattle.allowed_entries.specs.declared.buffers.BufferEntry.TheVariants.{Picture, Early, Error}
use Rattle.allowed_entries.specs.Known.{shown, shown_where}
use Rattle.allowed_entries.specs.Readings.{buffers_in, frame_in}
use Rattle.allowed_entries.proofs.Joins.{join, on_ok}
use Rattle.allowed_entries.proofs.frames.add_frame.Goals as goal

pub returns : goal.returns
unfolding frame_in
returns c =
    let script = c.args.script.now in
    let s = c.args.tables.now.state in
    let n = c.args.frame.0 in
    let whole = c.add_buffers-4.new.list.items in
    let shutter = shown_where (is_shutter n) (shutter_in script s) in
    let part = shown (partial_in script s n) in
    let request = shown (error_request_in script s n) in
    let result = shown (error_result_in script s n) in
    on_ok c.add_buffers-4.result _ _
    (λ last.
    join c.args.list.now.items c.add_shutter.new.list.items whole shutter shutter _ c.in_ok-add_shutter.ensures refl
    (join c.add_shutter.new.list.items c.add_due.new.list.items whole (shown c.partial_due.result) part _ c.in_ok-add_due.ensures (ap shown c.partial_due.ensures)
    (join c.add_due.new.list.items c.add_buffers.new.list.items whole (buffers_in script s n Picture) (buffers_in script s n Picture) _ c.in_ok-add_buffers.ensures refl
    (join c.add_buffers.new.list.items c.add_buffers-2.new.list.items whole (buffers_in script s n Early) (buffers_in script s n Early) _ c.in_ok-add_buffers-2.ensures refl
    (join c.add_buffers-2.new.list.items c.add_due-2.new.list.items whole (shown c.error_request_due.result) request _ c.in_ok-add_due-2.ensures (ap shown c.error_request_due.ensures)
    (join c.add_due-2.new.list.items c.add_due-3.new.list.items whole (shown c.error_result_due.result) result _ c.in_ok-add_due-3.ensures (ap shown c.error_result_due.ensures)
    (join c.add_due-3.new.list.items c.add_buffers-3.new.list.items whole (buffers_in script s n Error) (buffers_in script s n Error) _ c.in_ok-add_buffers-3.ensures refl last)))))))
    c.add_buffers-4.ensures
