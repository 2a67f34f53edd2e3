use Rattle.std.proofs.lemmas.Grind.{common_steps}
use Rattle.std.proofs.Common.{Bool, add-one, get_or, not, reverse, take, arith}
use Rattle.std.proofs.lemmas.Option.{slice_get-get_or}
use Rattle.cam_types.specs.declared.request.WaitingItem.{WaitingItem}
use Rattle.cam_types.specs.declared.script.Word.TheVariants.{Configure}
use Rattle.basic_lemmas.proofs.Lists.{newest}
use Rattle.trace_model.specs.Queue.{is_taken}
use Rattle.trace_model.specs.declared.entry.Entry.{Entry}
use Rattle.trace_model.specs.declared.entry.Entry.TheVariants.{Begin}
use Rattle.explain_call.proofs.MissingLists.{waits_more}
use Rattle.explain_call.proofs.queue.waiting.Goals as goal

pub loop-entry-preserved : goal.loop-entry-preserved
loop-entry-preserved c =
    let entries = c.args.entries.now in
    let kept : WaitingItem → Bool = λ w. not (is_taken (reverse entries) w) in
    let entry : Entry = get_or entries c.loop-entry.entry-index (Begin Configure) in
    let past = newest entries c.loop-entry.entry-index entry (slice_get-get_or entries c.loop-entry.entry-index (Begin Configure) c.loop-entry-test.true) in
    rw (add-one, past) (waits_more kept c.args.script.now (reverse (take c.loop-entry.entry-index entries)) entry _ _ c.loop-entry.invariant c.in_ok-put_waiting.ensures)

pub returns : goal.returns
returns c = grind (arith, common_steps)
