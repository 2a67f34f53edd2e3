use Rattle.trace_text.proofs.SummaryLine.{put-whole}
use Rattle.trace_text.proofs.summary.put_summary.Goals as goal

pub returns : goal.returns
returns c =
    rw (c.put.ensures.text, c.put_count-9.ensures.text, c.put_count-8.ensures.text, c.put_count-7.ensures.text, c.put_count-6.ensures.text, c.put_count-5.ensures.text, c.put_count-4.ensures.text, c.put_count-3.ensures.text, c.put_count-2.ensures.text, c.put_count.ensures.text)
    (put-whole c.args.room.now c.args.trace.now c.count_of.result c.count_of-2.result c.count_of-3.result c.count_of-4.result c.count_of-5.result c.count_of-6.result c.count_of-7.result c.count_of-8.result
    c.count_of.ensures c.count_of-2.ensures c.count_of-3.ensures c.count_of-4.ensures c.count_of-5.ensures c.count_of-6.ensures c.count_of-7.ensures c.count_of-8.ensures)
