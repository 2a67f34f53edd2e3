use Rattle.std.proofs.Common.{sym}
use Rattle.judge_rules.specs.Asked.{asks}
use Rattle.judge_rules.proofs.StreamLemmas.{left_same, left_other}
use Rattle.judge_rules.proofs.stream.after_target.Goals as goal

pub returns-then-target-stream : goal.returns-then-target-stream
returns-then-target-stream c rest =
    left_same (asks c.args.asked) c.args.from c.in-Some.stream c.args.target rest (sym c.in-Some.ensures.value) c.if-target-stream.true

pub returns-else-target-stream : goal.returns-else-target-stream
returns-else-target-stream c rest =
    left_other (asks c.args.asked) c.args.from c.in-Some.stream c.args.target rest (sym c.in-Some.ensures.value) c.if-target-stream.false
