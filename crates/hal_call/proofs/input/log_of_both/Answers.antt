use Rattle.std.proofs.Common.{sym, ◌∙◌}
use Rattle.hal_call.proofs.Inputs.{no_legal}
use Rattle.hal_call.proofs.input.log_of_both.Goals as goal

pub returns-then-is_illegal : goal.returns-then-is_illegal
returns-then-is_illegal c =
    no_legal c.a_trace_has_one_verdict.ensures c.args.input.now c.args.script.now c.args.trace.now c.in_ok-verdict.verdict c.requires.script c.requires.trace c.in_ok-verdict.ensures.exact (sym c.is_illegal.ensures ∙ c.if-is_illegal.true)
