use Rattle.hal_table.proofs.Kept.{dropped_kept}
use Rattle.hal_table.proofs.index.drop_gone.Goals as goal

pub returns-clause-kept : goal.returns-clause-kept
returns-clause-kept c =
    dropped_kept c.args.frame c.args.index.now (record { rows = c.pop.new.self; called = c.leave_call.new.called; held = c.take_of.new.held }) c.requires c.len-valid.ensures.valid.0 c.in_ok-take_of.ensures.found c.in_ok-take_of.ensures.none c.leave_call.ensures c.pop.ensures.entries
