use Rattle.std.proofs.Common.{◌++◌, ◌∙◌, sym, ap, map, arith, List}
use Rattle.std.proofs.lemmas.List.{append-nil, take_all}
use Rattle.allowed_entries.specs.Readings.{frames_in}
use Rattle.judge_rows.specs.declared.row.OpenRow.{OpenRow}
use Rattle.allowed_entries.proofs.Rows.{added_more, none_first}
use Rattle.allowed_entries.proofs.frames.add_rows.Goals as goal

pub loop-row-init : goal.loop-row-init
loop-row-init c = sym (ap (λ l. c.args.list.now.items ++ l) (none_first c.args.script.now c.args.tables.now.state) ∙ append-nil c.args.list.now.items)

pub loop-row-preserved : goal.loop-row-preserved
loop-row-preserved c =
    added_more c.args.script.now c.args.tables.now.state c.args.list.now.items c.loop-row.list.items c.add_frame.new.list.items c.args.rows.now c.loop-row.row-index _ c.loop-row.invariant c.loop-row-test.true c.in_ok-add_frame.ensures

pub returns : goal.returns
returns c =
    c.loop-row.invariant
    ∙ ap (λ (rs : List OpenRow). c.args.list.now.items ++ frames_in c.args.script.now c.args.tables.now.state (map (λ r. r.frame.0) rs)) (take_all c.loop-row.row-index c.args.rows.now (omega (arith, c.loop-row-test.false)))
