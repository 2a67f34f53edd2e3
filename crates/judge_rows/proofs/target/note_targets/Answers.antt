use Rattle.state_facts.specs.Row.{target_after}
use Rattle.judge_rows.specs.Views.{is_free}
use Rattle.judge_rows.proofs.TargetLemmas.{each_four, targets_four}
use Rattle.judge_rows.proofs.target.note_targets.Goals as goal

pub note_target_at-requires : goal.note_target_at-requires
note_target_at-requires c = (each_four (is_free c.args.entry.now c.args.frame.0) c.args.targets c.requires).0

pub note_target_at-requires-2 : goal.note_target_at-requires-2
note_target_at-requires-2 c = (each_four (is_free c.args.entry.now c.args.frame.0) c.args.targets c.requires).1

pub note_target_at-requires-3 : goal.note_target_at-requires-3
note_target_at-requires-3 c = (each_four (is_free c.args.entry.now c.args.frame.0) c.args.targets c.requires).2

pub note_target_at-requires-4 : goal.note_target_at-requires-4
note_target_at-requires-4 c = (each_four (is_free c.args.entry.now c.args.frame.0) c.args.targets c.requires).3

pub returns : goal.returns
returns c =
    targets_four (target_after c.args.frame.0 c.args.entry.now) c.args.targets (record { a = c.note_target_at.result; b = c.note_target_at-2.result; c = c.note_target_at-3.result; d = c.note_target_at-4.result }) c.note_target_at.ensures c.note_target_at-2.ensures c.note_target_at-3.ensures c.note_target_at-4.ensures
