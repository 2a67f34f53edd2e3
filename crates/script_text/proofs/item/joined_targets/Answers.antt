use Rattle.std.proofs.Common.{◌+◌, ◌^◌, sym, arith}
use Rattle.text_parts.specs.Cuts.{parts_at}
use Rattle.text_parts.specs.Numbers.{number_below}
use Rattle.text_parts.specs.Values.{all_of}
use Rattle.script_text.proofs.Targets.{joined-is, no_targets, too_many, all_targets}
use Rattle.script_text.proofs.item.joined_targets.Goals as goal

pub returns-in_default-byte_number : goal.returns-in_default-byte_number
returns-in_default-byte_number c =
    rw joined-is (sym (no_targets (all_of (number_below (2 ^ 8)) (parts_at 43 c.args.word.now)) (grind arith)))

pub returns-in_default-byte_number-2 : goal.returns-in_default-byte_number-2
returns-in_default-byte_number-2 c =
    rw joined-is (sym (no_targets (all_of (number_below (2 ^ 8)) (parts_at 43 c.args.word.now)) (grind arith)))

pub returns-then-count : goal.returns-then-count
returns-then-count c =
    rw joined-is (sym (too_many (all_of (number_below (2 ^ 8)) (parts_at 43 c.args.word.now)) c.put_target-2.new.list (c.loop-stream.count + 1) (omega arith) (grind arith)))

pub returns : goal.returns
returns c =
    rw joined-is (sym (all_targets (all_of (number_below (2 ^ 8)) (parts_at 43 c.args.word.now)) c.put_target-2.new.list (c.loop-stream.count + 1) (omega arith) (grind arith)))
