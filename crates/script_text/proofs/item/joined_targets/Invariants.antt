use Rattle.std.proofs.Common.{◌≡◌, ◌≤◌, ◌+◌, ◌^◌, length, replicate}
use Rattle.text_parts.specs.Cuts.{parts_at}
use Rattle.text_parts.specs.Numbers.{number_below}
use Rattle.text_parts.specs.Values.{all_of}
use Rattle.script_text.proofs.Targets.{put_all}
use Rattle.script_text.proofs.item.joined_targets.Given as goal

abbrev pub invariant-loop-stream : goal.invariant-loop-stream
invariant-loop-stream l = record {
  same : put_all l.list l.count (all_of (number_below (2 ^ 8)) (parts_at 43 l.rest)) ≡ put_all (replicate 8 0) 0 (all_of (number_below (2 ^ 8)) (parts_at 43 l.word));
  long : l.count + length l.rest ≤ length l.word;
}

abbrev pub decreases-loop-stream : goal.decreases-loop-stream
decreases-loop-stream l = length l.rest
