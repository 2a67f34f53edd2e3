use Rattle.std.proofs.Common.{◌≡◌, ◌+◌, ◌++◌, length, map}
use Rattle.std.specs.List.{range_with_len}
use Rattle.auto_call.specs.Scene.{measured}
use Rattle.auto_call.specs.OutputLines.{frame_line}
use Rattle.auto_call.specs.Output.{scene_shots, shot}
use Rattle.auto_call.proofs.run.add_scene.Given as goal

abbrev pub invariant-loop : goal.invariant-loop
invariant-loop l = record {
  lines : l.found.lines ≡ l.fn.found.lines ++ map (λ i. frame_line (length l.fn.found.shots + i) (shot l.target l.settings i)) (range_with_len 0 l.counter);
  shots : l.found.shots ≡ l.fn.found.shots ++ scene_shots l.target l.settings l.counter;
  search : l.ae ≡ measured l.settings l.target (length l.fn.found.shots) l.counter;
}
