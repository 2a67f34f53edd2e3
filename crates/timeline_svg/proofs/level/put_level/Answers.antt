-- Piece by piece.
use Rattle.std.proofs.Common.{ℕ, ◌++◌, List, codes, decimal, string_bytes}
use Rattle.std.specs.List.{flat_map}
use Rattle.timeline_svg.specs.Levels.{ground_y, level_step, level_text}
use Rattle.timeline_svg.proofs.Chains.{followed}
use Rattle.timeline_svg.proofs.level.put_level.Goals as goal

pub returns : goal.returns
unfolding level_text
returns c =
    let ground : List ℕ = decimal (ground_y c.args.kind) in
    let steps : List ℕ = flat_map (level_step c.args.kind) c.args.groups.now in
    let end : List ℕ = codes "V" ++ (ground ++ codes "z'/>\n") in
    followed c.write-2.result (string_bytes c.args.out.now) (string_bytes c.write.new.self) (string_bytes c.write-2.new.self) (codes "<path class='q' d='M100 " ++ ground) (steps ++ end) (rw c.ground_y-ground.ensures.value at c.in_ok-write.ensures.bytes) (followed c.write-2.result (string_bytes c.write.new.self) (string_bytes c.put_level_steps.new.out) (string_bytes c.write-2.new.self) steps end c.in_ok-put_level_steps.ensures (rw c.ground_y-ground.ensures.value at c.write-2.ensures.bytes))
