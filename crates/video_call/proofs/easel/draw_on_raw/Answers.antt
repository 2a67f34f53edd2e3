use Rattle.std.proofs.Common.{arith}
use Rattle.std.proofs.lemmas.List.{length-take-le}
use Rattle.video_call.proofs.easel.draw_on_raw.Goals as goal

pub draw_raw-requires-clause-room : goal.draw_raw-requires-clause-room
draw_raw-requires-clause-room c =
    let all = c.requires.block in
    rw c.over-picture.ensures (length-take-le 38400 c.args.block.items (omega arith))
