use Rattle.std.proofs.Common.{arith}
use Rattle.std.proofs.lemmas.List.{length-take-le}
use Rattle.picture_stages.proofs.canvas.draw_raw.Goals as goal

pub fill_raw-digest-requires-clause-room : goal.fill_raw-digest-requires-clause-room
fill_raw-digest-requires-clause-room c =
    let all = c.requires.block in
    rw c.over-picture.ensures (length-take-le 38400 c.args.block.items (omega arith))
