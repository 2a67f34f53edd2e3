use Rattle.std.proofs.Common.{◌*◌, arith, ◌∙◌}
use Rattle.picture_stages.proofs.RawLemmas.{raw_picture-all}
use Rattle.picture_stages.proofs.fill.write_bytes.Goals as goal

pub returns : goal.returns
returns c =
    raw_picture-all c.args.values.now c.loop-i.bytes c.loop-i.i (c.loop-i.i * 2) (c.loop-i.auto.bytes ∙ c.requires) (omega arith) (omega arith) c.loop-i.invariant
