use Rattle.std.proofs.Common.{◌∙◌}
use Rattle.picture_stages.proofs.RawLemmas.{length-over}
use Rattle.picture_stages.proofs.fill.draw_raw.Goals as goal

pub returns-clause-len : goal.returns-clause-len
returns-clause-len c = length-over c.args.out.now.bytes c.write_bytes.new.bytes ∙ c.requires.room
