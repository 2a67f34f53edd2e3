use Rattle.std.proofs.Common.{◌∙◌}
use Rattle.picture_stages.proofs.RawLemmas.{length-over}
use Rattle.picture_stages.proofs.fill.fill_raw_bands.Goals as goal

pub returns-clause-len : goal.returns-clause-len
returns-clause-len g c = length-over c.args.out.now.bytes c.write_bands.new.bytes ∙ c.requires.room
