use Rattle.picture_stages.proofs.GainLemmas.{gain-most}
use Rattle.picture_stages.proofs.scene.gain_of.Goals as goal

pub returns-clause-most : goal.returns-clause-most
returns-clause-most c = gain-most c.args.settings c.requires
