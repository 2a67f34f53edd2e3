use Rattle.std.proofs.Common.{refl}
use Rattle.picture_stages.proofs.PartLemmas.{above-all, above-each, above-len}
use Rattle.picture_stages.proofs.lanes.above_dark.Goals as goal

pub returns : goal.returns
returns c = record {
  each = above-each _ c.args.values (λ x. refl) c.requires.len c.requires.values;
  len = above-len _ c.args.values c.requires.len;
  range = above-all _ c.args.values (λ x. refl) c.requires.len c.requires.values;
}
