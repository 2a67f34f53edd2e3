use Rattle.std.proofs.Common.{arith}
use Rattle.auto_call.proofs.Few.{text-few}
use Rattle.auto_call.proofs.reading.add_scene.Goals as goal

pub push-requires : goal.push-requires
push-requires c = let few = text-few c.args.text c.requires.text in omega arith
