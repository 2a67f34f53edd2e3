use Rattle.std.proofs.Common.{arith}
use Rattle.std.proofs.lemmas.Grind.{common_steps}
use Rattle.timeline_json.proofs.whole.notes_text.Goals as goal

pub loop-note-preserved : goal.loop-note-preserved
loop-note-preserved c = grind (arith, common_steps)

pub returns : goal.returns
returns c = grind (arith, common_steps)
