-- Replies, case by case.
use Rattle.std.proofs.Common.{◌≡◌, false, List, refl}
use Rattle.cam_types.specs.declared.script.Command.{Command}
use Rattle.cam_types.specs.declared.script.Command.TheVariants.{Configure}
use Rattle.cam_types.specs.declared.script.Script.{Script}
use Rattle.trace_model.specs.declared.entry.Entry.{Entry}
use Rattle.trace_model.specs.Entry.{is_refusal}
use Rattle.trace_model.specs.Reply.{acceptance}

pub accepted : (script : Script) (past : List Entry) (command : Command) → is_refusal (acceptance script past command) ≡ false
accepted script past (Configure specs) = refl
accepted script past _ = refl
