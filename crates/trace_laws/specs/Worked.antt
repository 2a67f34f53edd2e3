use Rattle.std.specs.Prelude.{false, List, [], ◌∷◌}
use Rattle.cam_types.specs.declared.item.Item.{Item}
use Rattle.cam_types.specs.declared.script.Command.{Command}
use Rattle.cam_types.specs.declared.script.Command.TheVariants.{Once, Burst, Repeat, Await, Close, Disconnect}
use Rattle.cam_types.specs.declared.script.Script.{Script}

-- Scripts whose bounds `src/worked.rt` tells.

abbrev pub of_commands : List Command → Script
of_commands commands =
    record {
      version = 1;
      profile = record { depth = 6; raw = 3; yuv = 4 };
      early = false;
      faults = [];
      picks = [];
      commands = commands;
    }

-- one capture
abbrev pub once_script : Item → Script
once_script item = of_commands (Once item ∷ (Close ∷ []))

-- a burst of two
abbrev pub burst_script : Item → Item → Script
burst_script first second = of_commands (Burst (first ∷ (second ∷ [])) ∷ (Close ∷ []))

-- a repeating list, of which a hundred frames are waited for
abbrev pub await_script : List Item → Script
await_script items = of_commands (Repeat items ∷ (Await 100 ∷ (Disconnect ∷ [])))
