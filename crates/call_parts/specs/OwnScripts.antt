-- What the scripts that a call makes itself have in common. (docs/FORMATS.md, several clients, automatic exposure; our own
-- choice)
use Rattle.std.specs.Prelude.{false, List, [], ◌∷◌}
use Rattle.cam_types.specs.declared.item.Item.{Item}
use Rattle.cam_types.specs.declared.item.Settings.{Settings}
use Rattle.cam_types.specs.declared.script.Command.{Command}
use Rattle.cam_types.specs.declared.script.Script.{Script}
use Rattle.cam_types.specs.declared.stream.Format.TheVariants.{Yuv}
use Rattle.cam_types.specs.declared.stream.StreamSpec.{StreamSpec}
use Rattle.script_text.specs.Grammar.{plain_profile}

-- `yuv:40x30` as stream 0
abbrev pub small_stream : List StreamSpec
small_stream = record { input = false; format = Yuv; width = 40; height = 30 } ∷ []

-- the settings for stream 0
abbrev pub for_first_stream : Settings → Item
for_first_stream s = record {
  settings = s;
  targets = record { count = 1; list = 0 ∷ 0 ∷ 0 ∷ 0 ∷ 0 ∷ 0 ∷ 0 ∷ 0 ∷ [] };
}

-- the script of the commands alone: of version 1, whose device has the plain profile, with no fault and no pick
abbrev pub plain_script : List Command → Script
plain_script commands = record {
  version = 1;
  profile = plain_profile;
  early = false;
  faults = [];
  picks = [];
  commands = commands;
}
