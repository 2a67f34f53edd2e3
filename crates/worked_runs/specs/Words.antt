-- Short words for what the worked runs are written with.
use Rattle.std.specs.Prelude.{ℕ, true, false, List}
use Rattle.cam_types.specs.Worked.{shot}
use Rattle.cam_types.specs.declared.item.Item.{Item}
use Rattle.cam_types.specs.declared.item.Settings.{Settings}
use Rattle.cam_types.specs.declared.stream.Format.{Format}
use Rattle.cam_types.specs.declared.stream.StreamSpec.{StreamSpec}

-- the settings of the template for a preview
abbrev pub preview : Settings
preview = shot 2 128 10000000 100

abbrev pub item : Settings → ℕ → List ℕ → Item
item settings count list = record { settings = settings; targets = record { count = count; list = list } }

abbrev pub input : Format → ℕ → ℕ → StreamSpec
input format width height = record { input = true; format = format; width = width; height = height }

abbrev pub output : Format → ℕ → ℕ → StreamSpec
output format width height = record { input = false; format = format; width = width; height = height }
