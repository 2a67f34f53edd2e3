-- What the client of a session does at its camera: it previews until it has seen so many frames, and then closes, or is
-- disconnected where it was evicted. (docs/FORMATS.md, several clients; our own choice)
use Rattle.std.specs.Prelude.{ℕ, Bool, true, false, ◌&&◌, List, [], ◌∷◌, nat_le, Option, Some, None}
use Rattle.cam_types.specs.declared.item.Item.{Item}
use Rattle.cam_types.specs.declared.script.Command.{Command}
use Rattle.cam_types.specs.declared.script.Command.TheVariants.{Configure, Repeat, Await, Close, Disconnect}
use Rattle.cam_types.specs.declared.script.Script.{Script}
use Rattle.call_parts.specs.OwnScripts.{for_first_stream, plain_script, small_stream}
use Rattle.metadata.specs.Templates.{template_of}
use Rattle.metadata.specs.declared.rule.Template.TheVariants.{Preview}
use Rattle.arbiter_call.specs.declared.answer.LogLine.{LogLine}
use Rattle.arbiter_call.specs.declared.answer.LogLine.TheVariants.{Evict, Leave}

-- `preview@0`
abbrev pub preview : Item
preview = for_first_stream (template_of Preview)

-- `configure yuv:40x30`, `repeat preview@0`, `await N` and the last command
abbrev pub session_commands : ℕ → Command → List Command
session_commands shots last = Configure small_stream ∷ Repeat (preview ∷ []) ∷ Await shots ∷ last ∷ []

unfoldable pub session_script : ℕ → Command → Script
session_script shots last = plain_script (session_commands shots last)

-- the script of the session that a line ends, if it ends one
abbrev pub script_behind : LogLine → Option Script
script_behind (Evict s) = Some (session_script s.shots Disconnect)
script_behind (Leave s) = Some (session_script s.shots Close)
script_behind _ = None

-- a session that ends has 1 to 100 frames to wait for
abbrev pub shots_fit : LogLine → Bool
shots_fit (Evict s) = nat_le 1 s.shots && nat_le s.shots 100
shots_fit (Leave s) = nat_le 1 s.shots && nat_le s.shots 100
shots_fit _ = true
