use Rattle.std.proofs.Common.{◌≡◌, true, ◌++◌, take, map}
use Rattle.std.specs.Prelude.{string_bytes}
use Rattle.std.specs.List.{flat_map, list_all}
use Rattle.script_text.specs.Fits.{command_typed}
use Rattle.text_parts.specs.Lines.{line_text}
use Rattle.script_text.specs.Spelling.{command_line_words}
use Rattle.script_text.proofs.spelled_line.write_commands.Given as goal

abbrev pub invariant-loop-command : goal.invariant-loop-command
invariant-loop-command l = (string_bytes l.out ≡ string_bytes l.fn.out ++ flat_map line_text (map command_line_words (take l.command-index l.commands))) × (list_all command_typed (take l.command-index l.commands) ≡ true)
