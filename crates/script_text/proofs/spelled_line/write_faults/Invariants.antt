use Rattle.std.proofs.Common.{◌≡◌, true, ◌++◌, take, map}
use Rattle.std.specs.Prelude.{string_bytes}
use Rattle.std.specs.List.{flat_map, list_all}
use Rattle.script_text.specs.Fits.{fault_typed}
use Rattle.text_parts.specs.Lines.{line_text}
use Rattle.script_text.specs.Spelling.{fault_words}
use Rattle.script_text.proofs.spelled_line.write_faults.Given as goal

abbrev pub invariant-loop-fault : goal.invariant-loop-fault
invariant-loop-fault l = (string_bytes l.out ≡ string_bytes l.fn.out ++ flat_map line_text (map fault_words (take l.fault-index l.faults))) × (list_all fault_typed (take l.fault-index l.faults) ≡ true)
