use Rattle.std.proofs.Common.{◌≡◌, true, ◌++◌, take, map}
use Rattle.std.specs.Prelude.{string_bytes}
use Rattle.std.specs.List.{list_all}
use Rattle.script_text.specs.Fits.{spec_typed}
use Rattle.script_text.specs.Spelling.{spec_text, behind_spaces}
use Rattle.script_text.proofs.spelled_value.write_specs.Given as goal

abbrev pub invariant-loop-spec : goal.invariant-loop-spec
invariant-loop-spec l = (string_bytes l.out ≡ string_bytes l.fn.out ++ behind_spaces (map spec_text (take l.spec-index l.specs))) × (list_all spec_typed (take l.spec-index l.specs) ≡ true)
