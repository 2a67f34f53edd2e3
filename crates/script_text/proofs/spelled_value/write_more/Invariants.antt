use Rattle.std.proofs.Common.{◌≡◌, true, ◌++◌, ◌∷◌, take}
use Rattle.std.specs.Prelude.{string_bytes, decimal}
use Rattle.std.specs.List.{flat_map}
use Rattle.script_text.specs.Fits.{bytes_typed}
use Rattle.script_text.proofs.spelled_value.write_more.Given as goal

abbrev pub invariant-loop-stream : goal.invariant-loop-stream
invariant-loop-stream l = (string_bytes l.out ≡ string_bytes l.fn.out ++ flat_map (λ stream. 43 ∷ decimal stream) (take l.stream-index l.streams)) × (bytes_typed (take l.stream-index l.streams) ≡ true)
