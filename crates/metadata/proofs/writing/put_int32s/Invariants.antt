use Rattle.std.proofs.Common.{◌≡◌, ◌++◌, take}
use Rattle.std.specs.List.{flat_map, AllByRecursion}
use Rattle.std.specs.Int.{w32}
use Rattle.std.specs.Prelude.{FitsSigned}
use Rattle.metadata.specs.Values.{int32_bytes}
use Rattle.metadata.proofs.writing.put_int32s.Given as goal

abbrev pub invariant-loop-n : goal.invariant-loop-n
invariant-loop-n l = record {
  written : l.out.items ≡ l.fn.out.items ++ flat_map int32_bytes (take l.n-index l.numbers);
  fit : AllByRecursion (FitsSigned w32) (take l.n-index l.numbers);
}
