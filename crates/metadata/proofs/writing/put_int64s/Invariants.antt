use Rattle.std.proofs.Common.{◌≡◌, ◌++◌, take}
use Rattle.std.specs.List.{flat_map, AllByRecursion}
use Rattle.std.specs.Int.{w64}
use Rattle.std.specs.Prelude.{FitsSigned}
use Rattle.metadata.specs.Values.{int64_bytes}
use Rattle.metadata.proofs.writing.put_int64s.Given as goal

abbrev pub invariant-loop-n : goal.invariant-loop-n
invariant-loop-n l = record {
  written : l.out.items ≡ l.fn.out.items ++ flat_map int64_bytes (take l.n-index l.numbers);
  fit : AllByRecursion (FitsSigned w64) (take l.n-index l.numbers);
}
