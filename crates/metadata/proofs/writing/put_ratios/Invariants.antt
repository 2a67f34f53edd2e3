use Rattle.std.proofs.Common.{◌≡◌, ◌++◌, take}
use Rattle.std.specs.List.{flat_map, AllByRecursion}
use Rattle.metadata.specs.Values.{RatioFits}
use Rattle.metadata.specs.Values.{ratio_bytes}
use Rattle.metadata.proofs.writing.put_ratios.Given as goal

abbrev pub invariant-loop-r : goal.invariant-loop-r
invariant-loop-r l = record {
  written : l.out.items ≡ l.fn.out.items ++ flat_map ratio_bytes (take l.r-index l.ratios);
  fit : AllByRecursion (RatioFits) (take l.r-index l.ratios);
}
