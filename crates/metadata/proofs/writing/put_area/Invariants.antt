use Rattle.std.proofs.Common.{◌≡◌, ◌++◌, take}
use Rattle.std.specs.List.{AllByRecursion}
use Rattle.metadata.specs.Fitting.{LongFits}
use Rattle.metadata.specs.Spelling.{data_area}
use Rattle.metadata.proofs.writing.put_area.Given as goal

abbrev pub invariant-loop-entry : goal.invariant-loop-entry
invariant-loop-entry l = record {
  written : l.out.items ≡ l.fn.out.items ++ data_area (take l.entry-index l.entries);
  fit : AllByRecursion LongFits (take l.entry-index l.entries);
}
