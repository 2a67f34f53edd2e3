use Rattle.std.proofs.Common.{◌≡◌, ◌++◌, length, take, drop}
use Rattle.std.specs.List.{AllByRecursion}
use Rattle.metadata.specs.Fitting.{ShortFits}
use Rattle.metadata.specs.Spelling.{data_area, entries_bytes}
use Rattle.metadata.proofs.writing.put_entries.Given as goal

abbrev pub invariant-loop-entry : goal.invariant-loop-entry
invariant-loop-entry l = record {
  written : l.out.items ++ entries_bytes l.place (drop l.entry-index l.entries) ≡ l.fn.out.items ++ entries_bytes 0 l.entries;
  place : l.place ≡ length (data_area (take l.entry-index l.entries));
  fit : AllByRecursion ShortFits (take l.entry-index l.entries);
}
