use Rattle.std.proofs.Common.{◌≡◌, ◌++◌, ◌+◌, map, length}
use Rattle.hal_model.specs.Words.{numbers}
use Rattle.hal_rows.specs.Row.{fresh_part}
use Rattle.hal_row.proofs.target.fresh_parts.Given as goal

-- what is there and what is left are all parts
abbrev pub invariant-loop-number : goal.invariant-loop-number
invariant-loop-number l = record {
  all : l.rows ++ map fresh_part (numbers l.number) ≡ map fresh_part (numbers l.parts);
  count : length l.rows + l.number ≡ l.parts;
}

abbrev pub decreases-loop-number : goal.decreases-loop-number
decreases-loop-number l = l.number
