use Rattle.std.proofs.Common.{◌≡◌, ◌≤◌, length, reverse}
use Rattle.hal_text.specs.Person.{newest}
use Rattle.hal_text.proofs.search.newest.Given as goal

-- what is found in the rest is found in all
abbrev pub invariant-loop-rest : goal.invariant-loop-rest
invariant-loop-rest l = record {
  found : newest l.clue (reverse l.rest) ≡ newest l.clue (reverse l.events);
  within : length l.rest ≤ length l.events;
}

abbrev pub decreases-loop-rest : goal.decreases-loop-rest
decreases-loop-rest l = length l.rest
