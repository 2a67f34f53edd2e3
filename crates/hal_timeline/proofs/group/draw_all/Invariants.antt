-- What is drawn so far, and what stands.
use Rattle.std.proofs.Common.{◌≡◌, reverse, take}
use Rattle.hal_timeline.specs.Groups.{all_groups}
use Rattle.hal_timeline.specs.Passes.{IsPast}
use Rattle.hal_timeline.proofs.group.draw_all.Given as goal

abbrev pub invariant-loop-place : goal.invariant-loop-place
invariant-loop-place l = record {
  stands : IsPast l.parts (reverse (take l.place l.events)) l.pass;
  drawn : l.groups ≡ all_groups l.parts l.lines (reverse (take l.place l.events));
}
