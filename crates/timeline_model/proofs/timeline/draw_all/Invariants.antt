-- What is drawn so far, and what stands.
use Rattle.std.proofs.Common.{◌≡◌, ◌≤◌, ◌*◌, reverse, take}
use Rattle.timeline_model.specs.Drawings.{all_drawn}
use Rattle.timeline_model.specs.Walks.{Fits}
use Rattle.timeline_model.proofs.timeline.draw_all.Given as goal

abbrev pub invariant-loop-place : goal.invariant-loop-place
invariant-loop-place l = record {
  drawn : l.all ≡ all_drawn l.script (reverse (take l.place l.entries));
  stands : Fits l.script (reverse (take l.place l.entries)) l.walk;
  few : l.walk.queued ≤ l.place * 4294967295;
}
