use Rattle.std.proofs.Common.{◌≡◌, drop}
use Rattle.cam_types.specs.Refusals.{items_refusal}
use Rattle.request_checks.proofs.item.items_refusal.Given as goal

abbrev pub invariant-loop-place : goal.invariant-loop-place
invariant-loop-place l = items_refusal l.streams 0 l.items ≡ items_refusal l.streams l.place (drop l.place l.items)
