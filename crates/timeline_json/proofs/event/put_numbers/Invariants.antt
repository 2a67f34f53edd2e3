use Rattle.std.proofs.Common.{◌≡◌, take}
use Rattle.std.specs.List.{fold}
use Rattle.serde_json.specs.Data.{number, put as with, unsigned}
use Rattle.serde_json.specs.View.{members_view}
use Rattle.timeline_json.proofs.event.put_numbers.Given as goal

abbrev pub invariant-loop-member : goal.invariant-loop-member
invariant-loop-member l = members_view l.members.entries ≡ fold (λ ms m. with m.0.now (number (unsigned m.1)) ms) (members_view l.initial.members.entries) (take l.member-index l.numbers)
