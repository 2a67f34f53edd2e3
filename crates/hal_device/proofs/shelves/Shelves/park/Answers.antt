use Rattle.std.proofs.Common.{◌≡◌, false, ◌||◌, rules}
use Rattle.std.proofs.lemmas.Bool.{or_parts}
use Rattle.cam_types.specs.declared.four.Four.{Four}
use Rattle.cam_types.specs.declared.row.TargetView.{TargetView}
use Rattle.hal_device_model.specs.Calls.{lacks_block, lacks_blocks}
use Rattle.hal_device_model.specs.State.{Spares}
use Rattle.hal_device.proofs.Parking.{parked_all}
use Rattle.hal_device.proofs.shelves.Shelves.park.Goals as goal

pub returns-clause-parked : goal.returns-clause-parked
returns-clause-parked c =
    parked_all c.args.plan c.args.targets c.park_at.result c.park_at-2.result c.park_at-3.result c.park_at-4.result c.requires.packed c.requires.placed c.park_at.ensures.parked c.park_at-2.ensures.parked c.park_at-3.ensures.parked c.park_at-4.ensures.parked

no-lack : (t : Four TargetView) (s : Spares) → lacks_blocks t s ≡ false → ((lacks_block t.a s.a ≡ false) × (lacks_block t.b s.b ≡ false)) × ((lacks_block t.c s.c ≡ false) × (lacks_block t.d s.d ≡ false))
no-lack t s none =
    let parts = or_parts (lacks_block t.a s.a || lacks_block t.b s.b) (lacks_block t.c s.c || lacks_block t.d s.d) none in
    (or_parts (lacks_block t.a s.a) (lacks_block t.b s.b) parts.0, or_parts (lacks_block t.c s.c) (lacks_block t.d s.d) parts.1)

pub park_at-requires-clause-block : goal.park_at-requires-clause-block
park_at-requires-clause-block c =
    let none : lacks_blocks c.args.targets c.args.self.now ≡ false = search rules in
    (no-lack c.args.targets _ (rw (← c.self.view_is) at none)).0.0

pub park_at-requires-2-clause-block : goal.park_at-requires-2-clause-block
park_at-requires-2-clause-block c =
    let none : lacks_blocks c.args.targets c.args.self.now ≡ false = search rules in
    (no-lack c.args.targets _ (rw (← c.self.view_is) at none)).0.1

pub park_at-requires-3-clause-block : goal.park_at-requires-3-clause-block
park_at-requires-3-clause-block c =
    let none : lacks_blocks c.args.targets c.args.self.now ≡ false = search rules in
    (no-lack c.args.targets _ (rw (← c.self.view_is) at none)).1.0

pub park_at-requires-4-clause-block : goal.park_at-requires-4-clause-block
park_at-requires-4-clause-block c =
    let none : lacks_blocks c.args.targets c.args.self.now ≡ false = search rules in
    (no-lack c.args.targets _ (rw (← c.self.view_is) at none)).1.1
