use Rattle.service_state.proofs.Made.{held, serving_as}
use Rattle.service_state.proofs.Room.{home_given, rows_given}
use Rattle.service_state.proofs.Signallers.{below_first}
use Rattle.service_state.proofs.state.ServiceState.scrap.Goals as goal

pub scrap-requires-clause-made : goal.scrap-requires-clause-made
scrap-requires-clause-made c =
    let i = c.self.inside in
    let s = held i in
    rows_given s (serving_as s c.args.self c.self.view_is c.requires.serving)

pub scrap-requires-2 : goal.scrap-requires-2
scrap-requires-2 c =
    let i = c.self.inside in
    let s = held i in
    rw c.scrap.ensures (home_given s (serving_as s c.args.self c.self.view_is c.requires.serving))

pub scrap-requires-3 : goal.scrap-requires-3
scrap-requires-3 c =
    let i = c.self.inside in
    rw (c.scrap-2.ensures, c.scrap.ensures, c.self.invariant.signallers) (below_first i.fences.signalled)
