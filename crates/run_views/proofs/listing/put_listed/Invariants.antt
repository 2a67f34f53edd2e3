use Rattle.std.proofs.Common.{take}
use Rattle.service_core.specs.Candidates.{candidates_by}
use Rattle.run_views.specs.Listing.{listed}
use Rattle.run_views.specs.Told.{TellsMore}
use Rattle.run_views.proofs.listing.put_listed.Given as goal

-- the candidates below the place are told
abbrev pub invariant-loop-place : goal.invariant-loop-place
invariant-loop-place g l = TellsMore (listed l.pick 0 (take l.place (candidates_by l.state.script l.state.parts))) l.initial.teller l.teller (g.K.Sink.state l.initial.sink) (g.K.Sink.state l.sink)
