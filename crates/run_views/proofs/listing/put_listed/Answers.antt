use Rattle.std.proofs.lemmas.Grind.{elements}
use Rattle.std.proofs.Common.{◌≡◌, ◌∙◌, ◌+◌, Some, arith, slice_get, sym, take}
use Rattle.service_core.specs.Candidates.{candidates_by}
use Rattle.run_views.specs.Listing.{candidate_text, listed}
use Rattle.run_views.proofs.Lists.{all_listed, one_more}
use Rattle.run_views.proofs.Pieces.{behind, nothing_more, same_bytes}
use Rattle.run_views.proofs.listing.put_listed.Goals as goal

pub loop-place-init : goal.loop-place-init
loop-place-init g c = nothing_more c.args.teller.now (g.K.Sink.state c.args.sink.now)

pub loop-place-preserved : goal.loop-place-preserved
loop-place-preserved g c =
    let xs = candidates_by c.args.state.now.script c.args.state.now.parts in
    let n = c.loop-place.place in
    let at : slice_get xs n ≡ Some c.in-Some.step = sym c.candidate_at.ensures ∙ c.in-Some.is in
    let more = behind (listed c.args.pick 0 (take n xs)) (candidate_text c.args.pick n c.in-Some.step) c.args.teller.now c.loop-place.teller c.put_candidate.new.teller (g.K.Sink.state c.args.sink.now) (g.K.Sink.state c.loop-place.sink) (g.K.Sink.state c.put_candidate.new.sink) c.loop-place.invariant c.put_candidate.ensures in
    same_bytes _ _ c.args.teller.now c.put_candidate.new.teller (g.K.Sink.state c.args.sink.now) (g.K.Sink.state c.put_candidate.new.sink) (one_more c.args.pick 0 n n (n + 1) xs c.in-Some.step at (omega arith) (omega arith)) more

pub returns : goal.returns
returns g c =
    let xs = candidates_by c.args.state.now.script c.args.state.now.parts in
    same_bytes _ _ c.args.teller.now c.loop-place.teller (g.K.Sink.state c.args.sink.now) (g.K.Sink.state c.loop-place.sink) (all_listed c.args.pick 0 xs c.loop-place.place (omega (arith, c.requires.count))) c.loop-place.invariant

pub unreachable-requires : goal.unreachable-requires
unreachable-requires c = grind (arith, elements)
