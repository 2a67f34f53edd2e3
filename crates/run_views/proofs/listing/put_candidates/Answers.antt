use Rattle.std.proofs.Common.{◌≡◌, ◌%◌, ◌<◌, arith, inl, inr, length, refl}
use Rattle.run_model.specs.Played.{pick_at}
use Rattle.service_core.specs.Candidates.{candidates_by}
use Rattle.service_core.proofs.Reading.{read}
use Rattle.run_views.proofs.Moves.{line_read}
use Rattle.run_views.proofs.Pieces.{same_bytes}
use Rattle.run_views.proofs.listing.put_candidates.Goals as goal

pub nonzero_rem-pick : goal.nonzero_rem-pick
nonzero_rem-pick g c =
    let s = c.args.service.now in
    let law = c.candidates_are_read_from_the_parts.ensures s.script s.history c.is_a_run.ensures.run in
    let all = read s c.parts-state.result.now c.parts-state.ensures.parts law in
    let xs = candidates_by c.parts-state.result.now.script c.parts-state.result.now.parts in
    let some : 0 < length xs = elim (c.a_run_is_never_stuck.ensures.candidates s.script s.history c.is_a_run.ensures.valid c.is_a_run.ensures.run) [
      | inl done ↦ absurd (c.requires done)
      | inr some ↦ rw all some
    ] in
    omega (arith, some, c.candidate_count-count.ensures)

pub returns : goal.returns
returns g c =
    let s = c.args.service.now in
    let law = c.candidates_are_read_from_the_parts.ensures s.script s.history c.is_a_run.ensures.run in
    let all = read s c.parts-state.result.now c.parts-state.ensures.parts law in
    let xs = candidates_by c.parts-state.result.now.script c.parts-state.result.now.parts in
    let pick : c.from.result % c.candidate_count-count.result ≡ pick_at s.script (length s.history) % length xs = rw (c.from.ensures, c.pick.ensures, c.candidate_count-count.ensures) refl in
    same_bytes _ _ c.args.teller.now c.put_list.new.teller (g.K.Sink.state c.args.sink.now) (g.K.Sink.state c.put_list.new.sink) (line_read s.script s.history xs (c.from.result % c.candidate_count-count.result) all pick) c.put_list.ensures
