use Rattle.std.proofs.Common.{◌++◌, [], codes, List, ℕ, subst}
use Rattle.cam_types.specs.declared.script.Script.{Script}
use Rattle.run_model.specs.Played.{IsPlayedRun}
use Rattle.run_views.specs.Listing.{told}
use Rattle.run_views.specs.Told.{IsTold}
use Rattle.run_views.proofs.Moves.{told_behind, whole_answered}
use Rattle.run_views.proofs.Pieces.{none_told}
use Rattle.run_views.proofs.opened.tell_run.Goals as goal
use Rattle.call_parts.specs.Status.{status_number}

pub returns : goal.returns
returns g c =
    let first = g.K.Sink.state c.args.sink.now in
    let front = codes "candidates 1\n" in
    let past = c.args.service in
    let now = c.tell_moves.new.service in
    let none : IsTold c.args.memory.teller first first [] = rw c.requires.teller (none_told first) in
    let begun : IsTold c.put.new.self first (g.K.Sink.state c.put.new.sink) (front ++ told past.script past.history) = subst (λ (l : List ℕ). IsTold c.put.new.self first (g.K.Sink.state c.put.new.sink) l) (told_behind front past.script past.history c.requires.service) (c.put.ensures first [] none) in
    let moves = c.tell_moves.ensures.told first front begun in
    let all = c.put-2.ensures first (front ++ told now.script now.history) moves in
    let end = c.finish-status.ensures first ((front ++ told now.script now.history) ++ codes "end\n") all in
    record {
      history = now.history;
      run = subst (λ (s : Script). IsPlayedRun s now.history) c.tell_moves.ensures.script c.tell_moves.ensures.played;
      answers = whole_answered past.script now (status_number c.finish-status.result) first (g.K.Sink.state c.finish-status.new.sink) c.tell_moves.ensures.script end;
    }
