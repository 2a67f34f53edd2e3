use Rattle.std.proofs.Common.{◌++◌, ◌∙◌, ap, List, ℕ, [], append-nil}
use Rattle.io_edge.proofs.Gathering.{broken, flushed, ok-as, opened, shorter}
use Rattle.io_edge.proofs.pieces.Pieces.write.Goals as goal
use Rattle.basic_lemmas.proofs.Options.{on-err, err-as}

pub returns-in_err-put-clause-failed : goal.returns-in_err-put-clause-failed
returns-in_err-put-clause-failed g c =
    on-err _ _ (shorter (g.K.Sink.state c.args.sink.now) (g.K.Sink.state c.put.new.sink) (c.clear.new.self ++ c.args.bytes.now) _ [] c.in_err-put.ensures.failed (append-nil _ ∙ ap (λ (l : List ℕ). l ++ c.args.bytes.now) c.clear.ensures))

pub returns-clause-written : goal.returns-clause-written
returns-clause-written g c =
    let whole = opened _ _ c.put.new.self c.clear.new.self c.args.bytes.now c.clear.ensures c.in_ok-put.ensures.text in
    ok-as _ _ _ (flushed _ _ (g.K.Sink.state c.flush.new.sink) _ _ whole) c.flush.ensures.written

pub returns-clause-failed : goal.returns-clause-failed
returns-clause-failed g c =
    let whole = opened _ _ c.put.new.self c.clear.new.self c.args.bytes.now c.clear.ensures c.in_ok-put.ensures.text in
    err-as _ _ _ (broken _ _ (g.K.Sink.state c.flush.new.sink) _ _ whole) c.flush.ensures.failed
