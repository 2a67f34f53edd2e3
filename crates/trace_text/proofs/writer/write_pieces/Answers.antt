use Rattle.std.proofs.Common.{◌∙◌, ◌++◌, [], append-nil, codes, refl}
use Rattle.std.specs.List.{flat_map}
use Rattle.trace_text.specs.Spelling.{line_of}
use Rattle.trace_text.specs.Texts.{text_behind}
use Rattle.io_edge.proofs.Gathering.{broken, flushed, ok-as, opened, put, put-broken, shorter}
use Rattle.trace_text.proofs.Lines.{opened-spelled, spelled}
use Rattle.trace_text.proofs.writer.write_pieces.Goals as goal
use Rattle.basic_lemmas.proofs.Options.{on-err, err-as}

pub returns-in_err-put-clause-failed : goal.returns-in_err-put-clause-failed
returns-in_err-put-clause-failed g c =
    let trace = c.args.trace.now in
    on-err _ _ (shorter (g.K.Sink.state c.args.sink.now) (g.K.Sink.state c.put.new.sink) (c.clear.new.self ++ c.args.first.now) _ (flat_map line_of trace ++ codes "end\n") c.in_err-put.ensures.failed (opened-spelled c.args.first.now trace c.clear.new.self c.clear.ensures))

pub returns-in_err-put_lines-clause-failed : goal.returns-in_err-put_lines-clause-failed
returns-in_err-put_lines-clause-failed g c =
    let trace = c.args.trace.now in
    let first = opened _ _ c.put.new.self c.clear.new.self (c.args.first.now) c.clear.ensures c.in_ok-put.ensures.text in
    on-err _ _ (put-broken _ _ (g.K.Sink.state c.put_lines.new.sink) c.put.new.self (c.args.first.now) _ (flat_map line_of trace) (codes "end\n") first c.in_err-put_lines.ensures.failed (spelled c.args.first.now trace))

pub returns-in_err-put-2-clause-failed : goal.returns-in_err-put-2-clause-failed
returns-in_err-put-2-clause-failed g c =
    let trace = c.args.trace.now in
    let first = opened _ _ c.put.new.self c.clear.new.self (c.args.first.now) c.clear.ensures c.in_ok-put.ensures.text in
    let lines = put _ _ _ c.put.new.self c.put_lines.new.pieces (c.args.first.now) (c.args.first.now ++ flat_map line_of trace) (flat_map line_of trace) first c.in_ok-put_lines.ensures.text refl in
    on-err _ _ (put-broken _ _ (g.K.Sink.state c.put-2.new.sink) c.put_lines.new.pieces (c.args.first.now ++ flat_map line_of trace) _ (codes "end\n") [] lines c.in_err-put-2.ensures.failed (append-nil _ ∙ spelled c.args.first.now trace))

pub returns-clause-written : goal.returns-clause-written
returns-clause-written g c =
    let trace = c.args.trace.now in
    let first = opened _ _ c.put.new.self c.clear.new.self (c.args.first.now) c.clear.ensures c.in_ok-put.ensures.text in
    let lines = put _ _ _ c.put.new.self c.put_lines.new.pieces (c.args.first.now) (c.args.first.now ++ flat_map line_of trace) (flat_map line_of trace) first c.in_ok-put_lines.ensures.text refl in
    let whole = put _ _ _ c.put_lines.new.pieces c.put-2.new.self (c.args.first.now ++ flat_map line_of trace) (text_behind c.args.first.now trace) (codes "end\n") lines c.in_ok-put-2.ensures.text (spelled c.args.first.now trace) in
    ok-as _ _ _ (flushed _ _ (g.K.Sink.state c.flush.new.sink) _ _ whole) c.flush.ensures.written

pub returns-clause-failed : goal.returns-clause-failed
returns-clause-failed g c =
    let trace = c.args.trace.now in
    let first = opened _ _ c.put.new.self c.clear.new.self (c.args.first.now) c.clear.ensures c.in_ok-put.ensures.text in
    let lines = put _ _ _ c.put.new.self c.put_lines.new.pieces (c.args.first.now) (c.args.first.now ++ flat_map line_of trace) (flat_map line_of trace) first c.in_ok-put_lines.ensures.text refl in
    let whole = put _ _ _ c.put_lines.new.pieces c.put-2.new.self (c.args.first.now ++ flat_map line_of trace) (text_behind c.args.first.now trace) (codes "end\n") lines c.in_ok-put-2.ensures.text (spelled c.args.first.now trace) in
    err-as _ _ _ (broken _ _ (g.K.Sink.state c.flush.new.sink) _ _ whole) c.flush.ensures.failed
