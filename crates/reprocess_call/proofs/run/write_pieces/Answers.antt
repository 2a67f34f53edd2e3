use Rattle.std.proofs.Common.{◌∙◌, ◌++◌, [], append-nil, append_assoc, ap, codes, refl, sym, List, ℕ}
use Rattle.std.specs.List.{flat_map}
use Rattle.reprocess_call.specs.Lines.{first_line, line_of, run_text}
use Rattle.io_edge.proofs.Gathering.{broken, flushed, ok-as, opened, put, put-broken, shorter}
use Rattle.reprocess_call.proofs.run.write_pieces.Goals as goal
use Rattle.basic_lemmas.proofs.Options.{on-err, err-as}

pub returns-in_err-put-clause-failed : goal.returns-in_err-put-clause-failed
returns-in_err-put-clause-failed g c =
    let lines = flat_map line_of c.args.lines.now in
    let behind = append_assoc (c.clear.new.self ++ first_line) lines (codes "end\n") in
    on-err _ _ (shorter (g.K.Sink.state c.args.sink.now) (g.K.Sink.state c.put.new.sink) (c.clear.new.self ++ first_line) (run_text c.args.lines.now) (lines ++ codes "end\n") c.in_err-put.ensures.failed (sym behind ∙ ap (λ (l : List ℕ). ((l ++ first_line) ++ lines) ++ codes "end\n") c.clear.ensures))

pub returns-in_err-put_lines-clause-failed : goal.returns-in_err-put_lines-clause-failed
returns-in_err-put_lines-clause-failed g c =
    let lines = flat_map line_of c.args.lines.now in
    let first = opened _ _ c.put.new.self c.clear.new.self first_line c.clear.ensures c.in_ok-put.ensures.text in
    on-err _ _ (put-broken _ _ (g.K.Sink.state c.put_lines.new.sink) c.put.new.self first_line (run_text c.args.lines.now) lines (codes "end\n") first c.in_err-put_lines.ensures.failed refl)

pub returns-in_err-put-2-clause-failed : goal.returns-in_err-put-2-clause-failed
returns-in_err-put-2-clause-failed g c =
    let lines = flat_map line_of c.args.lines.now in
    let first = opened _ _ c.put.new.self c.clear.new.self first_line c.clear.ensures c.in_ok-put.ensures.text in
    let most = put _ _ _ c.put.new.self c.put_lines.new.pieces first_line (first_line ++ lines) lines first c.in_ok-put_lines.ensures.text refl in
    on-err _ _ (put-broken _ _ (g.K.Sink.state c.put-2.new.sink) c.put_lines.new.pieces (first_line ++ lines) (run_text c.args.lines.now) (codes "end\n") [] most c.in_err-put-2.ensures.failed (append-nil _))

pub returns-clause-written : goal.returns-clause-written
returns-clause-written g c =
    let lines = flat_map line_of c.args.lines.now in
    let first = opened _ _ c.put.new.self c.clear.new.self first_line c.clear.ensures c.in_ok-put.ensures.text in
    let most = put _ _ _ c.put.new.self c.put_lines.new.pieces first_line (first_line ++ lines) lines first c.in_ok-put_lines.ensures.text refl in
    let whole = put _ _ _ c.put_lines.new.pieces c.put-2.new.self (first_line ++ lines) (run_text c.args.lines.now) (codes "end\n") most c.in_ok-put-2.ensures.text refl in
    ok-as _ _ _ (flushed _ _ (g.K.Sink.state c.flush.new.sink) _ _ whole) c.flush.ensures.written

pub returns-clause-failed : goal.returns-clause-failed
returns-clause-failed g c =
    let lines = flat_map line_of c.args.lines.now in
    let first = opened _ _ c.put.new.self c.clear.new.self first_line c.clear.ensures c.in_ok-put.ensures.text in
    let most = put _ _ _ c.put.new.self c.put_lines.new.pieces first_line (first_line ++ lines) lines first c.in_ok-put_lines.ensures.text refl in
    let whole = put _ _ _ c.put_lines.new.pieces c.put-2.new.self (first_line ++ lines) (run_text c.args.lines.now) (codes "end\n") most c.in_ok-put-2.ensures.text refl in
    err-as _ _ _ (broken _ _ (g.K.Sink.state c.flush.new.sink) _ _ whole) c.flush.ensures.failed
