use Rattle.std.proofs.lemmas.Grind.{common_steps}
use Rattle.std.proofs.Common.{◌≡◌, ◌∙◌, ◌+◌, ◌++◌, List, ℕ, ap, take, drop, rules, arith}
use Rattle.std.specs.List.{flat_map}
use Rattle.reprocess_call.specs.Lines.{line_of}
use Rattle.io_edge.proofs.Gathering.{put, put-broken}
use Rattle.io_edge.proofs.Lines.{one-more, with-rest}
use Rattle.reprocess_call.proofs.run.put_lines.Goals as goal
use Rattle.basic_lemmas.proofs.Options.{on-err}

pub returns-in_err-put-clause-failed : goal.returns-in_err-put-clause-failed
returns-in_err-put-clause-failed g c =
    let old = c.args.pieces.now in
    let lines = c.args.lines.now in
    let i = c.loop-line.line-index in
    let before = old ++ flat_map line_of (take i lines) in
    let rest = flat_map line_of (drop (i + 1) lines) in
    let line : before ++ c.line.result.now ≡ old ++ flat_map line_of (take (i + 1) lines) = ap (λ (l : List ℕ). before ++ l) c.line.ensures ∙ one-more line_of old lines i _ c.loop-line-test.true in
    on-err _ _ (put-broken _ _ (g.K.Sink.state c.put.new.sink) _ before _ c.line.result.now rest c.loop-line.invariant.so_far c.in_err-put.ensures.failed (ap (λ (l : List ℕ). l ++ rest) line ∙ with-rest line_of old lines (i + 1)))

pub loop-line-preserved : goal.loop-line-preserved
loop-line-preserved g c =
    let old = c.args.pieces.now in
    let lines = c.args.lines.now in
    let i = c.loop-line.line-index in
    let before = old ++ flat_map line_of (take i lines) in
    let line : before ++ c.line.result.now ≡ old ++ flat_map line_of (take (i + 1) lines) = ap (λ (l : List ℕ). before ++ l) c.line.ensures ∙ one-more line_of old lines i _ c.loop-line-test.true in
    record {
      so_far = put _ _ _ _ _ before _ c.line.result.now c.loop-line.invariant.so_far c.in_ok-put.ensures.text line;
      uncounted = search rules;
    }

pub returns-clause-text : goal.returns-clause-text
returns-clause-text c = grind (arith, common_steps)
