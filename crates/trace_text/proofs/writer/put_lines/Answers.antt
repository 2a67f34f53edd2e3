use Rattle.std.proofs.lemmas.Grind.{common_steps}
use Rattle.std.proofs.Common.{◌≡◌, ◌∙◌, ◌+◌, ◌++◌, List, ℕ, ap, take, drop, rules, arith}
use Rattle.std.specs.List.{flat_map}
use Rattle.trace_text.specs.Spelling.{line_of}
use Rattle.io_edge.proofs.Gathering.{put, put-broken}
use Rattle.io_edge.proofs.Lines.{one-more, with-rest}
use Rattle.trace_text.proofs.writer.put_lines.Goals as goal
use Rattle.basic_lemmas.proofs.Options.{on-err}

pub returns-in_err-put-clause-failed : goal.returns-in_err-put-clause-failed
returns-in_err-put-clause-failed g c =
    let old = c.args.pieces.now in
    let trace = c.args.trace.now in
    let i = c.loop-entry.entry-index in
    let before = old ++ flat_map line_of (take i trace) in
    let rest = flat_map line_of (drop (i + 1) trace) in
    let line : before ++ c.line.result.now ≡ old ++ flat_map line_of (take (i + 1) trace) = ap (λ (l : List ℕ). before ++ l) c.line.ensures ∙ one-more line_of old trace i _ c.loop-entry-test.true in
    on-err _ _ (put-broken _ _ (g.K.Sink.state c.put.new.sink) _ before _ c.line.result.now rest c.loop-entry.invariant.so_far c.in_err-put.ensures.failed (ap (λ (l : List ℕ). l ++ rest) line ∙ with-rest line_of old trace (i + 1)))

pub loop-entry-preserved : goal.loop-entry-preserved
loop-entry-preserved g c =
    let old = c.args.pieces.now in
    let trace = c.args.trace.now in
    let i = c.loop-entry.entry-index in
    let before = old ++ flat_map line_of (take i trace) in
    let line : before ++ c.line.result.now ≡ old ++ flat_map line_of (take (i + 1) trace) = ap (λ (l : List ℕ). before ++ l) c.line.ensures ∙ one-more line_of old trace i _ c.loop-entry-test.true in
    record {
      so_far = put _ _ _ _ _ before _ c.line.result.now c.loop-entry.invariant.so_far c.in_ok-put.ensures.text line;
      uncounted = search rules;
    }

pub line-requires : goal.line-requires
line-requires c = grind (arith, common_steps)

pub returns-clause-text : goal.returns-clause-text
returns-clause-text c = grind (arith, common_steps)
