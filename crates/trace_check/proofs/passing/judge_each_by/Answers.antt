use Rattle.std.proofs.Common.{◌∙◌, ◌<◌, ◌≤◌, ◌+◌, ◌^◌, length, reverse, sym, ap, subst, take}
use Rattle.std.proofs.lemmas.Bool.{false≢true}
use Rattle.std.proofs.lemmas.List.{take_all}
use Rattle.judge_rows.specs.Judged.{Judged}
use Rattle.service_parts.proofs.Room.{buffers_fit}
use Rattle.trace_model.specs.Legal.{IsLegal}
use Rattle.trace_check.specs.Drawing.{CanDraw}
use Rattle.trace_check.specs.Held.{held}
use Rattle.trace_model.specs.Verdict.{IsVerdict}
use Rattle.trace_check.proofs.Holding.{allowed_by, can_draw}
use Rattle.trace_check.proofs.Prefixes.{illegal-at, read-newest}
use Rattle.trace_check.proofs.passing.judge_each_by.Goals as goal

pub is_due-allowed-requires-clause-numbered : goal.is_due-allowed-requires-clause-numbered
is_due-allowed-requires-clause-numbered c =
    subst (λ (t : Judged). t.state.buffers.first + (length t.state.buffers.places + 72) < 2 ^ 32) (sym c.loop-position.invariant.held) (buffers_fit c.args.script.now (reverse (take c.loop-position.position c.as_slice-entries.result.now)) c.requires.valid c.loop-position.invariant.legal)

pub is_due-allowed-requires-clause-pictures : goal.is_due-allowed-requires-clause-pictures
is_due-allowed-requires-clause-pictures c =
    subst (λ (t : Judged). CanDraw t.state) (sym c.loop-position.invariant.held) (can_draw c.args.script.now (reverse (take c.loop-position.position c.as_slice-entries.result.now)) c.loop-position.invariant.legal)

pub loop-position-preserved : goal.loop-position-preserved
loop-position-preserved c =
    let less : c.loop-position.position < length c.as_slice-entries.result.now = rw (c.as_slice-entries.ensures, ← c.len-position-end.ensures) c.loop-position-test.true in
    let past = read-newest c.as_slice-entries.result.now c.loop-position.position _ less in
    record {
      legal = subst (IsLegal c.args.script.now) (sym past) ((allowed_by c.args.script.now (reverse (take c.loop-position.position c.as_slice-entries.result.now)) _ _ c.is_due-allowed.result.0 c.loop-position.invariant.legal c.loop-position.invariant.held c.is_due-allowed.ensures).0 c.if-not-allowed.false, c.loop-position.invariant.legal);
      held = c.in-Ok.ensures ∙ ap (held c.args.script.now) (sym past);
    }

pub returns-then-not-allowed : goal.returns-then-not-allowed
returns-then-not-allowed c =
    let less : c.loop-position.position < length c.as_slice-entries.result.now = rw (c.as_slice-entries.ensures, ← c.len-position-end.ensures) c.loop-position-test.true in
    rw (← c.as_slice-entries.ensures) (illegal-at c.args.script.now c.as_slice-entries.result.now c.loop-position.position _ c.rule_of-rule.result less c.loop-position.invariant.legal (λ may. false≢true (sym c.if-not-allowed.true ∙ (allowed_by c.args.script.now (reverse (take c.loop-position.position c.as_slice-entries.result.now)) _ _ c.is_due-allowed.result.0 c.loop-position.invariant.legal c.loop-position.invariant.held c.is_due-allowed.ensures).1 may)) c.rule_of-rule.ensures)

pub note_by-requires-clause-allowed : goal.note_by-requires-clause-allowed
note_by-requires-clause-allowed c =
    (allowed_by c.args.script.now (reverse (take c.loop-position.position c.as_slice-entries.result.now)) _ _ c.is_due-allowed.result.0 c.loop-position.invariant.legal c.loop-position.invariant.held c.is_due-allowed.ensures).0 c.if-not-allowed.false

pub judge_end_by-requires-clause-legal : goal.judge_end_by-requires-clause-legal
judge_end_by-requires-clause-legal c =
    let over : length c.as_slice-entries.result.now ≤ c.loop-position.position = rw (c.as_slice-entries.ensures, ← c.len-position-end.ensures) c.loop-position-test.false in
    subst (λ past. IsLegal c.args.script.now (reverse past)) (take_all c.loop-position.position c.as_slice-entries.result.now over) c.loop-position.invariant.legal

pub judge_end_by-requires-clause-held : goal.judge_end_by-requires-clause-held
judge_end_by-requires-clause-held c =
    let over : length c.as_slice-entries.result.now ≤ c.loop-position.position = rw (c.as_slice-entries.ensures, ← c.len-position-end.ensures) c.loop-position-test.false in
    c.loop-position.invariant.held ∙ ap (λ past. held c.args.script.now (reverse past)) (take_all c.loop-position.position c.as_slice-entries.result.now over)

pub returns : goal.returns
returns c =
    subst (λ trace. IsVerdict c.args.script.now trace c.judge_end_by.result) c.as_slice-entries.ensures c.judge_end_by.ensures
