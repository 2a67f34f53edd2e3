use Rattle.std.proofs.Common.{◌∙◌, ◌<◌, length, sym, subst}
use Rattle.std.proofs.lemmas.Bool.{false≢true}
use Rattle.trace_model.specs.Legal.{IsLegal}
use Rattle.trace_check.proofs.Prefixes.{illegal-at, read-newest}
use Rattle.trace_check.proofs.judge.judge_each.Goals as goal

pub loop-position-preserved : goal.loop-position-preserved
loop-position-preserved c =
    let less : c.loop-position.position < length c.as_slice-entries.result.now = rw (c.as_slice-entries.ensures, ← c.len-position-end.ensures) c.loop-position-test.true in
    let past = read-newest c.as_slice-entries.result.now c.loop-position.position _ less in
    subst (IsLegal c.args.script.now) (sym past) (c.is_allowed-allowed.ensures.0 c.if-not-allowed.false, c.loop-position.invariant)

pub returns-then-not-allowed : goal.returns-then-not-allowed
returns-then-not-allowed c =
    let less : c.loop-position.position < length c.as_slice-entries.result.now = rw (c.as_slice-entries.ensures, ← c.len-position-end.ensures) c.loop-position-test.true in
    rw (← c.as_slice-entries.ensures) (illegal-at c.args.script.now c.as_slice-entries.result.now c.loop-position.position _ c.rule_of.result less c.loop-position.invariant (λ may. false≢true (sym c.if-not-allowed.true ∙ c.is_allowed-allowed.ensures.1 may)) c.rule_of.ensures)
