use Rattle.std.proofs.Common.{◌≡◌, ◌||◌, true, false, not, arith, below_more, reverse, sym, refl, ◌∙◌}
use Rattle.reprocess_model.specs.Past.{has_error, is_returned, is_taken}
use Rattle.reprocess_model.proofs.Found.{all_below-from}
use Rattle.reprocess_core.proofs.Below.{below-fails, either-settled, neither-settled}
use Rattle.reprocess_core.proofs.due.is_next_for.Goals as goal
use Rattle.reprocess_core.proofs.due.is_next_for.Goals.{else-is_taken-via-then-is_taken+else-not-is_settled, else-is_taken-via-else-is_taken}

pub returns-then-not-is_settled : goal.returns-then-not-is_settled
returns-then-not-is_settled c =
    let past = reverse c.args.lines.now in
    let n = c.loop-other.other in
    let s = c.args.output in
    let taken : is_taken n past ≡ true = sym c.is_taken.ensures ∙ c.if-is_taken.true in
    let open' : (is_returned n s past || has_error n past) ≡ false = grind (arith, c.is_settled.ensures, c.if-not-is_settled.true) in
    sym (below-fails c.args.request n (λ m. not (is_taken m past) || (is_returned m s past || has_error m past)) c.loop-other-test.true (neither-settled (is_taken n past) (is_returned n s past || has_error n past) taken open'))

pub loop-other-preserved : goal.loop-other-preserved
loop-other-preserved c =
    let past = reverse c.args.lines.now in
    let n = c.loop-other.other in
    let s = c.args.output in
    below_more (λ k. (not (is_taken k past) || (is_returned k s past || has_error k past)) ≡ true) n c.loop-other.invariant
    (elim c.else-is_taken.branch [
      | else-is_taken-via-then-is_taken+else-not-is_settled w ↦ (
          let settled : (is_returned n s past || has_error n past) ≡ true = grind (arith, w.is_settled.ensures, w.if-not-is_settled.false) in
          either-settled (is_taken n past) (is_returned n s past || has_error n past) settled
          )
      | else-is_taken-via-else-is_taken w ↦ (
          let untaken : is_taken n past ≡ false = sym c.is_taken.ensures ∙ w.if-is_taken.false in
          rw untaken refl
          )
    ])

pub returns : goal.returns
returns c =
    let past = reverse c.args.lines.now in
    let s = c.args.output in
    sym (all_below-from c.args.request (λ m. not (is_taken m past) || (is_returned m s past || has_error m past)) (λ k l. c.loop-other.invariant k (omega (arith, l, c.loop-other-test.false))))
