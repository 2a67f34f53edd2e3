use Rattle.std.proofs.Common.{◌≡◌, ◌+◌, ◌-◌, ◌≤◌, rules, arith, length, length-drop, take, drop, subst}
use Rattle.std.proofs.lemmas.List.{take_rest}
use Rattle.std.proofs.Math.Seq.{take-add}
use Rattle.std.proofs.KnownBytes.{Appends-trans}
use Rattle.io_edge.proofs.writing.write_all.Goals as goal

pub loop-done-preserved : goal.loop-done-preserved
loop-done-preserved g c =
    let all = c.args.bytes.now in
    let done = c.loop-done.done in
    let count = c.in_ok-done.field-0 in
    let rest = take_rest all done in
    let bound : count ≤ length (drop done all) = rw rest at c.in_ok-done.ensures.bound in
    let appended = rw rest at c.in_ok-done.ensures.bytes in
    record {
      within = omega (arith, bound, length-drop done all);
      written = rw (take-add done count all) (Appends-trans _ _ _ (take done all) (take count (drop done all)) c.loop-done.invariant.written appended);
      uncounted = search rules;
      promised = λ total fits takes.
          let enough : length (drop done all) ≤ total - done = simp length-drop (omega (arith, fits)) in
          let after = rw rest at c.in_ok-done.ensures.promised (total - done) in
          let split : total - done - count ≡ total - (done + count) = omega arith in
          subst (g.K.Sink.takes _) split (after enough (c.loop-done.invariant.promised total fits takes));
    }
