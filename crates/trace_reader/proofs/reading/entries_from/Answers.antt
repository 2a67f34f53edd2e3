use Rattle.std.proofs.Common.{◌≡◌, ◌<◌, ◌++◌, ◌∷◌, [], true, false, length, ap, arith}
use Rattle.std.specs.Prelude.{codes, bytes_eq}
use Rattle.std.proofs.lemmas.List.{length-append}
use Rattle.text_parts.specs.Cuts.{parts_at}
use Rattle.trace_reader.specs.Grammar.{entries_from}
use Rattle.trace_reader.proofs.Fronts.{front_end, front_refused, front_read}
use Rattle.trace_reader.proofs.reading.entries_from.Goals as goal

pub returns-then-has_text : goal.returns-then-has_text
returns-then-has_text c =
    let end : bytes_eq c.in-Some.line.now (codes "end") ≡ true = cc in
    let more : 0 < length c.in-Some.behind.now = grind arith in
    rw c.bad.ensures (front_end c.loop-line.entries (entries_from c.args.first (parts_at 10 c.args.text.now)) c.loop-line.number c.in-Some.line.now c.in-Some.behind.now c.loop-line.rest.now
    c.in-Some.ensures.parts end more c.loop-line.invariant.same)

pub returns-in-Err : goal.returns-in-Err
returns-in-Err c =
    let goes_on : bytes_eq c.in-Some.line.now (codes "end") ≡ false = cc in
    rw c.refused.ensures (front_refused c.loop-line.entries (entries_from c.args.first (parts_at 10 c.args.text.now)) c.loop-line.number c.in-Some.line.now c.in-Some.behind.now c.loop-line.rest.now c.in-Err.why
    c.in-Some.ensures.parts goes_on c.in-Err.ensures c.loop-line.invariant.same)

pub loop-line-preserved : goal.loop-line-preserved
loop-line-preserved c =
    let goes_on : bytes_eq c.in-Some.line.now (codes "end") ≡ false = cc in
    let grown : c.push.new.self ≡ c.loop-line.entries ++ c.in-Ok.entry ∷ [] = c.in_ok-push-in-Ok.ensures.ok in
    let longer : length c.push.new.self ≡ length (c.loop-line.entries ++ c.in-Ok.entry ∷ []) = ap length grown in
    let more = length-append c.loop-line.entries (c.in-Ok.entry ∷ []) in
    record {
      same = front_read c.loop-line.entries c.push.new.self (entries_from c.args.first (parts_at 10 c.args.text.now)) c.loop-line.number c.in-Some.line.now c.in-Some.behind.now c.loop-line.rest.now c.in-Ok.entry
          c.in-Some.ensures.parts goes_on c.in-Ok.ensures grown c.loop-line.invariant.same;
      long = omega (arith, c.in-Some.ensures.shorter);
      few = omega (arith, c.in-Some.ensures.shorter, longer, more);
    }
