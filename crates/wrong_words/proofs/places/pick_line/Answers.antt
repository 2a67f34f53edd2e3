use Rattle.std.proofs.Common.{ap, arith, ◌∙◌}
use Rattle.std.specs.Option.{option_map}
use Rattle.text_parts.specs.Lines.{lines_of}
use Rattle.wrong_words.specs.Places.{pick_number, picks_of}
use Rattle.wrong_words.proofs.Walk.{behind_line, in_line}
use Rattle.wrong_words.proofs.places.pick_line.Goals as goal

pub returns-then-left-count : goal.returns-then-left-count
unfolding picks_of pick_number
returns-then-left-count c =
    in_line c.loop-line.number c.in-Some.line.now (lines_of c.in-Some.behind.now) (lines_of c.loop-line.rest.now) c.loop-line.left c.pick_count-count.result c.in-Some.ensures.lines c.pick_count-count.ensures c.if-left-count.true
    ∙ ap (option_map (λ pick. pick.0)) c.loop-line.invariant.found

pub loop-line-preserved : goal.loop-line-preserved
loop-line-preserved c = record {
  found =
      behind_line c.loop-line.number c.in-Some.line.now (lines_of c.in-Some.behind.now) (lines_of c.loop-line.rest.now) c.loop-line.left c.pick_count-count.result c.in-Some.ensures.lines c.pick_count-count.ensures (omega arith)
      ∙ c.loop-line.invariant.found;
  numbers = omega (arith, c.in-Some.ensures.shorter, c.loop-line.invariant.numbers);
}
