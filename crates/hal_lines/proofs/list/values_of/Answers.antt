use Rattle.std.proofs.Common.{◌≡◌, ◌∙◌, false, sym}
use Rattle.hal_lines.specs.Lines.{is_mark}
use Rattle.hal_lines.proofs.Fronts.{few_more, front_more}
use Rattle.hal_lines.proofs.list.values_of.Goals as goal

pub loop-word-preserved : goal.loop-word-preserved
loop-word-preserved g c =
    let unmarked : is_mark c.in-Some.word.now ≡ false = sym c.is_mark.ensures ∙ c.if-is_mark.false in
    record {
      same = front_more g.T.Word.means c.loop-word.values c.push.new.self c.in-Some.word.now _ _ c.in-Ok.value c.in-Some.ensures.words unmarked c.in_ok-push-in-Ok.ensures.ok _ (sym c.in-Ok.ensures) c.loop-word.invariant.same;
      few = few_more g.T.Word.means c.loop-word.values c.push.new.self c.in-Some.word.now _ _ c.in-Ok.value c.in-Some.ensures.words unmarked c.in_ok-push-in-Ok.ensures.ok c.loop-word.invariant.few;
    }
