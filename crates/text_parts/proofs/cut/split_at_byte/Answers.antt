use Rattle.std.proofs.Common.{length, ◌<◌, arith, add-one, sym}
use Rattle.std.proofs.lemmas.List.{drop-drop, take_rest}
use Rattle.text_parts.proofs.Cuts.{cut_nowhere, cut_here, one_cut_nowhere, one_cut_here}
use Rattle.text_parts.proofs.cut.split_at_byte.Goals as goal

pub returns-then-place-text-clause-parts : goal.returns-then-place-text-clause-parts
returns-then-place-text-clause-parts c =
    cut_nowhere c.args.byte c.args.text.now (λ k l. c.place_of-place.ensures.before k (omega arith))

pub returns-then-place-text-clause-cut : goal.returns-then-place-text-clause-cut
returns-then-place-text-clause-cut c =
    sym (one_cut_nowhere c.args.byte c.args.text.now (λ k l. c.place_of-place.ensures.before k (omega arith)))

pub returns-clause-parts : goal.returns-clause-parts
returns-clause-parts c =
    let within : c.place_of-place.result < length c.args.text.now = omega arith in
    rw (take_rest c.split_at.result.1.now 1, c.split_at.ensures.back, c.split_at.ensures.front, drop-drop 1 c.place_of-place.result c.args.text.now, add-one)
    (cut_here c.args.byte c.args.text.now c.place_of-place.result within (c.place_of-place.ensures.found within) c.place_of-place.ensures.before)

pub returns-clause-cut : goal.returns-clause-cut
returns-clause-cut c =
    let within : c.place_of-place.result < length c.args.text.now = omega arith in
    rw (take_rest c.split_at.result.1.now 1, c.split_at.ensures.back, c.split_at.ensures.front, drop-drop 1 c.place_of-place.result c.args.text.now, add-one)
    (sym (one_cut_here c.args.byte c.args.text.now c.place_of-place.result within (c.place_of-place.ensures.found within) c.place_of-place.ensures.before))
