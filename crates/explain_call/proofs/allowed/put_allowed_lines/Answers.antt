use Rattle.std.proofs.Common.{◌++◌, refl, take}
use Rattle.std.specs.Prelude.{codes}
use Rattle.std.specs.List.{flat_map}
use Rattle.wrong_words.specs.Lines.{most_lines}
use Rattle.explain_call.specs.Allowed.{allowed_line, allowed_lines, more_mark}
use Rattle.allowed_entries.proofs.Joins.{join, on_ok}
use Rattle.explain_call.proofs.allowed.put_allowed_lines.Goals as goal

pub returns : goal.returns
unfolding allowed_lines
returns c =
    let heading = codes "Allowed here:\n" in
    let lines = flat_map allowed_line (take most_lines c.args.all.now) in
    let mark = more_mark c.args.all.now in
    let whole = c.put_more_mark.new.text.items in
    on_ok c.put_more_mark.result _ _
    (λ last.
    join c.args.text.now.items c.extend_from_slice.new.self.items whole heading heading (lines ++ mark) c.in_ok-extend_from_slice.ensures.items refl
    (join c.extend_from_slice.new.self.items c.put_first_lines.new.text.items whole lines lines mark c.in_ok-put_first_lines.ensures refl last))
    c.put_more_mark.ensures
