use Rattle.std.proofs.Common.{◌≡◌, [], ◌∷◌, ◌++◌, take}
use Rattle.std.specs.Prelude.{codes}
use Rattle.std.specs.List.{flat_map}
use Rattle.text_parts.specs.Lines.{line_text}
use Rattle.auto_call.specs.OutputLines.{line_of}
use Rattle.auto_call.proofs.output_line.front_text.Given as goal

abbrev pub invariant-loop-line : goal.invariant-loop-line
invariant-loop-line l =
    l.out.items ≡ line_text (codes "auto" ∷ codes "1" ∷ []) ++ flat_map line_of (take l.line-index l.lines)
