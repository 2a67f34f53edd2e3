-- Piece by piece.
use Rattle.std.proofs.Common.{ℕ, ◌++◌, List, codes, string_bytes}
use Rattle.std.specs.List.{flat_map}
use Rattle.timeline_svg.specs.Escapes.{escaped}
use Rattle.timeline_svg.specs.Pictures.{note_line}
use Rattle.timeline_svg.proofs.Chains.{followed}
use Rattle.timeline_svg.proofs.picture.put_note.Goals as goal

pub returns : goal.returns
unfolding note_line
returns c =
    let note : List ℕ = flat_map escaped c.args.note.now in
    let end : List ℕ = codes "</tspan>" in
    followed c.put-2.result (string_bytes c.args.out.now) (string_bytes c.put.new.out) (string_bytes c.put-2.new.out) (codes "<tspan x='4' dy='16'>") (note ++ end) c.in_ok-put.ensures (followed c.put-2.result (string_bytes c.put.new.out) (string_bytes c.put_escaped.new.out) (string_bytes c.put-2.new.out) note end c.in_ok-put_escaped.ensures c.put-2.ensures)
