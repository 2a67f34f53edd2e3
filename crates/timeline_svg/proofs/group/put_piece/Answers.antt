-- Piece by piece.
use Rattle.std.proofs.Common.{ℕ, ◌∷◌, ◌++◌, List, codes, string_bytes}
use Rattle.timeline_svg.specs.Groups.{drawing_text, piece_text}
use Rattle.timeline_svg.specs.Marks.{class_of}
use Rattle.timeline_svg.proofs.Chains.{followed}
use Rattle.timeline_svg.proofs.group.put_piece.Goals as goal

pub returns : goal.returns
unfolding piece_text
returns c =
    let head : List ℕ = codes "<g class='" ++ (class_of c.args.piece.now.look ∷ codes "'>") in
    let drawing : List ℕ = drawing_text c.args.layout c.args.place c.args.piece.now in
    let end : List ℕ = codes "</g>" in
    followed c.put.result (string_bytes c.args.out.now) (string_bytes c.write.new.self) (string_bytes c.put.new.out) head (drawing ++ end) (rw c.class_of-class.ensures at c.in_ok-write.ensures.bytes) (followed c.put.result (string_bytes c.write.new.self) (string_bytes c.put_drawing.new.out) (string_bytes c.put.new.out) drawing end c.in_ok-put_drawing.ensures c.put.ensures)
