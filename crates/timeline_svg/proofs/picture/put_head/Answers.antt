-- Piece by piece.
use Rattle.std.proofs.Common.{ℕ, ◌++◌, List, codes, string_bytes}
use Rattle.timeline_svg.specs.Pictures.{head_text, size_text}
use Rattle.timeline_svg.specs.declared.style.TheConstants.{STYLE}
use Rattle.timeline_svg.proofs.Chains.{followed}
use Rattle.timeline_svg.proofs.picture.put_head.Goals as goal

pub returns : goal.returns
unfolding head_text
returns c =
    let size : List ℕ = size_text c.args.right c.args.high in
    followed c.put-2.result (string_bytes c.args.out.now) (string_bytes c.put.new.out) (string_bytes c.put-2.new.out) (codes "<svg xmlns='http://www.w3.org/2000/svg' width='") (size ++ STYLE.now) c.in_ok-put.ensures (followed c.put-2.result (string_bytes c.put.new.out) (string_bytes c.put_size.new.out) (string_bytes c.put-2.new.out) size STYLE.now c.in_ok-put_size.ensures c.put-2.ensures)
