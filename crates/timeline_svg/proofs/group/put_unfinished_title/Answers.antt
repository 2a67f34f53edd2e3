-- Piece by piece.
use Rattle.std.proofs.Common.{ℕ, ◌++◌, List, codes, string_bytes}
use Rattle.timeline_svg.specs.Groups.{number_of}
use Rattle.timeline_svg.proofs.Chains.{followed}
use Rattle.timeline_svg.proofs.group.put_unfinished_title.Goals as goal

pub returns : goal.returns
returns c =
    let number : List ℕ = number_of c.args.frame in
    let end : List ℕ = codes " isn't done</title>" in
    followed c.put-2.result (string_bytes c.args.out.now) (string_bytes c.put.new.out) (string_bytes c.put-2.new.out) (codes "<g class='o'><title>frame ") (number ++ end) c.in_ok-put.ensures (followed c.put-2.result (string_bytes c.put.new.out) (string_bytes c.put_number_of.new.out) (string_bytes c.put-2.new.out) number end c.in_ok-put_number_of.ensures c.put-2.ensures)
