use Rattle.std.proofs.Common.{◌++◌, codes, decimal, length}
use Rattle.service_core.specs.Candidates.{candidates_by}
use Rattle.run_views.specs.Listing.{listed}
use Rattle.run_views.proofs.Pieces.{behind}
use Rattle.run_views.proofs.listing.put_list.Goals as goal

pub returns : goal.returns
returns g c =
    let xs = candidates_by c.args.state.now.script c.args.state.now.parts in
    let count = decimal (length xs) in
    let all = listed c.args.pick 0 xs in
    let first = g.K.Sink.state c.args.sink.now in
    let one = g.K.Sink.state c.put.new.sink in
    let two = g.K.Sink.state c.put_number.new.sink in
    let three = g.K.Sink.state c.put-2.new.sink in
    let four = g.K.Sink.state c.put_number-2.new.sink in
    let five = g.K.Sink.state c.put_listed.new.sink in
    let last = g.K.Sink.state c.put-3.new.sink in
    let end = c.put-3.new.self in
    let e = behind all (codes "\n") c.put_number-2.new.self c.put_listed.new.teller end four five last c.put_listed.ensures c.put-3.ensures in
    let d = behind count (all ++ codes "\n") c.put-2.new.self c.put_number-2.new.self end three four last (rw c.requires.count at c.put_number-2.ensures) e in
    let b = behind (codes " of ") (count ++ (all ++ codes "\n")) c.put_number.new.self c.put-2.new.self end two three last c.put-2.ensures d in
    let a = behind (decimal c.args.pick) (codes " of " ++ (count ++ (all ++ codes "\n"))) c.put.new.self c.put_number.new.self end one two last c.put_number.ensures b in
    behind (codes "pick ") (decimal c.args.pick ++ (codes " of " ++ (count ++ (all ++ codes "\n")))) c.args.teller.now c.put.new.self end first one last c.put.ensures a
