use Rattle.std.proofs.Common.{arith}
use Rattle.std.proofs.lemmas.Grind.{common_steps}
use Rattle.io_edge.proofs.Numbers.{number_digit, number_more}
use Rattle.io_edge.proofs.room.Room.+put_number.Goals as goal
use Rattle.io_edge.proofs.room.Room.+put_number.Goals.{then-number-ge10, else-number-ge10}

pub returns-clause-text : goal.returns-clause-text
returns-clause-text t c =
    elim c.if-number-ge10.branch [
      | then-number-ge10 w ↦ (let e = number_more c.args.number (omega arith) (omega arith) in grind (arith, common_steps, e))
      | else-number-ge10 w ↦ (let e = number_digit c.args.number (omega arith) in grind (arith, common_steps, e))
    ]
