use Rattle.std.proofs.Common.{◌≤◌, arith}
use Rattle.std.proofs.lemmas.List.Elements.{All-replicate}
use Rattle.std.specs.List.{All}
use lib.ListN.{replicate}
use Rattle.picture_stages.proofs.strip.Colours.new.Goals as goal

black : All (λ v. v ≤ 255) (replicate 80 0)
black = All-replicate (λ v. v ≤ 255) 80 0 (omega arith)

pub returns : goal.returns
returns c = (black, black, black)
