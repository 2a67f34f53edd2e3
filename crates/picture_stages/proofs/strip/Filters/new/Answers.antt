use Rattle.std.proofs.Common.{◌≤◌, arith}
use Rattle.std.proofs.lemmas.List.Elements.{All-replicate}
use Rattle.std.specs.List.{All}
use lib.ListN.{replicate}
use Rattle.picture_stages.proofs.strip.Filters.new.Goals as goal

dark : All (λ v. v ≤ 959) (replicate 160 0)
dark = All-replicate (λ v. v ≤ 959) 160 0 (omega arith)

pub returns : goal.returns
returns c = (dark, dark)
