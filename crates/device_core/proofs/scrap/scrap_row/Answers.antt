use Rattle.std.proofs.Common.{◌∙◌}
use Rattle.buffer_pool.specs.Fences.{made}
use Rattle.device_core.proofs.Scrapped.{made-parts}
use Rattle.device_core.proofs.scrap.scrap_row.Goals as goal

pub scrap_at-requires : goal.scrap_at-requires
scrap_at-requires c = (made-parts (made c.args.fences.now) c.args.row c.requires).0

pub scrap_at-requires-2 : goal.scrap_at-requires-2
scrap_at-requires-2 c = rw c.scrap_at.ensures (made-parts (made c.args.fences.now) c.args.row c.requires).1

pub scrap_at-requires-3 : goal.scrap_at-requires-3
scrap_at-requires-3 c =
    rw (c.scrap_at-2.ensures, c.scrap_at.ensures) (made-parts (made c.args.fences.now) c.args.row c.requires).2

pub scrap_at-requires-4 : goal.scrap_at-requires-4
scrap_at-requires-4 c =
    rw (c.scrap_at-3.ensures, c.scrap_at-2.ensures, c.scrap_at.ensures) (made-parts (made c.args.fences.now) c.args.row c.requires).3

pub returns : goal.returns
returns c = c.scrap_at-4.ensures ∙ (c.scrap_at-3.ensures ∙ (c.scrap_at-2.ensures ∙ c.scrap_at.ensures))
