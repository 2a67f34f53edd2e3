use Rattle.std.proofs.Common.{◌∙◌, refl, ap}
use Rattle.buffer_pool.specs.Fences.{made}
use Rattle.device_core.specs.Stored.{specs_of}
use Rattle.device_core.specs.Unpacked.{is_made_row}
use Rattle.device_core.proofs.Scrapped.{all-last, made-rows}
use Rattle.device_rows.specs.TableRows.{Rows}
use Rattle.device_core.specs.declared.buffers.Held.{Held}
use Rattle.device_core.proofs.store.Store.scrap.Goals as goal

pub loop-row-init : goal.loop-row-init
loop-row-init c = record {
  fences = refl;
  made = made-rows (made c.args.fences.now) (specs_of c.self.inside.plan) c.self.inside.table.rows c.self.invariant.filled (rw (← c.self.view_is) at c.requires.made);
}

pub scrap_row-requires : goal.scrap_row-requires
scrap_row-requires c =
    rw c.loop-row.invariant.fences (all-last (is_made_row (made c.args.fences.now)) c.loop-row.table.rows c.pop.new.self.rows c.in-Some.row c.in-Some.ensures.last c.loop-row.invariant.made).1

pub close-requires : goal.close-requires
close-requires c =
    let same = c.in_default.ensures.unchanged refl in
    ap (λ (z : Rows Held). z.rows) same ∙ c.in_default.ensures.none.0 refl
