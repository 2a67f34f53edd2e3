use Rattle.std.proofs.Common.{◌∙◌, sym}
use Rattle.device_core.proofs.Views.{find-views}
use Rattle.device_core.proofs.store.Store.view.Goals as goal

pub returns : goal.returns
returns c = rw (← c.self.view_is) (c.view.ensures.value ∙ sym (find-views c.args.frame.0 c.self.inside.table.rows))
