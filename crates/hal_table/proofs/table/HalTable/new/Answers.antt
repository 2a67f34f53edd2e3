use Rattle.hal_table.proofs.Noted.{first_read}
use Rattle.hal_table.proofs.table.HalTable.new.Goals as goal

pub returns : goal.returns
returns c = λ k. first_read k c.new_device.result c.in_ok-new.field-0 c.new-2.result c.new_device.ensures c.in_ok-new.ensures c.new-2.ensures
