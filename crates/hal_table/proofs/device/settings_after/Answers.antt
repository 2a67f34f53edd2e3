use Rattle.std.proofs.Common.{rules}
use Rattle.hal_table.proofs.device.settings_after.Goals as goal

pub returns-in-ConfigureOk : goal.returns-in-ConfigureOk
returns-in-ConfigureOk c = search rules
