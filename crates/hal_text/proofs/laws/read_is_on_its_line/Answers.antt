use Rattle.hal_text.proofs.Told.{log-told}
use Rattle.hal_text.proofs.laws.read_is_on_its_line.Goals as goal

pub returns : goal.returns
returns c text log h = log-told text log h
