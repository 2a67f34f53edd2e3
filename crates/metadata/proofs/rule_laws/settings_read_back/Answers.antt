use Rattle.metadata.proofs.KeptParts.{settings_again}
use Rattle.metadata.proofs.rule_laws.settings_read_back.Goals as goal

pub returns : goal.returns
returns c = settings_again
