use Rattle.std.proofs.Common.{rules}
use Rattle.script_text.proofs.draft.Draft.has_commands.Goals as goal

pub returns : goal.returns
returns c = search rules
