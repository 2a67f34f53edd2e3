use Rattle.std.proofs.Common.{◌≡◌, ap, ◌∙◌, rules}
use Rattle.metadata.specs.Numbers.{settings_in, settings_entries}
use Rattle.metadata.proofs.KeptParts.{settings_again}
use Rattle.metadata.proofs.settings.packed_of.Goals as goal

pub returns-clause-again : goal.returns-clause-again
returns-clause-again c =
    let entries : c.put_int32-2.new.packed ≡ settings_entries c.args.settings = search rules in
    ap settings_in entries ∙ settings_again c.args.settings c.requires
