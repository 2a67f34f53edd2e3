use Rattle.std.proofs.Common.{◌++◌, ◌∙◌, ap, reverse}
use Rattle.allowed_entries.specs.Readings.{all_in}
use Rattle.allowed_entries.proofs.Joins.{on_ok}
use Rattle.allowed_entries.proofs.Valid.{all_told, numbered_held, valid_profile}
use Rattle.allowed_entries.proofs.after.add_allowed.Goals as goal

pub add_all-requires-clause-profile : goal.add_all-requires-clause-profile
add_all-requires-clause-profile c = valid_profile c.args.script.now c.requires.valid

pub add_all-requires-clause-numbered : goal.add_all-requires-clause-numbered
add_all-requires-clause-numbered c =
    numbered_held c.args.script.now (reverse c.args.entries.now) c.in_ok-tables.tables c.requires.valid c.requires.legal c.in_ok-tables.ensures

pub returns : goal.returns
returns c =
    let all = all_in c.args.script.now c.in_ok-tables.tables.state c.released.result in
    on_ok c.add_all.result _ _ (λ grown. all_told c.args.script.now (reverse c.args.entries.now) c.in_ok-tables.tables c.released.result c.add_all.new.list.items c.requires.legal c.in_ok-tables.ensures c.released.ensures (grown ∙ ap (λ l. l ++ all) c.requires.empty)) c.add_all.ensures
