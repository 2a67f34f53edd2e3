use Rattle.std.proofs.Common.{List, reverse, subst, sym}
use Rattle.allowed_entries.specs.declared.entry.AllowedEntry.{AllowedEntry}
use Rattle.allowed_entries.specs.Told.{AllTellAllowed}
use Rattle.allowed_entries.proofs.Sound.{all-print, all_tell}
use Rattle.allowed_entries.proofs.after.allowed_after.Goals as goal

pub returns-clause-prints : goal.returns-clause-prints
returns-clause-prints c =
    let script = c.args.script.now in
    let past = reverse c.args.entries.now in
    all-print script past c.add_allowed.new.list.items (λ q legal. c.legal_traces_print.ensures q c.requires.valid legal) c.requires.legal
    (subst (λ (list : List AllowedEntry). AllTellAllowed script past list) (sym c.in_ok-add_allowed.ensures) (all_tell script past))
