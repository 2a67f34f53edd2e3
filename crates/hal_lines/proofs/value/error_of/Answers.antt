use Rattle.std.proofs.Common.{◌≡◌, true, false, rules, arith}
use Rattle.std.specs.Prelude.{bytes_eq, codes}
use Rattle.std.proofs.lemmas.Grind.{common_steps}
use Rattle.hal_model.specs.Fits.{is_error_name}
use Rattle.hal_lines.proofs.Names.{name-fits}
use Rattle.hal_lines.proofs.value.error_of.Goals as goal

pub returns-clause-valid : goal.returns-clause-valid
returns-clause-valid c =
    let named : is_error_name c.args.word.now ≡ true = first_of (search rules, grind arith, grind (arith, common_steps)) in
    let other : bytes_eq c.args.word.now (codes "ENODEV") ≡ false = first_of (search rules, grind arith, grind (arith, common_steps)) in
    name-fits c.args.word.now _ named other (first_of (search rules, grind (arith, common_steps)))
