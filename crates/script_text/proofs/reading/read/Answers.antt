use Rattle.std.proofs.Common.{◌≡◌, Ok, arith}
use Rattle.std.proofs.lemmas.Bool.{and_parts}
use Rattle.script_text.specs.Grammar.{script_from, script_of}
use Rattle.script_text.proofs.ValidLines.{text-valid}
use Rattle.script_text.proofs.reading.read.Goals as goal

pub returns-in_ok-finish-in-Some-draft-clause-valid : goal.returns-in_ok-finish-in-Some-draft-clause-valid
unfolding script_from
returns-in_ok-finish-in-Some-draft-clause-valid c =
    let e : script_of c.args.bytes.now ≡ Ok c.in_ok-finish-in-Some-draft.field-0 = grind arith in
    (and_parts _ _ (text-valid c.args.bytes.now c.in_ok-finish-in-Some-draft.field-0 e)).0

pub returns-in_ok-finish-in-Some-draft-clause-fits : goal.returns-in_ok-finish-in-Some-draft-clause-fits
unfolding script_from
returns-in_ok-finish-in-Some-draft-clause-fits c =
    let e : script_of c.args.bytes.now ≡ Ok c.in_ok-finish-in-Some-draft.field-0 = grind arith in
    text-valid c.args.bytes.now c.in_ok-finish-in-Some-draft.field-0 e
