use Rattle.std.proofs.Common.{◌≡◌, ◌≤◌, length}
use Rattle.script_text.specs.Spelling.{text_of}
use Rattle.text_parts.specs.LineReading.{text_limit}
use Rattle.script_text.proofs.Again.{text-again}
use Rattle.script_text.proofs.printing.print.Goals as goal

pub returns-clause-again : goal.returns-clause-again
returns-clause-again c l =
    let e : c.in_ok-text.text.items ≡ text_of c.args.script.now = c.in_ok-text.ensures.text in
    let l' : length (text_of c.args.script.now) ≤ text_limit = rw e at l in
    rw e (text-again c.args.script.now c.in_ok-text.ensures.fits l')
