use Rattle.std.proofs.Common.{◌≡◌, ◌≤◌, length}
use Rattle.hal_model.specs.Spelling.{text_of}
use Rattle.hal_text.specs.Meaning.{text_limit}
use Rattle.hal_text.proofs.Again.{text-again}
use Rattle.hal_text.proofs.printing.print.Goals as goal

pub returns-clause-again : goal.returns-clause-again
returns-clause-again c l =
    let e : c.in_ok-text.text.items ≡ text_of c.args.parts c.args.events.now = c.in_ok-text.ensures.text in
    let l' : length (text_of c.args.parts c.args.events.now) ≤ text_limit = rw e at l in
    rw e (text-again c.args.parts c.args.events.now c.in_ok-text.ensures.fits l')
