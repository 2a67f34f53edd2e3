-- What is drawn is legal, and each entry of it has a line.
use Rattle.std.proofs.Common.{ap, arith, length}
use Rattle.run_views.proofs.Fronts.{all_print, fault_prints, fault_refused, front_legal, front_length}
use Rattle.run_views.proofs.picture.text_of.Goals as goal

pub text_of_legal-requires-clause-legal : goal.text_of_legal-requires-clause-legal
text_of_legal-requires-clause-legal c =
    rw c.front-legal.ensures (front_legal c.args.script.now c.args.entries.now c.args.verdict c.requires.judged)

pub text_of_legal-requires-clause-few : goal.text_of_legal-requires-clause-few
text_of_legal-requires-clause-few c =
    let same = ap length c.front-legal.ensures in
    omega (arith, same, front_length c.args.entries.now c.args.verdict)

pub text_of_legal-requires-clause-drawn : goal.text_of_legal-requires-clause-drawn
text_of_legal-requires-clause-drawn c =
    rw c.front-legal.ensures (all_print c.args.script.now c.args.entries.now c.args.verdict c.requires.printable)

pub text_of_legal-requires-clause-fault : goal.text_of_legal-requires-clause-fault
text_of_legal-requires-clause-fault c =
    rw c.fault_in-fault.ensures (fault_prints c.args.entries.now c.args.verdict c.requires.printable)

pub note_text-requires : goal.note_text-requires
note_text-requires c =
    rw (c.fault_in-fault.ensures, c.front-legal.ensures) (fault_refused c.args.script.now c.args.entries.now c.args.verdict c.requires.judged)
