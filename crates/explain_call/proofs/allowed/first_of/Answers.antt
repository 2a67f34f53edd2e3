use Rattle.allowed_entries.specs.Known.{prints}
use Rattle.explain_call.proofs.allowed.first_of.Goals as goal
use Rattle.basic_lemmas.proofs.Lists.{all-taken}

pub returns-then-all-gt-MOST_LINES-clause-prints :
    goal.returns-then-all-gt-MOST_LINES-clause-prints
returns-then-all-gt-MOST_LINES-clause-prints c = all-taken prints 8 c.args.all.now c.requires
