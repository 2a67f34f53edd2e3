use Rattle.std.proofs.Common.{◌≡◌, ap, ◌∙◌, arith}
use Rattle.std.proofs.lemmas.Bool.Decides.{nat_tests}
use Rattle.auto_call.specs.declared.state.AeState.TheVariants.{Searching, Locked, AtLimit}
use Rattle.auto_call.specs.Search.{state_of}
use Rattle.auto_call.proofs.Found.{measured-decided}
use Rattle.auto_call.proofs.search.Ae.state.Goals as goal

pub returns-then-self-clause-decided : goal.returns-then-self-clause-decided
returns-then-self-clause-decided c = λ s target first frames still ten is.
    let told : Searching c.self.inside.low c.self.inside.high ≡ state_of c.args.self.now = grind (arith, nat_tests) in
    told ∙ (ap state_of is ∙ measured-decided s target first frames still ten)

pub returns-then-self-gt-STEPS-clause-decided : goal.returns-then-self-gt-STEPS-clause-decided
returns-then-self-gt-STEPS-clause-decided c = λ s target first frames still ten is.
    let told : AtLimit ≡ state_of c.args.self.now = grind (arith, nat_tests) in
    told ∙ (ap state_of is ∙ measured-decided s target first frames still ten)

pub returns-else-self-gt-STEPS-clause-decided : goal.returns-else-self-gt-STEPS-clause-decided
returns-else-self-gt-STEPS-clause-decided c = λ s target first frames still ten is.
    let told : Locked c.self.inside.low ≡ state_of c.args.self.now = grind (arith, nat_tests) in
    told ∙ (ap state_of is ∙ measured-decided s target first frames still ten)
