use Rattle.std.proofs.Common.{sym, subst}
use Rattle.service_core.specs.Answers.{IsNoJobOut}
use Rattle.service_core.proofs.Keeping.{serves}
use Rattle.service_core.proofs.Outs.{all_still}
use Rattle.service_core.proofs.service.Service.scrap.Goals as goal

pub scrap-requires-clause-serving : goal.scrap-requires-clause-serving
scrap-requires-clause-serving c = serves c.self.inside.state c.self.inside.log c.self.invariant

pub scrap-requires-clause-home : goal.scrap-requires-clause-home
scrap-requires-clause-home c =
    all_still c.self.inside.state c.self.inside.log c.self.invariant (subst (λ x. IsNoJobOut x.history) (sym c.self.view_is) c.requires)
