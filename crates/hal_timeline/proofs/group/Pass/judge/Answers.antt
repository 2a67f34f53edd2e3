-- What was noted and told is of the event too, and there are more breaches than before.
use Rattle.std.proofs.Common.{◌∙◌, List, ◌++◌, ap}
use Rattle.hal_model.specs.Rules.{breaches_in, plain_rules}
use Rattle.hal_model.specs.declared.rule.Breach.{Breach}
use Rattle.hal_timeline.proofs.Drawn.{more_told}
use Rattle.hal_timeline.proofs.group.Pass.judge.Goals as goal

pub returns-clause-past : goal.returns-clause-past
returns-clause-past c =
    λ past h long. record {
      stands = c.in_ok-note.ensures past h.stands long;
      table = c.in_ok-judge_next.ensures.known past h.table;
      told = (rw c.rules_for.ensures at (c.in_ok-judge_next.ensures.told past h.table long)) ∙ ap (λ (told : List Breach). told ++ breaches_in c.args.parts c.args.event.now past plain_rules) h.told;
    }

pub returns-clause-broken : goal.returns-clause-broken
returns-clause-broken c =
    λ past h long. more_told c.args.self.now.breaches.items c.judge_next.new.breaches.items (breaches_in c.args.parts c.args.event.now past plain_rules) c.len-before.result c.len.result (c.len-before.ensures ∙ c.args.self.now.breaches.ok.0) (c.len.ensures ∙ c.judge_next.new.breaches.ok.0) (rw c.rules_for.ensures at (c.in_ok-judge_next.ensures.told past h.table long))
