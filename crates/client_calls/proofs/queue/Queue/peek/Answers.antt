use Rattle.std.proofs.Common.{◌≡◌, [], ap, sym, ◌∙◌}
use Rattle.std.specs.Option.{option_copied}
use Rattle.client_calls.proofs.First.{none-first}
use Rattle.client_calls.proofs.queue.Queue.peek.Goals as goal

-- where there is no first nothing waits, and then the list that repeats decides
pub returns-in-None-clause-none : goal.returns-in-None-clause-none
returns-in-None-clause-none c =
    let none_waits : c.args.self.now.queued ≡ [] = rw (← c.self.view_is) (none-first c.self.inside.waiting.items (sym c.front.ensures ∙ ap option_copied c.in-None.is)) in
    let listed = c.repeated.ensures.none in
    (λ n. (none_waits, listed.0 n), λ e. listed.1 e.1)
