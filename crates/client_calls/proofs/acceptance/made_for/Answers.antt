use Rattle.client_calls.proofs.Made.{made_in_turn}
use Rattle.client_calls.proofs.acceptance.made_for.Goals as goal

-- each stream's buffers begin after those before
pub returns : goal.returns
returns c =
    made_in_turn c.args.profile c.args.next _ _ _ c.args.specs.now _ _ _ _ _ _ _ _
    c.get-first.ensures c.get-second.ensures c.get-third.ensures c.get.ensures
    c.number_after-after_first.ensures.value c.number_after-after_second.ensures.value c.number_after-after_third.ensures.value
    c.made_at.ensures c.made_at-2.ensures c.made_at-3.ensures c.made_at-4.ensures
