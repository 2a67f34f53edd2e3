use Rattle.std.proofs.Common.{arith, rules}
use Rattle.play_calls.specs.Words.{state_after}
use Rattle.play_calls.proofs.Steps.{word-step, commands-step, commands-length}
use Rattle.play_calls.proofs.script.put_commands.Goals as goal

pub loop-init : goal.loop-init
unfolding state_after
loop-init c = record { commands = search rules; generator = c.seed_from_u64-generator.ensures.same }

pub push-requires-in-loop : goal.push-requires-in-loop
push-requires-in-loop c = omega (arith, commands-length _ _ _ c.loop.invariant.commands)

pub loop-preserved : goal.loop-preserved
loop-preserved c =
    let step = word-step c.args.seed c.loop.counter _ _ _ c.loop.invariant.generator c.next_word-word.ensures in
    record {
      commands = commands-step c.args.seed c.loop.counter _ _ _ _ c.loop.invariant.commands step.0 c.in_ok-command_of.ensures c.in_ok-push-2.ensures.ok;
      generator = step.1;
    }

pub push-requires-2 : goal.push-requires-2
push-requires-2 c = omega (arith, commands-length _ _ _ c.loop.invariant.commands)
