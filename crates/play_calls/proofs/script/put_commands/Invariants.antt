use Rattle.std.proofs.Common.{◌≡◌, ◌∷◌, map}
use Rattle.cam_types.specs.declared.script.Command.TheVariants.{Configure}
use Rattle.play_calls.specs.Generated.{command_of, numbers, two_streams}
use Rattle.play_calls.specs.Words.{state_after, word}
use Rattle.play_calls.proofs.script.put_commands.Given as goal

abbrev pub invariant-loop : goal.invariant-loop
invariant-loop l = record {
  commands : l.commands ≡ Configure two_streams ∷ map (λ j. command_of (word l.seed j)) (numbers l.counter);
  generator : l.generator ≡ state_after l.seed l.counter;
}
