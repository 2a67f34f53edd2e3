use Rattle.std.proofs.Common.{◌≡◌, ◌++◌, drop}
use Rattle.call_parts.proofs.program.behind_the_name.Given as goal

-- what was pushed and what is left are the words behind the first
abbrev pub invariant-loop-text : goal.invariant-loop-text
invariant-loop-text l = l.words.items ++ l.text-iterator.rest.items ≡ drop 1 l.fn.args.rest.items
