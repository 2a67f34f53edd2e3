use Rattle.std.proofs.Common.{◌≡◌, ◌++◌, None, drop}
use Rattle.std.specs.Prelude.{string_bytes}
use Rattle.hal_text.specs.Person.{breaches_text}
use Rattle.hal_text.proofs.person.write_breaches.Given as goal

-- what is written, and what is told of those that are left
abbrev pub invariant-loop-breach : goal.invariant-loop-breach
invariant-loop-breach l =
    string_bytes l.out ++ breaches_text l.log l.last (drop l.breach-index l.breaches)
    ≡ string_bytes l.initial.out ++ breaches_text l.log None l.breaches
