use Rattle.std.proofs.Common.{◌≡◌, ◌++◌, take}
use Rattle.std.specs.Prelude.{string_bytes}
use Rattle.std.specs.List.{flat_map}
use Rattle.hal_text.specs.Plain.{breach_text}
use Rattle.hal_text.proofs.plain.write_breaches.Given as goal

abbrev pub invariant-loop-breach : goal.invariant-loop-breach
invariant-loop-breach l =
    string_bytes l.out ≡ string_bytes l.initial.out ++ flat_map (breach_text l.lines) (take l.breach-index l.breaches)
