-- A command that passes a limit by itself passes it in any script.
use Rattle.std.proofs.Common.{◌≡◌, false, List, [], ◌∷◌, ◌++◌, Result, Ok, Err, refl, ap, ◌∙◌, inl, inr, arith}
use Rattle.std.specs.List.{list_all}
use Rattle.std.proofs.lemmas.Bool.{cases_Bool, and_right}
use Rattle.cam_types.specs.declared.script.Command.{Command}
use Rattle.text_parts.specs.declared.cause.Cause.{Cause}
use Rattle.text_parts.specs.declared.cause.Cause.TheVariants.{Limit}
use Rattle.text_parts.specs.declared.cause.LineRefused.{LineRefused}
use Rattle.text_parts.specs.declared.cause.LineRefused.TheVariants.{Bad, NoMemory}
use Rattle.text_parts.specs.LineWords.{◌>>=◌, limited}
use Rattle.script_text.specs.Lines.{CommandLine}
use Rattle.script_text.specs.Within.{within}
use Rattle.text_parts.specs.Reader.{Refuses}
use Rattle.script_text.specs.Grammar.{Begun, counts_within, with_line, added, then_added}

last-fails : (cs : List Command) (c : Command) → within c ≡ false → list_all within (cs ++ c ∷ []) ≡ false
last-fails [] c h = rw h refl
last-fails (d ∷ cs) c h = and_right (within d) _ (last-fails cs c h)

too_long : (b : Begun) (c : Command) → within c ≡ false → added b (CommandLine c) ≡ Err Limit
unfolding added
too_long b c h =
    let f = last-fails b.script.commands c h in
    let counts : counts_within (with_line b (CommandLine c)) ≡ false = grind arith in
    rw counts refl

pub command_refused : (b : Begun) (read : Result Command Cause) (refused : LineRefused) → Refuses refused (limited within read) → Refuses refused (then_added b (read >>= λ c. Ok (CommandLine c)))
command_refused b (Ok c) (Bad cause) h = elim (cases_Bool (within c)) [
  | inl t ↦ absurd (let k = rw t at h in cc)
  | inr f ↦ (let k = rw f at h in let e : Limit ≡ cause = cc in too_long b c f ∙ ap Err e)
]
command_refused b (Err cause) (Bad cause') h = let e : cause ≡ cause' = cc in ap Err e
command_refused b read NoMemory h = tt
