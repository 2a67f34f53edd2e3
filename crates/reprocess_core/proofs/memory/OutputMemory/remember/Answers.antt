use Rattle.std.proofs.Common.{◌≡◌, ◌∙◌, ◌+◌, Some, sym, ap}
use Rattle.std.proofs.lemmas.List.Elements.{All-set}
use Rattle.sha2.specs.Sha256.{sha256}
use Rattle.reprocess_core.specs.Keys.{IsPlaceOf, output_by}
use Rattle.reprocess_core.specs.declared.memory.Told.{Told}
use Rattle.reprocess_core.proofs.Remembered.{by-output-key}
use Rattle.reprocess_core.proofs.memory.OutputMemory.remember.Goals as goal

pub invariant_of-self : goal.invariant_of-self
invariant_of-self c =
    let told : c.args.digest ≡ sha256 (output_by c.key_of-key.result) =
    c.requires
    ∙ ap sha256 (by-output-key c.args.ticket.now c.args.to c.spec-yuv.ensures.offered ∙ ap output_by (sym c.key_of-key.ensures)) in
    let more : Told = record { key = c.key_of-key.result; digest = c.args.digest } in
    All-set IsPlaceOf c.self.inside.places.items (c.tries_of-first.result.0 + c.in-Some.free) (Some more) told c.self.invariant
