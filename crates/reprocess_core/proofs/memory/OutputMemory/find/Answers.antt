use Rattle.std.proofs.Common.{◌≡◌, ◌∙◌, List, ℕ, IfSome, sym, ap, subst}
use Rattle.sha2.specs.Sha256.{sha256}
use Rattle.reprocess_core.specs.Keys.{output_by}
use Rattle.reprocess_core.proofs.Remembered.{by-output-key}
use Rattle.reprocess_core.proofs.memory.OutputMemory.find.Goals as goal

pub returns : goal.returns
returns c =
    subst (λ (shown : List ℕ). IfSome c.find_in.result (λ digest. digest ≡ sha256 shown))
    (ap output_by c.key_of-key.ensures ∙ sym (by-output-key c.args.ticket.now c.args.to c.spec-yuv.ensures.offered))
    c.find_in.ensures
