use Rattle.std.proofs.Common.{◌≡◌, ◌∙◌, List, ℕ, IfSome, sym, ap, subst}
use Rattle.sha2.specs.Sha256.{sha256}
use Rattle.picture_stages.specs.Keys.{picture_by}
use Rattle.picture_stages.proofs.KeyLemmas.{by-key}
use Rattle.picture_stages.proofs.memory.DigestMemory.find.Goals as goal

pub returns : goal.returns
returns c =
    subst (λ (shown : List ℕ). IfSome c.find_in.result (λ digest. digest ≡ sha256 shown))
    (ap picture_by c.key_of-key.ensures ∙ sym (by-key c.args.spec c.args.settings c.args.frame.0 c.requires.offered))
    c.find_in.ensures
