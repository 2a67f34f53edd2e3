use Rattle.std.proofs.Common.{◌≡◌, ◌∙◌, [], ◌∷◌, sym, ap, rules}
use Rattle.std.proofs.lemmas.List.Elements.{All-append, All-cons, All-nil}
use Rattle.sha2.specs.Sha256.{sha256}
use Rattle.picture_stages.specs.Keys.{picture_by}
use Rattle.picture_stages.specs.Told.{IsTold}
use Rattle.picture_stages.specs.declared.memory.Told.{Told}
use Rattle.picture_stages.proofs.KeyLemmas.{by-key}
use Rattle.picture_stages.proofs.memory.DigestMemory.remember.Goals as goal

pub invariant_of-self : goal.invariant_of-self
invariant_of-self c =
    let told : c.args.digest ≡ sha256 (picture_by c.key_of-key.result) =
    c.requires.digest
    ∙ ap sha256 (by-key c.args.spec c.args.settings c.args.frame.0 c.requires.offered ∙ ap picture_by (sym c.key_of-key.ensures)) in
    let more : Told = record { key = c.key_of-key.result; digest = c.args.digest } in
    let every = All-append IsTold c.self.inside.told.items (more ∷ []) c.self.invariant.each (All-cons IsTold more [] told (All-nil IsTold)) in
    record {
      each = rw c.push_reserved.ensures.items every;
      few = search rules;
    }
