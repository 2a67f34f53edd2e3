use Rattle.std.proofs.Common.{◌∙◌, List, ℕ, sym, ap}
use Rattle.cam_types.specs.Shown.{Shown}
use Rattle.sha2.specs.Sha256.{sha256}
use Rattle.fill_jobs.proofs.Filled.{drawn-is, filled-of}
use Rattle.fill_jobs.proofs.job.FillJob.fill_with.Goals as goal

pub digest_with-digest-requires-clause-shown : goal.digest_with-digest-requires-clause-shown
digest_with-digest-requires-clause-shown c =
    ap (λ (shown : Shown). shown.bytes) c.draw_alone.ensures
    ∙ drawn-is c.self.inside.fill.target.spec c.self.inside.fill.settings c.self.inside.fill.frame.0 c.self.inside.fill.readout c.self.invariant.exposed

pub invariant_of-result : goal.invariant_of-result
invariant_of-result c =
    filled-of c.self.inside.fill.settings c.self.inside.fill.frame.0 c.self.inside.fill.target c.self.inside.fill.readout c.self.inside.fill.pixels c.draw_alone.new.pixels c.digest_with-digest.result c.self.invariant c.draw_alone.ensures
    (c.digest_with-digest.ensures
    ∙ ap (λ (shown : List ℕ). sha256 shown) (sym (drawn-is c.self.inside.fill.target.spec c.self.inside.fill.settings c.self.inside.fill.frame.0 c.self.inside.fill.readout c.self.invariant.exposed)))
