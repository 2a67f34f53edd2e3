use Rattle.fill_jobs.proofs.Filled.{filled-of}
use Rattle.fill_jobs.proofs.job.FillJob.fill_bands.Goals as goal

pub invariant_of-result : goal.invariant_of-result
invariant_of-result g c =
    filled-of c.self.inside.fill.settings c.self.inside.fill.frame.0 c.self.inside.fill.target c.self.inside.fill.readout c.self.inside.fill.pixels c.draw_bands-digest.new.pixels c.draw_bands-digest.result c.self.invariant c.draw_bands-digest.ensures.picture c.draw_bands-digest.ensures.digest
