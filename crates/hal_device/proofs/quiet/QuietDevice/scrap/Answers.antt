use Rattle.hal_device.proofs.Resting.{fences_made, jobs_free}
use Rattle.hal_device.proofs.quiet.QuietDevice.scrap.Goals as goal

pub scrap-requires-clause-home : goal.scrap-requires-clause-home
scrap-requires-clause-home c = jobs_free c.self.inside.device.rows c.self.invariant.1

pub scrap-requires-clause-made : goal.scrap-requires-clause-made
scrap-requires-clause-made c = rw c.self.invariant.0 (fences_made c.self.inside.device.rows c.self.invariant.1)
