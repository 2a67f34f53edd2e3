use Rattle.std.proofs.Common.{◌∙◌}
use Rattle.fill_jobs.proofs.PlaceLemmas.{all_free}
use Rattle.fill_jobs.proofs.hands.Hands.close.Goals as goal

pub end_places-requires : goal.end_places-requires
end_places-requires c = λ k. all_free c.self.inside.places k (c.self.view_is ∙ c.requires)
