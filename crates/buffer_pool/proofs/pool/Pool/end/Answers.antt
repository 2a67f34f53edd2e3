use Rattle.std.proofs.Common.{ap, ◌∙◌}
use Rattle.buffer_pool.specs.Home.{Buffers}
use Rattle.buffer_pool.proofs.SlotLemmas.{all-free}
use Rattle.buffer_pool.proofs.pool.Pool.end.Goals as goal

pub end_slots-requires : goal.end_slots-requires
end_slots-requires c = λ k. all-free c.self.inside.slots k (ap (λ (v : Buffers). v.home) c.self.view_is ∙ c.requires)
