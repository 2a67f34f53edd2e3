use Rattle.std.specs.Prelude.{ℕ, Option, None}
use Rattle.cam_types.specs.declared.job.JobView.{JobView}
use Rattle.cam_types.specs.declared.number.BufferId.{BufferId}
use Rattle.cam_types.specs.declared.stream.StreamSpec.{StreamSpec}

-- What the device holds of an open frame beside its row (our own choice).

-- a buffer that no stage has had yet: its number, its stream, and the acquire fence that is still to be redeemed
pub record Waiting : Type 0 where
  pub buffer : BufferId
  pub spec : StreamSpec
  pub fence : Option ℕ

-- a readout: whose it is, once it was exposed
abbrev pub as_exposed : JobView → JobView
as_exposed job = record { frame = job.frame; settings = job.settings; fill = None }
