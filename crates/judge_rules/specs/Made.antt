use Rattle.std.specs.Prelude.{ℕ, ◌+◌, Option, Some, None}
use Rattle.cam_types.specs.declared.reply.Made.{Made}
use Rattle.cam_types.specs.declared.stream.StreamSpec.{StreamSpec}
use Rattle.cam_types.specs.Profile.{pool_size}
use Rattle.cam_types.specs.declared.profile.Profile.{Profile}

-- The buffers that an accepted configuration makes, stream by stream. Our own choice.

-- the stream's buffers, numbered on from the next unused number
abbrev pub made_at : Profile → ℕ → Option StreamSpec → Option Made
made_at p next (Some spec) = Some (record { first = record { 0 = next }; count = pool_size p spec.format })
made_at p next None = None

-- the next unused number after them
abbrev pub after : Profile → ℕ → Option StreamSpec → ℕ
after p next (Some spec) = next + pool_size p spec.format
after p next None = next
