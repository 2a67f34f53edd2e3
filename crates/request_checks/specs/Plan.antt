use Rattle.std.specs.Prelude.{List, slice_get}
use Rattle.std.specs.Option.{option_map}
use Rattle.cam_types.specs.Profile.{max_buffers, pool_size}
use Rattle.cam_types.specs.declared.profile.Profile.{Profile}
use Rattle.cam_types.specs.declared.stream.StreamSpec.{StreamSpec}
use Rattle.request_checks.specs.declared.plan.Plan.{Plan}
use Rattle.request_checks.specs.declared.plan.PlanStream.{PlanStream}

-- What an accepted configuration gives each of its streams.

-- of the profile: how many buffers may be at the device, and how many the pool has
abbrev pub plan_stream : Profile → StreamSpec → PlanStream
plan_stream profile spec = record {
  spec = spec;
  max_buffers = max_buffers profile spec.format;
  pool = pool_size profile spec.format;
}

-- the value at each of the first four places, if there is one
abbrev pub plan_of : Profile → List StreamSpec → Plan
plan_of profile specs = record {
  streams = record {
    a = option_map (plan_stream profile) (slice_get specs 0);
    b = option_map (plan_stream profile) (slice_get specs 1);
    c = option_map (plan_stream profile) (slice_get specs 2);
    d = option_map (plan_stream profile) (slice_get specs 3);
  };
}
