use Rattle.std.specs.Prelude.{Option, Some, None}
use Rattle.cam_types.specs.declared.profile.Profile.{Profile}
use Rattle.script_text.specs.Grammar.{plain_profile}
use Rattle.trace_model.specs.declared.list.TraceList.{TraceList}

-- The device profile of a trace. (docs/FORMATS.md, trace text)

-- the profile that is named, or 6 3 4
abbrev pub profile_or_plain : Option Profile → Profile
profile_or_plain None = plain_profile
profile_or_plain (Some profile) = profile

-- the one that the trace's first line names
abbrev pub profile_of : TraceList → Profile
profile_of trace = profile_or_plain trace.profile
