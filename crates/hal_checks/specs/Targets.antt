-- What a target of a request that begins may be at fault in, each with its rule. Our own choice.
use Rattle.std.specs.Prelude.{Bool, List}
use Rattle.hal_model.specs.declared.event.HalEvent.{HalEvent}
use Rattle.hal_model.specs.declared.event.HalTarget.{HalTarget}
use Rattle.hal_model.specs.declared.rule.Rule.{Rule}
use Rattle.hal_model.specs.declared.rule.Rule.TheVariants.{HeldBuffer, RepeatedStream, TooManyBuffers, UnknownStream}
use Rattle.hal_model.specs.Framework.{is_twice_stream}
use Rattle.hal_rows.specs.Judged.{held_buffer_at, is_held_target_at, is_too_many_at, is_unknown_in, repeated_stream_at, too_many_buffers_at, unknown_stream_at}
use Rattle.hal_rows.specs.State.{HalState}
use Rattle.hal_checks.specs.declared.framework.TargetFault.{TargetFault}
use Rattle.hal_checks.specs.declared.framework.TargetFault.TheVariants.{Held, Repeated, TooMany, Unknown}

-- a target among those of its request
abbrev pub is_target_wrong : TargetFault → List HalTarget → HalState → HalTarget → Bool
is_target_wrong Held targets s t = is_held_target_at targets s t
is_target_wrong Repeated targets s t = is_twice_stream targets t
is_target_wrong TooMany targets s t = is_too_many_at targets s t
is_target_wrong Unknown targets s t = is_unknown_in s.device.streams t

abbrev pub target_rule : TargetFault → Rule
target_rule Held = HeldBuffer
target_rule Repeated = RepeatedStream
target_rule TooMany = TooManyBuffers
target_rule Unknown = UnknownStream

-- the event breaks the fault's rule
abbrev pub has_wrong_target : TargetFault → HalEvent → HalState → Bool
has_wrong_target Held e s = held_buffer_at e s
has_wrong_target Repeated e s = repeated_stream_at e s
has_wrong_target TooMany e s = too_many_buffers_at e s
has_wrong_target Unknown e s = unknown_stream_at e s
