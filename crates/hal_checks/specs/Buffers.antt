-- What a buffer that comes back may be at fault in, each with its rule. Our own choice.
use Rattle.std.specs.Prelude.{Bool}
use Rattle.hal_model.specs.declared.event.HalEvent.{HalEvent}
use Rattle.hal_model.specs.declared.event.Returned.{Returned}
use Rattle.hal_model.specs.declared.rule.Rule.{Rule}
use Rattle.hal_model.specs.declared.rule.Rule.TheVariants.{BufferStatus, BufferOrder, FailedBufferOrder, GoodAfterError, AcquireFence, ReleaseFence}
use Rattle.hal_model.specs.Callbacks.{has_acquire, is_unclear}
use Rattle.hal_rows.specs.declared.row.Row.{Row}
use Rattle.hal_rows.specs.Judged.{acquire_fence_at, buffer_order_at, buffer_status_at, failed_buffer_order_at, good_after_error_at, is_row_disorderly, is_row_overtaken, is_row_wrongly_fenced, is_row_wrongly_filled, release_fence_at}
use Rattle.hal_rows.specs.State.{HalState}
use Rattle.hal_checks.specs.declared.back.BufferFault.{BufferFault}
use Rattle.hal_checks.specs.declared.back.BufferFault.TheVariants.{Overtaken, Disorderly, Filled, Fenced}
use Rattle.hal_checks.specs.declared.back.BufferFlaw.{BufferFlaw}
use Rattle.hal_checks.specs.declared.back.BufferFlaw.TheVariants.{Unclear, Acquire}

-- ---- by itself

abbrev pub is_flawed : BufferFlaw → Returned → Bool
is_flawed Unclear b = is_unclear b
is_flawed Acquire b = has_acquire b

abbrev pub flaw_rule : BufferFlaw → Rule
flaw_rule Unclear = BufferStatus
flaw_rule Acquire = AcquireFence

-- the event breaks the flaw's rule
abbrev pub has_flaw : BufferFlaw → HalEvent → HalState → Bool
has_flaw Unclear e s = buffer_status_at e s
has_flaw Acquire e s = acquire_fence_at e s

-- ---- beside its request, of which the row tells

abbrev pub is_buffer_wrong : BufferFault → HalState → Row → Returned → Bool
is_buffer_wrong Overtaken s r b = is_row_overtaken s r b
is_buffer_wrong Disorderly s r b = is_row_disorderly s r b
is_buffer_wrong Filled s r b = is_row_wrongly_filled r b
is_buffer_wrong Fenced s r b = is_row_wrongly_fenced r b

abbrev pub buffer_rule : BufferFault → Rule
buffer_rule Overtaken = BufferOrder
buffer_rule Disorderly = FailedBufferOrder
buffer_rule Filled = GoodAfterError
buffer_rule Fenced = ReleaseFence

-- the event breaks the fault's rule
abbrev pub has_wrong_buffer : BufferFault → HalEvent → HalState → Bool
has_wrong_buffer Overtaken e s = buffer_order_at e s
has_wrong_buffer Disorderly e s = failed_buffer_order_at e s
has_wrong_buffer Filled e s = good_after_error_at e s
has_wrong_buffer Fenced e s = release_fence_at e s
