use Rattle.std.specs.Prelude.{Bool}
use Rattle.trace_model.specs.declared.entry.Entry.{Entry}
use Rattle.trace_model.specs.Calls.{submits, accepts, is_closing_word}
use Rattle.trace_model.specs.Configuration.{configures}
use Rattle.trace_model.specs.Entry.{sends, takes, is_shutter, is_partial, is_part, returns_target, returns_of_frame, brings}
use Rattle.trace_model.specs.Entry.{is_early_with, is_late_with, signals}
use Rattle.trace_model.specs.Entry.{is_error_of, is_error_request, is_error_result, is_error_buffer, is_error_device}
use Rattle.judge_filters.specs.Past.{is_begin_or_call}
use Rattle.judge_filters.specs.Turns.{sets_repeating}
use Rattle.judge_filters.specs.declared.wanted.Wanted.{Wanted}
use Rattle.judge_filters.specs.declared.wanted.Wanted.TheVariants.{BeginOrCall, Submission, Closing, Configuration, RepeatSetting, Taking, Send, Shutter, Partial, Part, Return, ReturnOf, Bringing, EarlyWith, LateWith, Signal, ErrorOf, ErrorRequest, ErrorResult, ErrorBuffer, ErrorDevice}

-- The test of an entry that the code looks for. Our own choice.

abbrev pub is_wanted : Wanted → Entry → Bool
is_wanted BeginOrCall = is_begin_or_call
is_wanted (Submission r) = submits r.0
is_wanted Closing = accepts is_closing_word
is_wanted Configuration = configures
is_wanted RepeatSetting = sets_repeating
is_wanted (Taking r i) = takes r.0 i
is_wanted (Send n) = sends n.0
is_wanted (Shutter n) = is_shutter n.0
is_wanted (Partial n) = is_partial n.0
is_wanted (Part n k) = is_part n.0 k
is_wanted (Return n s) = returns_target n.0 s.0
is_wanted (ReturnOf n) = returns_of_frame n.0
is_wanted (Bringing n s) = brings n.0 s.0
is_wanted (EarlyWith d) = is_early_with d.0
is_wanted (LateWith d) = is_late_with d.0
is_wanted (Signal f) = signals f.0
is_wanted (ErrorOf n) = is_error_of n.0
is_wanted (ErrorRequest n) = is_error_request n.0
is_wanted (ErrorResult n) = is_error_result n.0
is_wanted (ErrorBuffer n s) = is_error_buffer n.0 s.0
is_wanted ErrorDevice = is_error_device
