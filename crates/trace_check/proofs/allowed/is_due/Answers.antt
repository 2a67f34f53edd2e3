use Rattle.std.proofs.Common.{reverse}
use Rattle.trace_check.proofs.Judged.{judged}
use Rattle.trace_check.proofs.allowed.is_due.Goals as goal

pub returns-in-Begin : goal.returns-in-Begin
returns-in-Begin c = λ _. judged c.args.script.now (reverse c.args.entries.now) c.is_begin_due.result c.in-Begin.is c.is_begin_due.ensures

pub returns-in-Call : goal.returns-in-Call
returns-in-Call c = λ _. judged c.args.script.now (reverse c.args.entries.now) c.is_call_due.result c.in-Call.is c.is_call_due.ensures

pub returns-in-Send : goal.returns-in-Send
returns-in-Send c = λ _. judged c.args.script.now (reverse c.args.entries.now) c.is_send_due.result c.in-Send.is c.is_send_due.ensures

pub returns-in-Dropped : goal.returns-in-Dropped
returns-in-Dropped c = λ _. judged c.args.script.now (reverse c.args.entries.now) c.is_dropped_due.result c.in-Dropped.is c.is_dropped_due.ensures

pub returns-in-Shutter : goal.returns-in-Shutter
returns-in-Shutter c = λ _. judged c.args.script.now (reverse c.args.entries.now) c.is_shutter_due.result c.in-Shutter.is c.is_shutter_due.ensures

pub returns-in-Partial : goal.returns-in-Partial
returns-in-Partial c = λ _. judged c.args.script.now (reverse c.args.entries.now) c.is_partial_due.result c.in-Partial.is c.is_partial_due.ensures

pub returns-in-Failed : goal.returns-in-Failed
returns-in-Failed c = λ _. judged c.args.script.now (reverse c.args.entries.now) c.is_failed_due.result c.in-Failed.is (c.is_failed_due.ensures c.args.script.now)

pub returns-in-ErrorRequest : goal.returns-in-ErrorRequest
returns-in-ErrorRequest c = λ _. judged c.args.script.now (reverse c.args.entries.now) c.is_error_request_due.result c.in-ErrorRequest.is c.is_error_request_due.ensures

pub returns-in-ErrorResult : goal.returns-in-ErrorResult
returns-in-ErrorResult c = λ _. judged c.args.script.now (reverse c.args.entries.now) c.is_error_result_due.result c.in-ErrorResult.is c.is_error_result_due.ensures

pub returns-in-ErrorBuffer : goal.returns-in-ErrorBuffer
returns-in-ErrorBuffer c = λ _. judged c.args.script.now (reverse c.args.entries.now) c.is_error_buffer_due.result c.in-ErrorBuffer.is c.is_error_buffer_due.ensures

pub returns-in-ErrorDevice : goal.returns-in-ErrorDevice
returns-in-ErrorDevice c = λ _. judged c.args.script.now (reverse c.args.entries.now) c.is_error_device_due.result c.in-ErrorDevice.is c.is_error_device_due.ensures

pub returns-in-Release : goal.returns-in-Release
returns-in-Release c = λ _. judged c.args.script.now (reverse c.args.entries.now) c.is_release_due.result c.in-Release.is (c.is_release_due.ensures c.args.script.now)

pub returns-in-Signal : goal.returns-in-Signal
returns-in-Signal c = λ _. judged c.args.script.now (reverse c.args.entries.now) c.is_signal_due.result c.in-Signal.is (c.is_signal_due.ensures c.args.script.now)

pub returns-in-Early : goal.returns-in-Early
returns-in-Early c = λ _. judged c.args.script.now (reverse c.args.entries.now) c.is_early_due.result c.in-Early.is c.is_early_due.ensures
