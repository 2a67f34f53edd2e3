use Rattle.std.proofs.Common.{ap, ◌∙◌}
use Rattle.state_facts.specs.FrameReadings.{is_none_left}
use Rattle.state_facts.specs.Homes.{Homes, release_in, signal_in}
use Rattle.trace_check.proofs.Either.{begin_either, call_either}
use Rattle.trace_check.proofs.Shown.{judged, read_as}
use Rattle.trace_check.proofs.entry.is_plain_due.Goals as goal

pub returns-in-Begin : goal.returns-in-Begin
returns-in-Begin c = λ _.
    let s = c.args.tables.now.state in
    let e = begin_either c.args.script.now s.client (is_none_left s.rows) s.queue s.buffers c.in-Begin.word in
    let r = read_as c.is_due.result c.client_due.result _ c.in-Begin.is c.client_due.ensures c.is_due.ensures in
    judged c.args.script.now s c.is_due.result c.in-Begin.is (λ h. e.0 (r.0 h), λ h. r.1 (e.1 h))

pub returns-in-Call : goal.returns-in-Call
returns-in-Call c = λ _.
    let s = c.args.tables.now.state in
    let e = call_either c.args.script.now s.client (is_none_left s.rows) s.queue s.buffers c.in-Call.index c.in-Call.word c.in-Call.reply in
    let r = read_as c.is_due-in-Call.result c.client_due-in-Call.result _ c.in-Call.is c.client_due-in-Call.ensures c.is_due-in-Call.ensures in
    judged c.args.script.now s c.is_due-in-Call.result c.in-Call.is (λ h. e.0 (r.0 h), λ h. r.1 (e.1 h))

pub returns-in-Early : goal.returns-in-Early
returns-in-Early c = λ _.
    judged c.args.script.now c.args.tables.now.state c.is_due-in-Early.result c.in-Early.is
    (read_as c.is_due-in-Early.result c.early_due.result _ c.in-Early.is c.early_due.ensures c.is_due-in-Early.ensures)

pub returns-in-Dropped : goal.returns-in-Dropped
returns-in-Dropped c = λ _.
    judged c.args.script.now c.args.tables.now.state c.is_due-in-Dropped.result c.in-Dropped.is
    (read_as c.is_due-in-Dropped.result c.drop_due.result _ c.in-Dropped.is c.drop_due.ensures c.is_due-in-Dropped.ensures)

pub returns-in-Shutter : goal.returns-in-Shutter
returns-in-Shutter c = λ _.
    judged c.args.script.now c.args.tables.now.state c.is_due-in-Shutter.result c.in-Shutter.is
    (read_as c.is_due-in-Shutter.result c.shutter_due.result _ c.in-Shutter.is c.shutter_due.ensures c.is_due-in-Shutter.ensures)

pub returns-in-Partial : goal.returns-in-Partial
returns-in-Partial c = λ _.
    judged c.args.script.now c.args.tables.now.state c.is_due-in-Partial.result c.in-Partial.is
    (read_as c.is_due-in-Partial.result c.partial_due.result _ c.in-Partial.is c.partial_due.ensures c.is_due-in-Partial.ensures)

pub returns-in-Failed : goal.returns-in-Failed
returns-in-Failed c = λ _.
    judged c.args.script.now c.args.tables.now.state c.is_due-in-Failed.result c.in-Failed.is
    (read_as c.is_due-in-Failed.result c.failed_due.result _ c.in-Failed.is c.failed_due.ensures c.is_due-in-Failed.ensures)

pub returns-in-ErrorRequest : goal.returns-in-ErrorRequest
returns-in-ErrorRequest c = λ _.
    judged c.args.script.now c.args.tables.now.state c.is_due-in-ErrorRequest.result c.in-ErrorRequest.is
    (read_as c.is_due-in-ErrorRequest.result c.error_request_due.result _ c.in-ErrorRequest.is c.error_request_due.ensures c.is_due-in-ErrorRequest.ensures)

pub returns-in-ErrorResult : goal.returns-in-ErrorResult
returns-in-ErrorResult c = λ _.
    judged c.args.script.now c.args.tables.now.state c.is_due-in-ErrorResult.result c.in-ErrorResult.is
    (read_as c.is_due-in-ErrorResult.result c.error_result_due.result _ c.in-ErrorResult.is c.error_result_due.ensures c.is_due-in-ErrorResult.ensures)

pub returns-in-ErrorBuffer : goal.returns-in-ErrorBuffer
returns-in-ErrorBuffer c = λ _.
    judged c.args.script.now c.args.tables.now.state c.is_due-in-ErrorBuffer.result c.in-ErrorBuffer.is
    (read_as c.is_due-in-ErrorBuffer.result c.error_buffer_due.result _ c.in-ErrorBuffer.is c.error_buffer_due.ensures c.is_due-in-ErrorBuffer.ensures)

pub returns-in-ErrorDevice : goal.returns-in-ErrorDevice
returns-in-ErrorDevice c = λ _.
    judged c.args.script.now c.args.tables.now.state c.is_due-in-ErrorDevice.result c.in-ErrorDevice.is
    (read_as c.is_due-in-ErrorDevice.result c.error_device_due.result _ c.in-ErrorDevice.is c.error_device_due.ensures c.is_due-in-ErrorDevice.ensures)

pub returns-in-Release : goal.returns-in-Release
returns-in-Release c = λ _.
    let read = c.release_due.ensures ∙ ap (λ (h : Homes). release_in h c.in-Release.buffer.0) c.homes.ensures in
    judged c.args.script.now c.args.tables.now.state c.is_due-in-Release.result c.in-Release.is
    (read_as c.is_due-in-Release.result c.release_due.result _ c.in-Release.is read c.is_due-in-Release.ensures)

pub returns-in-Signal : goal.returns-in-Signal
returns-in-Signal c = λ _.
    let read = c.signal_due.ensures ∙ ap (λ (h : Homes). signal_in h c.in-Signal.fence.0) c.homes-in-Signal.ensures in
    judged c.args.script.now c.args.tables.now.state c.is_due-in-Signal.result c.in-Signal.is
    (read_as c.is_due-in-Signal.result c.signal_due.result _ c.in-Signal.is read c.is_due-in-Signal.ensures)
