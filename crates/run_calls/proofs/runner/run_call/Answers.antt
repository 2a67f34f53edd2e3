use Rattle.std.proofs.Common.{inl}
use Rattle.call_parts.specs.Lines.{refused_script_text}
use Rattle.call_parts.specs.Status.{status_number}
use Rattle.call_parts.proofs.Inputs.{long_told, refused_ends, told_ends, whole_told}
use Rattle.run_calls.specs.Running.{Runs}
use Rattle.run_calls.proofs.Telling.{run_whole}
use Rattle.run_calls.proofs.runner.run_call.Goals as goal

pub returns-in-Ok-TooLong-clause-tells : goal.returns-in-Ok-TooLong-clause-tells
returns-in-Ok-TooLong-clause-tells g c =
    let long = rw c.in-Ok-TooLong.field-0-is at c.in-Ok-TooLong.ensures.answer in
    let refused = rw c.number.ensures at c.refuse_script.ensures in
    long_told Runs (g.S.Source.left c.args.source.now) (refused_script_text 0 37) 65536 (status_number c.refuse_script.result) (g.K.Sink.state c.args.sink.now) (g.K.Sink.state c.refuse_script.new.sink) c.inputs_are_answered.ensures.long long refused

pub returns-in-Ok-TooLong-clause-ends : goal.returns-in-Ok-TooLong-clause-ends
returns-in-Ok-TooLong-clause-ends g c =
    let long = rw c.in-Ok-TooLong.field-0-is at c.in-Ok-TooLong.ensures.answer in
    let refused = rw c.number.ensures at c.refuse_script.ensures in
    refused_ends (refused_script_text 0 37) _ _ _ _ _ _ _ _ c.in-Ok-TooLong.ensures.faults long refused

pub returns-in-Ok-TooLong-clause-whole : goal.returns-in-Ok-TooLong-clause-whole
returns-in-Ok-TooLong-clause-whole g c zero' =
    ((returns-in-Ok-TooLong-clause-ends g c).read.done zero', run_whole _ _ _ _ (returns-in-Ok-TooLong-clause-tells g c) zero')

pub returns-in-Ok-Whole-clause-tells : goal.returns-in-Ok-Whole-clause-tells
returns-in-Ok-Whole-clause-tells g c =
    let answer = rw c.in-Ok-Whole.field-0-is at c.in-Ok-Whole.ensures.answer in
    let told = rw c.as_slice.ensures.value at c.run_text.ensures in
    whole_told Runs (g.S.Source.left c.args.source.now) c.in-Ok-Whole.bytes.items (status_number c.run_text.result) (g.K.Sink.state c.args.sink.now) (g.K.Sink.state c.run_text.new.sink) answer.1 told

pub returns-in-Ok-Whole-clause-ends : goal.returns-in-Ok-Whole-clause-ends
returns-in-Ok-Whole-clause-ends g c =
    let taken = rw c.in-Ok-Whole.field-0-is at c.in-Ok-Whole.ensures.taken in
    told_ends (Runs c.as_slice.result.now) _ _ _ _ _ _ _ _ (c.inputs_are_answered.ensures.answers c.as_slice.result.now) c.in-Ok-Whole.ensures.faults (inl taken.2.1) (λ _. taken.2.1) c.run_text.ensures

pub returns-in-Ok-Whole-clause-whole : goal.returns-in-Ok-Whole-clause-whole
returns-in-Ok-Whole-clause-whole g c zero' =
    ((returns-in-Ok-Whole-clause-ends g c).read.done zero', run_whole _ _ _ _ (returns-in-Ok-Whole-clause-tells g c) zero')
