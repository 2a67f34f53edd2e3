use Rattle.std.proofs.Common.{inl}
use Rattle.call_parts.specs.Status.{status_number}
use Rattle.call_parts.proofs.Inputs.{long_told, refused_ends, told_ends, whole_told}
use Rattle.call_parts.proofs.input.answer_input.Goals as goal

pub returns-in-Ok-TooLong-clause-tells : goal.returns-in-Ok-TooLong-clause-tells
returns-in-Ok-TooLong-clause-tells g c =
    let long = rw c.in-Ok-TooLong.field-0-is at c.in-Ok-TooLong.ensures.answer in
    long_told (g.W.InputWork.belongs c.args.work.now) (g.S.Source.left c.args.source.now) (g.W.InputWork.refusal c.args.work.now) c.args.limit (status_number c.refuse_long.result) (g.K.Sink.state c.args.sink.now) (g.K.Sink.state c.refuse_long.new.sink) (rw c.requires c.keeps_the_laws.ensures.long) long c.refuse_long.ensures

pub returns-in-Ok-TooLong-clause-ends : goal.returns-in-Ok-TooLong-clause-ends
returns-in-Ok-TooLong-clause-ends g c =
    let long = rw c.in-Ok-TooLong.field-0-is at c.in-Ok-TooLong.ensures.answer in
    refused_ends (g.W.InputWork.refusal c.args.work.now) _ _ _ _ _ _ _ _ c.in-Ok-TooLong.ensures.faults long c.refuse_long.ensures

pub returns-in-Ok-Whole-clause-tells : goal.returns-in-Ok-Whole-clause-tells
returns-in-Ok-Whole-clause-tells g c =
    let answer = rw c.in-Ok-Whole.field-0-is at c.in-Ok-Whole.ensures.answer in
    let told = rw c.as_slice.ensures.value at c.answer_whole.ensures in
    whole_told (g.W.InputWork.belongs c.args.work.now) (g.S.Source.left c.args.source.now) c.in-Ok-Whole.bytes.items (status_number c.answer_whole.result) (g.K.Sink.state c.args.sink.now) (g.K.Sink.state c.answer_whole.new.sink) answer.1 told

pub returns-in-Ok-Whole-clause-ends : goal.returns-in-Ok-Whole-clause-ends
returns-in-Ok-Whole-clause-ends g c =
    let taken = rw c.in-Ok-Whole.field-0-is at c.in-Ok-Whole.ensures.taken in
    told_ends (g.W.InputWork.belongs c.args.work.now c.as_slice.result.now) _ _ _ _ _ _ _ _ (c.keeps_the_laws.ensures.answers c.as_slice.result.now) c.in-Ok-Whole.ensures.faults (inl taken.2.1) (λ _. taken.2.1) c.answer_whole.ensures
