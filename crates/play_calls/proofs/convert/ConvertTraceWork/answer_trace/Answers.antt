use Rattle.play_calls.proofs.convert.ConvertTraceWork.answer_trace.Goals as goal

pub write_version_two-requires : goal.write_version_two-requires
write_version_two-requires g c = (c.read_is_spelled.ensures 1 c.args.input.now c.in-Ok.trace c.in-Ok.ensures).2
