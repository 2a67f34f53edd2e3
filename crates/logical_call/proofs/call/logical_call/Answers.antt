-- At status 0 the joint run is written whole, and keeps the laws.
use Rattle.call_parts.proofs.Done.{done}
use Rattle.logical_call.specs.Logical.{IsLogicalWhole, TellsBoth}
use Rattle.logical_call.proofs.Telling.{JointLaws, whole_run}
use Rattle.logical_call.proofs.call.logical_call.Goals as goal
use Rattle.call_parts.specs.Status.{status_number}

pub returns-clause-whole : goal.returns-clause-whole
returns-clause-whole g c zero' =
    let before = g.K.Sink.state c.args.sink.now in
    let after = g.K.Sink.state c.answer_input.new.sink in
    let laws : JointLaws = record { kept = c.a_complete_run_keeps_the_laws.ensures; bounded = c.a_joint_run_is_bounded.ensures; paired = c.a_joint_run_has_one_pair_for_each_item.ensures } in (
      c.answer_input.ensures.ends.read.done zero',
      done TellsBoth (λ input. IsLogicalWhole input before after) (g.S.Source.left c.args.source.now) (status_number c.answer_input.result) before after
          (λ input text tells written. whole_run input text before after laws tells written) c.answer_input.ensures.tells zero',
    )
