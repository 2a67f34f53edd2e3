-- A device that is opened is as its invariant has it.
use Rattle.std.proofs.Common.{◌∙◌, ap, refl}
use Rattle.reprocess_model.specs.Run.{steps}
use Rattle.reprocess_core.proofs.Places.{first-places}
use Rattle.reprocess_core.proofs.Yuv.{input-yuv}
use Rattle.reprocess_core.proofs.device.Reprocess.open.Goals as goal

pub invariant_of-result : goal.invariant_of-result
invariant_of-result c =
    rw c.in_ok-course.ensures (
    record {
      steps = c.in_ok-all.ensures.all ∙ ap steps c.request_count-requests.ensures;
      room = c.in_ok-all.ensures.room;
      places = first-places c.args.plan _ c.in_ok-all.ensures.places;
      readout = refl;
      blocks = c.in_ok-all.ensures.outputs;
    }
    )

pub request_count-requests-requires : goal.request_count-requests-requires
request_count-requests-requires c = c.requires

pub open-requires : goal.open-requires
open-requires c = c.requires

pub make_memory-requires : goal.make_memory-requires
make_memory-requires c = input-yuv c.args.plan c.requires

pub returns : goal.returns
returns c = c.in_ok-course.ensures
