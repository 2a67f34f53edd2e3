-- What a YUV stream is, and which streams are.
use Rattle.std.proofs.Common.{◌≡◌, true, ◌&&◌, nat_le, length, refl}
use Rattle.std.proofs.lemmas.Bool.{and_parts, false≢true}
use Rattle.std.specs.List.{list_all}
use Rattle.cam_types.specs.Picture.{is_yuv_size}
use Rattle.cam_types.specs.declared.stream.Format.{Format}
use Rattle.cam_types.specs.declared.stream.Format.TheVariants.{Yuv}
use Rattle.cam_types.specs.declared.stream.StreamSpec.{StreamSpec}
use Rattle.reprocess_model.specs.declared.plan.Plan.{Plan}
use Rattle.reprocess_model.specs.Plan.{are_outputs, command_fits, is_plan, is_yuv, is_yuv_format}

format-is : (f : Format) → is_yuv_format f ≡ true → f ≡ Yuv
format-is Yuv h = refl
format-is _ h = absurd (false≢true h)

pub yuv-format : (spec : StreamSpec) → is_yuv spec ≡ true → spec.format ≡ Yuv
yuv-format spec h = format-is spec.format (and_parts (is_yuv_format spec.format) (is_yuv_size spec.width spec.height) h).0

pub yuv-size : (spec : StreamSpec) → is_yuv spec ≡ true → is_yuv_size spec.width spec.height ≡ true
yuv-size spec h = (and_parts (is_yuv_format spec.format) (is_yuv_size spec.width spec.height) h).1

-- the input of a plan is YUV
pub input-yuv : (plan : Plan) → is_plan plan ≡ true → is_yuv plan.input ≡ true
input-yuv plan h =
    let yuv = is_yuv plan.input in
    let outs = are_outputs plan.input plan.outputs in
    let faults = nat_le (length plan.faults) 64 in
    let picks = nat_le (length plan.picks) 1024 in
    let commands = nat_le (length plan.commands) 64 in
    let e = and_parts ((((yuv && outs) && faults) && picks) && commands) (list_all command_fits plan.commands) h in
    let d = and_parts (((yuv && outs) && faults) && picks) commands e.0 in
    let c = and_parts ((yuv && outs) && faults) picks d.0 in
    (and_parts yuv outs (and_parts (yuv && outs) faults c.0).0).0
