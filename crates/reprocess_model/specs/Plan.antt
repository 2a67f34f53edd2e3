use Rattle.std.specs.Prelude.{ℕ, Bool, true, false, ◌&&◌, List, [], ◌∷◌, Option, Some, None, is_none, length, nat_le, slice_get}
use Rattle.std.specs.List.{list_all}
use Rattle.cam_types.specs.Metadata.{range_fault}
use Rattle.cam_types.specs.Picture.{is_yuv_size, picture}
use Rattle.cam_types.specs.declared.four.Four.{Four}
use Rattle.cam_types.specs.declared.item.Settings.{Settings}
use Rattle.cam_types.specs.declared.stream.Format.{Format}
use Rattle.cam_types.specs.declared.stream.Format.TheVariants.{Yuv}
use Rattle.cam_types.specs.declared.stream.StreamSpec.{StreamSpec}
use Rattle.reprocess_model.specs.declared.plan.Plan.{Plan}
use Rattle.reprocess_model.specs.declared.plan.ReCommand.{ReCommand}
use Rattle.reprocess_model.specs.declared.plan.ReCommand.TheVariants.{Request, Flush}

-- Plans of a reprocessing device. All limits are our own choice.

abbrev pub is_yuv_format : Format → Bool
is_yuv_format Yuv = true
is_yuv_format _ = false

-- the stream's pictures are YUV and of an offered size
abbrev pub is_yuv : StreamSpec → Bool
is_yuv spec = is_yuv_format spec.format && is_yuv_size spec.width spec.height

-- an output is no larger than the input
abbrev pub is_output : StreamSpec → StreamSpec → Bool
is_output input spec = is_yuv spec && nat_le spec.width input.width

-- one to three outputs, from the first place on
abbrev pub are_outputs_at : StreamSpec → Option StreamSpec → Option StreamSpec → Option StreamSpec
    → Option StreamSpec → Bool
are_outputs_at input (Some a) None None None = is_output input a
are_outputs_at input (Some a) (Some b) None None = is_output input a && is_output input b
are_outputs_at input (Some a) (Some b) (Some c) None = is_output input a && (is_output input b && is_output input c)
are_outputs_at input _ _ _ _ = false

abbrev pub are_outputs : StreamSpec → Four StreamSpec → Bool
are_outputs input outputs = are_outputs_at input outputs.a outputs.b outputs.c outputs.d

-- a request's settings are in range
abbrev pub command_fits : ReCommand → Bool
command_fits (Request settings) = is_none (range_fault settings)
command_fits Flush = true

-- all sizes, settings and counts are within their limits
abbrev pub is_plan : Plan → Bool
is_plan plan =
    is_yuv plan.input
    && are_outputs plan.input plan.outputs
    && nat_le (length plan.faults) 64
    && nat_le (length plan.picks) 1024
    && nat_le (length plan.commands) 64
    && list_all command_fits plan.commands

abbrev pub is_request : ReCommand → Bool
is_request (Request _) = true
is_request Flush = false

abbrev pub is_flush : ReCommand → Bool
is_flush (Request _) = false
is_flush Flush = true

-- the settings of the requests, in the order of the commands: request n has the n-th
abbrev pub requests : List ReCommand → List Settings
requests [] = []
requests (Request settings ∷ commands) = settings ∷ requests commands
requests (Flush ∷ commands) = requests commands

-- the picture that request n has as its input
abbrev pub input_of_settings : StreamSpec → Option Settings → ℕ → List ℕ
input_of_settings input (Some settings) n = picture input settings n
input_of_settings input None n = []

abbrev pub input_picture : Plan → ℕ → List ℕ
input_picture plan n = input_of_settings plan.input (slice_get (requests plan.commands) n) n
