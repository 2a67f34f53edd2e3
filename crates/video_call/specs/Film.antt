-- The film of a stream: the pictures of its good buffers, in the order of delivery. A buffer is good where it comes back
-- filled, or early and its device fence is signalled later; its picture is there at that entry. (docs/CONTRACT.md, What
-- each entry needs; docs/FORMATS.md, Pictures and films)
use Rattle.std.specs.Prelude.{ℕ, ◌==◌, List, [], ◌∷◌, ◌++◌, Option, Some, None, find, option_to_list, slice_get, if◌then◌else◌}
use Rattle.cam_types.specs.declared.item.Settings.{Settings}
use Rattle.cam_types.specs.declared.number.FrameNo.{FrameNo}
use Rattle.cam_types.specs.declared.number.StreamIx.{StreamIx}
use Rattle.cam_types.specs.declared.script.Script.{Script}
use Rattle.cam_types.specs.declared.stream.StreamSpec.{StreamSpec}
use Rattle.judge_rules.specs.Fills.{early_in}
use Rattle.trace_model.specs.declared.entry.Entry.{Entry}
use Rattle.trace_model.specs.declared.entry.Entry.TheVariants.{Filled, Late}
use Rattle.trace_model.specs.Configuration.{streams}
use Rattle.trace_model.specs.Entry.{is_early_with}
use Rattle.trace_model.specs.Frames.{settings_of}
use Rattle.video_call.specs.declared.shot.Shot.{Shot}

-- the frame and the stream whose picture is there with the entry, behind a past
abbrev pub brought : List Entry → Entry → Option (FrameNo × StreamIx)
brought past (Filled n s _ _ _) = Some (n, s)
brought past (Late d _) = early_in (find (is_early_with d.0) past)
brought past _ = None

-- the picture of a frame for a stream of the configuration
abbrev pub shot_on : Option StreamSpec → Settings → FrameNo → Option Shot
shot_on (Some spec) settings n = Some (record { frame = n; settings = settings; spec = spec })
shot_on None settings n = None

-- the picture for stream s, where it is that stream's
abbrev pub shot_for : Script → List Entry → ℕ → Option (FrameNo × StreamIx) → Option Shot
shot_for script past s (Some target) =
    if target.1.0 == s then shot_on (slice_get (streams script past) s) (settings_of script past target.0.0) target.0
    else None
shot_for script past s None = None

-- the film of stream s, the first picture that was delivered first
abbrev pub film : Script → ℕ → List Entry → List Shot
film script s [] = []
film script s (e ∷ past) = film script s past ++ option_to_list (shot_for script past s (brought past e))
