-- One request with a picture of each of two streams. The worked row `raw_and_yuv_of_one_request` of tests/rows.
use Rattle.std.specs.Prelude.{List, [], ◌∷◌, ◌++◌}
use Rattle.cam_types.specs.Worked.{shot}
use Rattle.cam_types.specs.declared.script.Command.TheVariants.{Configure, Once, Close}
use Rattle.cam_types.specs.declared.item.Settings.{Settings}
use Rattle.cam_types.specs.declared.script.Script.{Script}
use Rattle.trace_model.specs.declared.entry.Entry.{Entry}
use Rattle.worked_runs.specs.Pieces.{closed, filled, item_of_two, raw, shown, small_yuv, usual, both_sent}

abbrev pub bars : Settings
bars = shot 1 200 10000000 100

abbrev pub raw_and_yuv_of_one_request_script : Script
raw_and_yuv_of_one_request_script =
    usual [] [] (Configure (small_yuv ∷ raw ∷ []) ∷ Once (item_of_two bars 0 1) ∷ Close ∷ [])

abbrev pub raw_and_yuv_of_one_request_trace : List Entry
raw_and_yuv_of_one_request_trace =
    both_sent 6 5
    ++ shown bars 0
    ++ filled small_yuv bars 0 0 0 0
    ++ filled raw bars 0 1 6 1
    ++ closed 2 ∷ []
