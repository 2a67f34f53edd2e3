-- Requests and calls that are refused, each by its number. The worked row `refusals_of_requests` of tests/rows.
use Rattle.std.specs.Prelude.{List, [], ◌∷◌, ◌++◌, Some, None}
use Rattle.cam_types.specs.Worked.{shot}
use Rattle.cam_types.specs.declared.reply.Reply.TheVariants.{Refused}
use Rattle.cam_types.specs.declared.script.Command.TheVariants.{Configure, Once, Burst, Stop, Close}
use Rattle.cam_types.specs.declared.script.Script.{Script}
use Rattle.cam_types.specs.declared.script.Word.TheVariants.{Once as WOnce, Burst as WBurst, Stop as WStop}
use Rattle.trace_model.specs.declared.entry.Entry.{Entry}
use Rattle.trace_model.specs.declared.entry.Entry.TheVariants.{Call}
use Rattle.worked_runs.specs.Pieces.{close_begun, closed, configured, item_of, item_of_two, raw, small_yuv, usual}
use Rattle.trace_model.specs.Worked.{made, two}
use Rattle.worked_runs.specs.Words.{item, preview}

abbrev pub refusals_of_requests_script : Script
refusals_of_requests_script =
    usual [] []
    (Once (item_of preview 0)
    ∷ Configure (raw ∷ small_yuv ∷ [])
    ∷ Once (item_of preview 3)
    ∷ Once (item_of_two preview 0 0)
    ∷ Once (item_of (shot 0 100 99999 100) 0)
    ∷ Once (item preview 0 (0 ∷ 0 ∷ 0 ∷ 0 ∷ 0 ∷ 0 ∷ 0 ∷ 0 ∷ []))
    ∷ Burst []
    ∷ Stop
    ∷ Close
    ∷ Once (item_of preview 0)
    ∷ [])

abbrev pub refusals_of_requests_trace : List Entry
refusals_of_requests_trace =
    Call 0 WOnce (Refused 1 None None) ∷ configured 1 (two (made 0 5) (made 5 6))
    ++ Call 2 WOnce (Refused 6 (Some 0) (Some 3))
    ∷ Call 3 WOnce (Refused 7 (Some 0) (Some 0))
    ∷ Call 4 WOnce (Refused 8 (Some 0) (Some 2147483650))
    ∷ Call 5 WOnce (Refused 5 (Some 0) None)
    ∷ Call 6 WBurst (Refused 4 None None)
    ∷ Call 7 WStop (Refused 9 None None)
    ∷ close_begun
    ∷ closed 8
    ∷ Call 9 WOnce (Refused 2 None None)
    ∷ []
