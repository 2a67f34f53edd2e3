-- Configurations that are refused, each by its number. The worked row `refusals_of_configurations` of tests/rows.
use Rattle.std.specs.Prelude.{ℕ, List, [], ◌∷◌, ◌++◌, Option, Some, None, replicate}
use Rattle.cam_types.specs.declared.reply.Reply.TheVariants.{Refused}
use Rattle.cam_types.specs.declared.script.Command.TheVariants.{Configure, Once, Close}
use Rattle.cam_types.specs.declared.script.Script.{Script}
use Rattle.cam_types.specs.declared.script.Word.TheVariants.{Configure as WConfigure}
use Rattle.cam_types.specs.declared.stream.Format.TheVariants.{Yuv, Other}
use Rattle.trace_model.specs.declared.entry.Entry.{Entry}
use Rattle.trace_model.specs.declared.entry.Entry.TheVariants.{Begin, Call}
use Rattle.worked_runs.specs.Pieces.{burst_sent, close_begun, closed, configured, filled, item_of, once_submitted, raw, shown, small_yuv, usual}
use Rattle.trace_model.specs.Worked.{made, one}
use Rattle.worked_runs.specs.Words.{input, output, preview}

abbrev pub refusals_of_configurations_script : Script
refusals_of_configurations_script =
    usual [] []
    (Configure (small_yuv ∷ [])
    ∷ Configure []
    ∷ Configure (replicate 5 small_yuv)
    ∷ Configure (input Yuv 160 120 ∷ raw ∷ [])
    ∷ Configure (output (Other 33) 160 120 ∷ [])
    ∷ Configure (raw ∷ output Yuv 81 60 ∷ [])
    ∷ Configure (raw ∷ raw ∷ [])
    ∷ Configure (replicate 4 small_yuv)
    ∷ Once (item_of preview 0)
    ∷ Close
    ∷ [])

-- call i, a configuration, is refused by its number, at a stream where one is named
abbrev pub refused : ℕ → ℕ → Option ℕ → List Entry
refused i code place = Begin WConfigure ∷ Call i WConfigure (Refused code place None) ∷ []

abbrev pub refusals_of_configurations_trace : List Entry
refusals_of_configurations_trace =
    configured 0 (one (made 0 6))
    ++ refused 1 21 None
    ++ refused 2 22 None
    ++ refused 3 23 None
    ++ refused 4 24 (Some 0)
    ++ refused 5 25 (Some 1)
    ++ refused 6 26 None
    ++ refused 7 27 None
    ++ once_submitted 8 0 ∷ burst_sent 1
    ++ close_begun ∷ shown preview 0
    ++ filled small_yuv preview 0 0 0 0
    ++ closed 9 ∷ []
