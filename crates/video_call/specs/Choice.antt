-- Whether a stream has a film, and a frame a picture, in a run; and if not, why. (docs/FORMATS.md, Pictures and films)
use Rattle.std.specs.Prelude.{ℕ, ◌==◌, Bool, true, false, ◌&&◌, not, List, [], ◌∷◌, Option, Some, None, Result, Ok, Err, find, length, nat_lt, if◌then◌else◌}
use Rattle.std.specs.List.{list_all, list_any}
use Rattle.cam_types.specs.declared.reply.Reply.TheVariants.{Configured}
use Rattle.cam_types.specs.declared.script.Script.{Script}
use Rattle.cam_types.specs.declared.stream.Format.{Format}
use Rattle.cam_types.specs.declared.stream.Format.TheVariants.{Raw16, Yuv, Other}
use Rattle.cam_types.specs.declared.stream.StreamSpec.{StreamSpec}
use Rattle.trace_model.specs.declared.entry.Entry.{Entry}
use Rattle.trace_model.specs.declared.entry.Entry.TheVariants.{Call}
use Rattle.trace_model.specs.Calls.{command_at}
use Rattle.trace_model.specs.Configuration.{streams_of}
use Rattle.trace_model.specs.Frames.{has_target, is_sent}
use Rattle.video_call.specs.declared.choice.NoFilm.{NoFilm}
use Rattle.video_call.specs.declared.choice.NoFilm.TheVariants.{NoStream, NotSent, NotTarget, Failed, Empty, Mixed}
use Rattle.video_call.specs.declared.shot.Shot.{Shot}
use Rattle.video_call.specs.Film.{film}

-- the number of a cause
abbrev pub number_of : NoFilm → ℕ
number_of NoStream = 71
number_of NotSent = 72
number_of NotTarget = 73
number_of Failed = 74
number_of Empty = 75
number_of Mixed = 76

-- the entry accepts a configuration that has stream s
abbrev pub makes_stream : Script → ℕ → Entry → Bool
makes_stream script s (Call i _ (Configured _)) = nat_lt s (length (streams_of (command_at script i)))
makes_stream script s _ = false

-- some accepted configuration has stream s
abbrev pub has_stream : Script → ℕ → List Entry → Bool
has_stream script s trace = list_any (makes_stream script s) trace

-- ---- the film of a stream

abbrev pub is_same_format : Format → Format → Bool
is_same_format Raw16 Raw16 = true
is_same_format Yuv Yuv = true
is_same_format (Other n) (Other m) = n == m
is_same_format _ _ = false

-- the two have one format and size
abbrev pub is_alike : StreamSpec → StreamSpec → Bool
is_alike a b = is_same_format a.format b.format && ((a.width == b.width) && (a.height == b.height))

-- pictures make a film where there are some, all of one format and size
abbrev pub alike_or_none : List Shot → Result (List Shot) NoFilm
alike_or_none [] = Err Empty
alike_or_none (shot ∷ shots) =
    if list_all (λ x. is_alike shot.spec x.spec) (shot ∷ shots) then Ok (shot ∷ shots) else Err Mixed

abbrev pub film_or_none : Script → ℕ → List Entry → Result (List Shot) NoFilm
film_or_none script s trace =
    if has_stream script s trace then alike_or_none (film script s trace) else Err NoStream

-- ---- the picture of a frame for a stream

-- why there is none: no configuration has the stream; nothing was sent under the number; it was sent without the
-- stream; and else its buffer came back in error
abbrev pub cause_of : Script → ℕ → ℕ → List Entry → NoFilm
cause_of script n s trace =
    if not (has_stream script s trace) then NoStream
    else (if not (is_sent n trace) then NotSent
    else (if not (has_target n s trace) then NotTarget else Failed))

abbrev pub or_cause : Option Shot → NoFilm → Result Shot NoFilm
or_cause (Some shot) cause = Ok shot
or_cause None cause = Err cause

abbrev pub shot_or_none : Script → ℕ → ℕ → List Entry → Result Shot NoFilm
shot_or_none script n s trace =
    or_cause (find (λ shot. shot.frame.0 == n) (film script s trace)) (cause_of script n s trace)
