-- What a timeline shows of a legal trace (our own choice).
use Rattle.std.specs.Prelude.{List}
use Rattle.cam_types.specs.declared.script.Script.{Script}
use Rattle.trace_model.specs.declared.entry.Entry.{Entry}
use Rattle.timeline_model.specs.declared.drawn.Timeline.{Timeline}
use Rattle.timeline_model.specs.Drawings.{all_drawn, most_streams, seats}

-- of a buffer that the device isn't done with the bar begins at its early return, or else at its send
abbrev pub timeline : Script → List Entry → Timeline
timeline script past = record {
  depth = script.profile.depth;
  streams = most_streams past;
  drawn = all_drawn script past;
  unfinished = seats past;
}
