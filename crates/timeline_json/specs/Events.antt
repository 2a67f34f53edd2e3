-- The kinds of trace events of Chrome. (our own choice of names)
use Rattle.std.specs.Prelude.{ℕ, List, codes}
use Rattle.serde_json.specs.Data.{Data, number, unsigned, string, object, member, no_members}
use Rattle.timeline_json.specs.declared.track.Track.{Track}

-- the line of an entry
abbrev pub line_data : List ℕ → Data
line_data line = object (member (codes "line") (string line) no_members)

-- a slice of a track: from a place on, over so many places (`X`, a complete event)
abbrev pub slice_data : Track → ℕ → ℕ → List ℕ → Data → Data
slice_data track from length name args =
    object
    (member (codes "args") args
    (member (codes "dur") (number (unsigned length))
    (member (codes "name") (string name)
    (member (codes "ph") (string (codes "X"))
    (member (codes "pid") (number (unsigned track.process))
    (member (codes "tid") (number (unsigned track.thread))
    (member (codes "ts") (number (unsigned from)) no_members)))))))

-- how many items wait, and whether frames are stopped: 0 or 1
abbrev pub levels_data : ℕ → ℕ → Data
levels_data queued stopping =
    object
    (member (codes "queued") (number (unsigned queued))
    (member (codes "stopping") (number (unsigned stopping)) no_members))

-- the levels at a place (`C`, a counter)
abbrev pub count_data : ℕ → Data → Data
count_data place levels =
    object
    (member (codes "args") levels
    (member (codes "name") (string (codes "levels"))
    (member (codes "ph") (string (codes "C"))
    (member (codes "pid") (number (unsigned 1))
    (member (codes "ts") (number (unsigned place)) no_members)))))

-- a step of the flow of a frame: `s` where it begins, `t` where it goes on
abbrev pub flow_data : Track → ℕ → ℕ → List ℕ → Data
flow_data track place n phase =
    object
    (member (codes "cat") (string (codes "frame"))
    (member (codes "id") (number (unsigned n))
    (member (codes "name") (string (codes "frame"))
    (member (codes "ph") (string phase)
    (member (codes "pid") (number (unsigned track.process))
    (member (codes "tid") (number (unsigned track.thread))
    (member (codes "ts") (number (unsigned place)) no_members)))))))

-- what a track or a process is called
abbrev pub called_data : List ℕ → Data
called_data name = object (member (codes "name") (string name) no_members)

-- the name of a process or of a track (`M`, metadata)
abbrev pub naming_data : List ℕ → Track → Data → Data
naming_data what track called =
    object
    (member (codes "args") called
    (member (codes "name") (string what)
    (member (codes "ph") (string (codes "M"))
    (member (codes "pid") (number (unsigned track.process))
    (member (codes "tid") (number (unsigned track.thread)) no_members)))))

-- the verdict on the trace
abbrev pub verdict_data : List ℕ → Data
verdict_data note = object (member (codes "verdict") (string note) no_members)
