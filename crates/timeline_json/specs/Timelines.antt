-- The events of a chart (our own choice): a place is a microsecond, as the trace events count.
use Rattle.std.specs.Prelude.{ℕ, ◌+◌, ◌-◌, Bool, List, [], ◌∷◌, ◌++◌, Option, Some, None, codes, decimal, map, if◌then◌else◌}
use Rattle.std.specs.List.{flat_map}
use Rattle.serde_json.specs.Data.{Data, Items, array, object, member, no_members, item, no_items}
use Rattle.serde_json.specs.Written.{compact_text}
use Rattle.timeline_model.specs.declared.chart.Chart.{Chart}
use Rattle.timeline_model.specs.declared.chart.Group.{Group}
use Rattle.timeline_model.specs.declared.chart.Kind.{Kind}
use Rattle.timeline_model.specs.declared.chart.Kind.TheVariants.{Trace, Hal}
use Rattle.timeline_model.specs.declared.chart.Lane.{Lane}
use Rattle.timeline_model.specs.declared.chart.Piece.{Piece}
use Rattle.timeline_model.specs.declared.look.Look.{Look}
use Rattle.timeline_model.specs.declared.look.Look.TheVariants.{Send, Filled, Failed, Early, Late, RequestBegin, Unclear}
use Rattle.timeline_json.specs.Events.{called_data, count_data, flow_data, levels_data, line_data, naming_data, slice_data, verdict_data}
use Rattle.timeline_json.specs.Plain.{plain}
use Rattle.timeline_json.specs.Tracks.{fault_text, look_text, named, own, track_of}

-- a slice begins where what ends there began, or else at its place
abbrev pub start_of : ℕ → Option ℕ → ℕ
start_of place (Some from) = from
start_of place None = place

-- the number of a line, and the line
abbrev pub numbered_line : ℕ → List ℕ → List ℕ
numbered_line line title = decimal line ++ 32 ∷ map plain title

-- the slice of a piece, up to its place, with what is told of it
unfoldable pub piece_slice : ℕ → List ℕ → Piece → Data
piece_slice place told p =
    slice_data (track_of p.look p.seat) (start_of place p.since) (place + 1 - start_of place p.since) (named (look_text p.look) p.frame) (line_data told)

-- a flow begins (`s`) with the send or the request, and goes on (`t`) with each buffer that comes back or is filled
abbrev pub phase_of : Look → Option (List ℕ)
phase_of Send = Some (codes "s")
phase_of RequestBegin = Some (codes "s")
phase_of Filled = Some (codes "t")
phase_of Failed = Some (codes "t")
phase_of Unclear = Some (codes "t")
phase_of Early = Some (codes "t")
phase_of Late = Some (codes "t")
phase_of _ = None

abbrev pub flow_of : ℕ → Piece → Option ℕ → Option (List ℕ) → List Data
flow_of place p (Some n) (Some phase) = flow_data (track_of p.look p.seat) place n phase ∷ []
flow_of place p _ _ = []

unfoldable pub piece_events : ℕ → List ℕ → Piece → List Data
piece_events place told p = piece_slice place told p ∷ flow_of place p p.frame (phase_of p.look)

-- a line that isn't allowed, or breaks a rule
unfoldable pub fault_event : Kind → ℕ → List ℕ → Data
fault_event kind place told = slice_data (own 6) place 1 (fault_text kind) (line_data told)

abbrev pub fault_events : Kind → ℕ → List ℕ → Bool → List Data
fault_events kind place told broken = if broken then fault_event kind place told ∷ [] else []

abbrev pub one_if : Bool → ℕ
one_if b = if b then 1 else 0

-- the level and the band, where they may have changed
unfoldable pub level_events : Group → List Data
level_events g = if g.counted then count_data g.place (levels_data g.level (one_if g.stopping)) ∷ [] else []

abbrev pub told_of : Group → List ℕ
told_of g = numbered_line g.line g.title

unfoldable pub group_events : Kind → Group → List Data
group_events kind g =
    flat_map (piece_events g.place (told_of g)) g.pieces
    ++ (fault_events kind g.place (told_of g) g.broken ++ level_events g)

abbrev pub fault_of : Kind → Option Group → List Data
fault_of kind (Some g) = group_events kind g
fault_of kind None = []

-- a bar that isn't ended, up to the end
unfoldable pub unfinished_event : ℕ → Piece → Data
unfinished_event last p = piece_slice last (codes "isn't done") p

abbrev pub thread : ℕ → List ℕ → Data
thread number name = naming_data (codes "thread_name") (own number) (called_data name)

-- a stream's process
abbrev pub stream_name : Lane → Data
stream_name lane =
    naming_data (codes "process_name") (record { process = 2 + lane.place; thread = 0 }) (called_data (named (codes "stream") (Some lane.stream)))

abbrev pub camera_data : Data
camera_data = naming_data (codes "process_name") (own 0) (called_data (codes "camera"))

-- the threads that each trace has
abbrev pub trace_threads : List Data
trace_threads =
    thread 1 (codes "calls") ∷ thread 2 (codes "send, drop") ∷ thread 3 (codes "shutter") ∷ thread 4 (codes "metadata")
    ∷ thread 5 (codes "fences") ∷ thread 6 (codes "not allowed") ∷ []

-- those that each hal log has, one for each kind of call among them
abbrev pub hal_threads : List Data
hal_threads =
    thread 2 (codes "request") ∷ thread 3 (codes "shutter") ∷ thread 4 (codes "metadata") ∷ thread 6 (codes "breach")
    ∷ []

abbrev pub call_threads : List Data
call_threads =
    thread 7 (codes "open") ∷ thread 8 (codes "initialize") ∷ thread 9 (codes "template") ∷ thread 10 (codes "configure")
    ∷ thread 11 (codes "flush") ∷ thread 12 (codes "close") ∷ []

abbrev pub thread_names : Kind → List Data
thread_names Trace = trace_threads
thread_names Hal = hal_threads ++ call_threads

-- all events behind the first: names, each line in order, the bars that aren't ended, and the line that isn't allowed
unfoldable pub more_events : Chart → List Data
more_events c =
    thread_names c.kind
    ++ (map stream_name c.lanes
    ++ (flat_map (group_events c.kind) c.groups
    ++ (map (unfinished_event c.count) c.unfinished ++ fault_of c.kind c.fault)))

abbrev pub items_of : List Data → Items
items_of [] = no_items
items_of (d ∷ ds) = item d (items_of ds)

-- a note as a line of text; 10 is LF
abbrev pub note_line : List ℕ → List ℕ
note_line note = map plain note ++ 10 ∷ []

-- the whole
unfoldable pub trace_data : Chart → Data
trace_data c =
    object
    (member (codes "otherData") (verdict_data (flat_map note_line c.notes))
    (member (codes "traceEvents") (array (items_of (camera_data ∷ more_events c))) no_members))

-- its text
unfoldable pub json_text : Chart → List ℕ
json_text c = compact_text (trace_data c)

-- events, each behind a comma (44)
abbrev pub behind_commas : List Data → List ℕ
behind_commas events = flat_map (λ d. 44 ∷ compact_text d) events

-- ---- the parts of the text, as the code writes them. No public contract speaks of them.

abbrev pub piece_text : ℕ → List ℕ → Piece → List ℕ
piece_text place told p = behind_commas (piece_events place told p)

abbrev pub group_text : Kind → Group → List ℕ
group_text kind g =
    flat_map (piece_text g.place (told_of g)) g.pieces
    ++ (behind_commas (fault_events kind g.place (told_of g) g.broken) ++ behind_commas (level_events g))

abbrev pub fault_group_text : Kind → Option Group → List ℕ
fault_group_text kind (Some g) = group_text kind g
fault_group_text kind None = []

unfoldable pub verdict_text : List ℕ → List ℕ
verdict_text note = codes "{\"otherData\":" ++ compact_text (verdict_data note)

unfoldable pub camera_text : List ℕ
camera_text = codes ",\"traceEvents\":[" ++ compact_text camera_data

abbrev pub head_text : List (List ℕ) → List ℕ
head_text notes = verdict_text (flat_map note_line notes) ++ camera_text

unfoldable pub names_text : Chart → List ℕ
names_text c = behind_commas (thread_names c.kind) ++ flat_map (λ lane. 44 ∷ compact_text (stream_name lane)) c.lanes

unfoldable pub events_text : Chart → List ℕ
events_text c =
    flat_map (group_text c.kind) c.groups
    ++ (flat_map (λ p. 44 ∷ compact_text (unfinished_event c.count p)) c.unfinished ++ fault_group_text c.kind c.fault)

unfoldable pub rest_text : Chart → List ℕ
rest_text c = names_text c ++ (events_text c ++ codes "]}")
