-- The lanes behind the marks, with their names, and the ruler above them (our own choice). 72 is `H`, 118 `v`.
use Rattle.std.specs.Prelude.{ℕ, ◌+◌, ◌-◌, ◌%◌, ◌==◌, List, [], ◌∷◌, ◌++◌, codes, decimal, if◌then◌else◌}
use Rattle.std.specs.List.{flat_map}
use Rattle.timeline_model.specs.declared.chart.Kind.{Kind}
use Rattle.timeline_model.specs.declared.chart.Kind.TheVariants.{Trace, Hal}
use Rattle.timeline_model.specs.declared.chart.Lane.{Lane}
use Rattle.timeline_svg.specs.Places.{lane_height, lane_top, lower, shift, x_of}
use Rattle.timeline_svg.specs.declared.lane.TheConstants.{HAL_NAMES, TRACE_NAMES}
use Rattle.timeline_svg.specs.declared.place.Layout.{Layout}

-- the ground of a lane
unfoldable pub stripe_text : ℕ → ℕ → ℕ → List ℕ
stripe_text right top height =
    codes "<path class='y' d='M0 "
    ++ (decimal top ++ 72 ∷ (decimal right ++ 118 ∷ (decimal height ++ codes "H0z'/>")))

-- a trace has a lane for fences
abbrev pub fences_stripe : Kind → ℕ → List ℕ
fences_stripe Trace right = stripe_text right 208 26
fences_stripe Hal right = []

abbrev pub stream_stripe : Layout → ℕ → Lane → List ℕ
stream_stripe l right lane = stripe_text right (lane_top l lane.place - 4) (lane_height l.rows - 6)

-- every other lane has a ground, and that of each stream
unfoldable pub lanes_text : Layout → ℕ → List Lane → List ℕ
lanes_text l right lanes =
    stripe_text right 18 (54 + shift l.kind)
    ++ (stripe_text right (140 + shift l.kind) (34 + lower l.kind - shift l.kind)
    ++ (fences_stripe l.kind right ++ flat_map (stream_stripe l right) lanes))

-- the names that each picture of the kind has
abbrev pub kind_names : Kind → List ℕ
kind_names Trace = TRACE_NAMES.now
kind_names Hal = HAL_NAMES.now

unfoldable pub name_text : ℕ → ℕ → List ℕ
name_text y s =
    codes "<text x='4' y='" ++ (decimal y ++ (codes "'>stream " ++ (decimal s ++ codes "</text>")))

abbrev pub stream_name : Layout → Lane → List ℕ
stream_name l lane = name_text (lane_top l lane.place + 8) lane.stream

-- these, and that of each stream
unfoldable pub names_text : Layout → List Lane → List ℕ
names_text l lanes = kind_names l.kind ++ (flat_map (stream_name l) lanes ++ codes "</g>\n")

-- a number of the ruler
unfoldable pub tick_text : ℕ → List ℕ
tick_text place =
    codes "<text class='m' x='" ++ (decimal (x_of place) ++ (codes "' y='12'>" ++ (decimal place ++ codes "</text>\n")))

-- the names once more
unfoldable pub repeat_text : ℕ → List ℕ
repeat_text place = codes "<use href='#n' x='" ++ (decimal (x_of place) ++ codes "'/>\n")

-- the ruler has the number of each tenth place, and the names at each hundredth
abbrev pub ruler_step : ℕ → List ℕ
ruler_step place =
    if place % 100 == 99 then repeat_text place
    else (if place % 10 == 0 then tick_text place
    else [])
