-- The whole picture (our own choice).
use Rattle.std.specs.Prelude.{ℕ, ◌+◌, List, ◌++◌, codes, decimal, length}
use Rattle.std.specs.List.{flat_map}
use Rattle.timeline_model.specs.declared.chart.Chart.{Chart}
use Rattle.timeline_svg.specs.Escapes.{escaped}
use Rattle.timeline_svg.specs.Groups.{fault_of, group_text, unfinished_text}
use Rattle.timeline_svg.specs.Lanes.{lanes_text, names_text, ruler_step}
use Rattle.timeline_svg.specs.Levels.{bands_text, level_text}
use Rattle.timeline_svg.specs.Places.{bottom, height, width}
use Rattle.timeline_svg.specs.declared.place.Layout.{Layout}
use Rattle.timeline_svg.specs.declared.style.TheConstants.{STYLE}

unfoldable pub size_text : ℕ → ℕ → List ℕ
size_text right high = decimal right ++ (codes "' height='" ++ (decimal high ++ codes "'>\n"))

unfoldable pub head_text : ℕ → ℕ → List ℕ
head_text right high =
    codes "<svg xmlns='http://www.w3.org/2000/svg' width='" ++ (size_text right high ++ STYLE.now)

-- the bands and the level's line
abbrev pub lines_text : Chart → Layout → ℕ → List ℕ
lines_text c l bottom = bands_text bottom c.groups ++ level_text l.kind c.groups

-- the lanes' names and the ruler
abbrev pub scale_text : Chart → Layout → List ℕ
scale_text c l = names_text l c.lanes ++ flat_map (λ g. ruler_step g.place) c.groups

-- what is behind the marks
unfoldable pub ground_text : Chart → Layout → ℕ → List ℕ
ground_text c l bottom =
    head_text (width c.count) (height bottom (length c.notes))
    ++ (lanes_text l (width c.count) c.lanes ++ (lines_text c l bottom ++ scale_text c l))

-- each line of the input in order, the bars that aren't ended, and the line that isn't allowed
unfoldable pub marks_text : Chart → Layout → ℕ → List ℕ
marks_text c l bottom =
    flat_map (group_text l bottom) c.groups
    ++ (flat_map (unfinished_text l c.count) c.unfinished ++ fault_of l bottom c.fault)

unfoldable pub note_line : List ℕ → List ℕ
note_line note = codes "<tspan x='4' dy='16'>" ++ (flat_map escaped note ++ codes "</tspan>")

-- the notes, one below the other
unfoldable pub notes_text : ℕ → List (List ℕ) → List ℕ
notes_text bottom notes =
    codes "<text class='v' y='"
    ++ (decimal (bottom + 2) ++ (codes "'>" ++ (flat_map note_line notes ++ codes "</text>\n</svg>\n")))

abbrev pub layout_of : Chart → Layout
layout_of c = record { kind = c.kind; rows = c.rows }

-- the picture: what is behind the marks, the marks, and the notes
unfoldable pub picture_text : Chart → Layout → ℕ → List ℕ
picture_text c l bottom = ground_text c l bottom ++ (marks_text c l bottom ++ notes_text bottom c.notes)

abbrev pub svg_text : Chart → List ℕ
svg_text c = picture_text c (layout_of c) (bottom (layout_of c) (length c.lanes))
