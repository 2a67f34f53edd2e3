-- What is drawn of a line of the input (our own choice).
use Rattle.std.specs.Prelude.{ℕ, Bool, List, [], ◌∷◌, ◌++◌, Option, Some, None, codes, decimal, if◌then◌else◌}
use Rattle.std.specs.List.{flat_map}
use Rattle.timeline_model.specs.declared.chart.Group.{Group}
use Rattle.timeline_model.specs.declared.chart.Piece.{Piece}
use Rattle.timeline_svg.specs.Bars.{bar_of}
use Rattle.timeline_svg.specs.Escapes.{escaped}
use Rattle.timeline_svg.specs.Marks.{class_of, mark_text}
use Rattle.timeline_svg.specs.Places.{x_of}
use Rattle.timeline_svg.specs.Words.{word_of}
use Rattle.timeline_svg.specs.declared.place.Layout.{Layout}

-- of a piece the bar that ends with it, its mark at its place, and a word
abbrev pub drawing_text : Layout → ℕ → Piece → List ℕ
drawing_text l place p = bar_of l place p.since p ++ (mark_text l place p ++ word_of l.kind place p.look)

unfoldable pub piece_text : Layout → ℕ → Piece → List ℕ
piece_text l place p =
    codes "<g class='" ++ (class_of p.look ∷ (codes "'>" ++ (drawing_text l place p ++ codes "</g>")))

-- the title, which shows where the pointer rests on a mark: the line's number, and the line; 32 is a space
unfoldable pub title_text : ℕ → List ℕ → List ℕ
title_text line title = codes "<title>" ++ (decimal line ++ 32 ∷ (flat_map escaped title ++ codes "</title>"))

-- a pillar through all lanes
unfoldable pub pillar_text : ℕ → ℕ → List ℕ
pillar_text place bottom =
    codes "<path class='k' d='M" ++ (decimal (x_of place) ++ (codes " 16V" ++ (decimal bottom ++ codes "h8V16z'/>")))

-- what isn't allowed, or breaks a rule, has one
abbrev pub pillar_of : ℕ → ℕ → Bool → List ℕ
pillar_of place bottom broken = if broken then pillar_text place bottom else []

-- its title, its pieces, and its pillar
abbrev pub inner_text : Layout → ℕ → Group → List ℕ
inner_text l bottom g =
    title_text g.line g.title
    ++ (flat_map (piece_text l g.place) g.pieces ++ pillar_of g.place bottom g.broken)

unfoldable pub group_text : Layout → ℕ → Group → List ℕ
group_text l bottom g = codes "<g>" ++ (inner_text l bottom g ++ codes "</g>\n")

abbrev pub fault_of : Layout → ℕ → Option Group → List ℕ
fault_of l bottom (Some g) = group_text l bottom g
fault_of l bottom None = []

abbrev pub number_of : Option ℕ → List ℕ
number_of (Some n) = decimal n
number_of None = []

-- a bar that isn't ended goes up to the place behind the last line
unfoldable pub unfinished_text : Layout → ℕ → Piece → List ℕ
unfinished_text l last p =
    codes "<g class='o'><title>frame "
    ++ (number_of p.frame ++ (codes " isn't done</title>" ++ (bar_of l last p.since p ++ codes "</g>\n")))
