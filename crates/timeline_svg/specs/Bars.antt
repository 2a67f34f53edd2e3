-- Bars (our own choice).
use Rattle.std.specs.Prelude.{ℕ, ◌+◌, List, [], ◌∷◌, ◌++◌, Option, Some, None, codes, decimal}
use Rattle.timeline_model.specs.declared.chart.Piece.{Piece}
use Rattle.timeline_model.specs.declared.seat.Seat.{Seat}
use Rattle.timeline_svg.specs.Places.{mark_y, x_of}
use Rattle.timeline_svg.specs.declared.place.Layout.{Layout}

-- a bar from one place to another, both included, is eight pixels high; 72 is `H`
unfoldable pub end_text : ℕ → ℕ → List ℕ
end_text from to = decimal (x_of to + 8) ++ (codes "v8H" ++ (decimal (x_of from) ++ codes "z'/>"))

unfoldable pub bar_text : ℕ → ℕ → ℕ → List ℕ
bar_text from to y =
    codes "<path class='w' d='M" ++ (decimal (x_of from) ++ 32 ∷ (decimal y ++ 72 ∷ end_text from to))

-- a frame's number
unfoldable pub label_text : ℕ → ℕ → ℕ → List ℕ
label_text from y n =
    codes "<text x='"
    ++ (decimal (x_of from + 1) ++ (codes "' y='" ++ (decimal (y + 8) ++ (codes "'>" ++ (decimal n ++ codes "</text>")))))

-- a bar in a row has its frame's number
abbrev pub label_of : ℕ → ℕ → Option Seat → Option ℕ → List ℕ
label_of from y (Some seat) (Some n) = label_text from y n
label_of from y (Some seat) None = []
label_of from y None n = []

-- the bar that ends at a place with the piece, from where that began
abbrev pub bar_of : Layout → ℕ → Option ℕ → Piece → List ℕ
bar_of l place (Some from) p =
    bar_text from place (mark_y l p.seat p.look) ++ label_of from (mark_y l p.seat p.look) p.seat p.frame
bar_of l place None p = []
