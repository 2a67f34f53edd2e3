-- The mark of a piece (our own choice).
use Rattle.std.specs.Prelude.{ℕ, List, ◌∷◌, ◌++◌, codes, decimal}
use Rattle.timeline_model.specs.declared.chart.Piece.{Piece}
use Rattle.timeline_model.specs.declared.look.Look.{Look}
use Rattle.timeline_model.specs.declared.look.Look.TheVariants.{Begin, Call, Send, Dropped, Shutter, Partial, Filled, Failed, ErrorRequest, ErrorResult, ErrorBuffer, ErrorDevice, Release, Signal, Early, Late, CallBegin, CallOk, CallError, RequestBegin, RequestOk, RequestError, Refused, Unclear, Unfinished}
use Rattle.timeline_svg.specs.Places.{mark_y, x_of}
use Rattle.timeline_svg.specs.declared.place.Layout.{Layout}

-- the class, one letter: by it the style sheet gives the colour. A buffer that came back ok has `f` (102), one that
-- failed `e` (101), one that came back early `r` (114), and its late picture `t` (116); what is dropped or refused has
-- `d` (100), what isn't done `o` (111)
abbrev pub class_of : Look → ℕ
class_of Begin = 98
class_of (Call _) = 99
class_of Send = 115
class_of Dropped = 100
class_of (Shutter _) = 104
class_of (Partial _) = 112
class_of Filled = 102
class_of Failed = 101
class_of ErrorRequest = 120
class_of ErrorResult = 120
class_of ErrorBuffer = 120
class_of ErrorDevice = 120
class_of Release = 108
class_of Signal = 103
class_of Early = 114
class_of Late = 116
class_of (CallBegin _) = 98
class_of (CallOk _) = 99
class_of (CallError _) = 101
class_of RequestBegin = 115
class_of RequestOk = 115
class_of RequestError = 100
class_of Refused = 100
class_of Unclear = 101
class_of Unfinished = 111

abbrev pub cross : List ℕ
cross = codes "l8 8m0-8l-8 8"

-- the shape, drawn from its upper left corner: a triangle where something leaves or is exposed, an hourglass for what
-- is dropped or refused, a cross for an error, else a square
abbrev pub shape_of : Look → List ℕ
shape_of Send = codes "h8l-4 8z"
shape_of RequestBegin = codes "h8l-4 8z"
shape_of Signal = codes "h8l-4 8z"
shape_of (Shutter _) = codes "m0 8l4-8l4 8z"
shape_of Release = codes "m0 8l4-8l4 8z"
shape_of Dropped = codes "h8l-8 8h8z"
shape_of RequestError = codes "h8l-8 8h8z"
shape_of ErrorRequest = cross
shape_of ErrorResult = cross
shape_of ErrorBuffer = cross
shape_of ErrorDevice = cross
shape_of _ = codes "h8v8h-8z"

unfoldable pub mark_text : Layout → ℕ → Piece → List ℕ
mark_text l place p =
    codes "<path d='M" ++ (decimal (x_of place) ++ 32 ∷ (decimal (mark_y l p.seat p.look) ++ (shape_of p.look ++ codes "'/>")))
