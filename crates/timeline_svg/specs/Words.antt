-- Words beside marks (our own choice).
use Rattle.std.specs.Prelude.{ℕ, ◌+◌, ◌/◌, List, [], ◌∷◌, ◌++◌, codes, decimal}
use Rattle.text_parts.specs.CommandWords.{word_text}
use Rattle.timeline_model.specs.declared.chart.Kind.{Kind}
use Rattle.timeline_model.specs.declared.look.Look.{Look}
use Rattle.timeline_model.specs.declared.look.Look.TheVariants.{Call, Shutter}
use Rattle.timeline_svg.specs.Places.{lower, x_of}

-- the beginning of a word that stands aslant above its mark
unfoldable pub turned_text : ℕ → ℕ → List ℕ
turned_text place y =
    codes "<text transform='translate(" ++ (decimal (x_of place + 7) ++ 32 ∷ (decimal y ++ codes ")rotate(-60)'>"))

-- which command was answered; of a shutter its time in whole milliseconds
abbrev pub word_of : Kind → ℕ → Look → List ℕ
word_of kind place (Call word) = turned_text place 58 ++ (word_text word ++ codes "</text>")
word_of kind place (Shutter time) =
    turned_text place (160 + lower kind) ++ (decimal (time / 1000000) ++ codes "</text>")
word_of kind place _ = []
