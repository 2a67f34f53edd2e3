-- How the lines of a run are spelled. (docs/FORMATS.md, reprocessing)
use Rattle.std.specs.Prelude.{ℕ, List, [], ◌∷◌, ◌++◌, codes, decimal, map}
use Rattle.std.specs.List.{flat_map}
use Rattle.hex.specs.Hex.{encode_lower}
use Rattle.cam_types.specs.Four.{four_list}
use Rattle.reprocess_model.specs.declared.entry.ReEntry.{ReEntry}
use Rattle.reprocess_model.specs.declared.entry.ReEntry.TheVariants.{Called, BeginFlush, Flushed, Take, Dropped, Error, Failed, Fill, Input}
use Rattle.reprocess_model.specs.declared.entry.ReOut.{ReOut}
use Rattle.text_parts.specs.Lines.{line_text}

-- words, each behind a space (32)
abbrev pub behind_spaces : List (List ℕ) → List ℕ
behind_spaces words = flat_map (λ word. 32 ∷ word) words

-- `iB`, an input buffer: 105 is `i`
abbrev pub input_text : ℕ → List ℕ
input_text i = 105 ∷ decimal i

-- `bB`, an output buffer: 98 is `b`
abbrev pub buffer_text : ℕ → List ℕ
buffer_text b = 98 ∷ decimal b

-- `S:bB`, an output and its buffer: 58 is `:`
abbrev pub out_text : ReOut → List ℕ
out_text out = decimal out.stream.0 ++ 58 ∷ buffer_text out.buffer.0

-- `N S bB`, a frame, a stream and a buffer
abbrev pub place_text : ℕ → ℕ → ℕ → List ℕ
place_text n s b = decimal n ++ 32 ∷ (decimal s ++ 32 ∷ buffer_text b)

-- the words of a line
abbrev pub line_words : ReEntry → List (List ℕ)
line_words (Called index) = codes "call" ∷ decimal index ∷ codes "request" ∷ codes "=" ∷ codes "ok" ∷ []
line_words BeginFlush = codes "begin" ∷ codes "flush" ∷ []
line_words (Flushed index) = codes "call" ∷ decimal index ∷ codes "flush" ∷ codes "=" ∷ codes "ok" ∷ []
line_words (Take n i outputs) = codes "take" ∷ decimal n.0 ∷ input_text i.0 ∷ map out_text (four_list outputs)
line_words (Dropped n) = codes "drop" ∷ decimal n.0 ∷ []
line_words (Error n) = codes "error" ∷ decimal n.0 ∷ []
line_words (Failed n s b) = codes "failed" ∷ decimal n.0 ∷ decimal s.0 ∷ buffer_text b.0 ∷ []
line_words (Fill n s b digest) =
    codes "fill" ∷ decimal n.0 ∷ decimal s.0 ∷ buffer_text b.0 ∷ encode_lower digest ∷ []
line_words (Input n i) = codes "input" ∷ decimal n.0 ∷ input_text i.0 ∷ []

-- the line, with its end
unfoldable pub line_of : ReEntry → List ℕ
line_of line = line_text (line_words line)

-- the version line
abbrev pub first_line : List ℕ
first_line = line_text (codes "reprocess" ∷ codes "1" ∷ [])

abbrev pub last_line : List ℕ
last_line = line_text (codes "end" ∷ [])

-- the version line, the lines of a run, the oldest first, and `end`
abbrev pub run_text : List ReEntry → List ℕ
run_text lines = (first_line ++ flat_map line_of lines) ++ last_line
