-- What a line means by its words. (docs/FORMATS.md, several clients)
use Rattle.std.specs.Prelude.{ℕ, ◌-◌, List, [], ◌∷◌, Result, Ok, Err, if◌then◌else◌, codes, bytes_eq}
use Rattle.text_parts.specs.declared.cause.Cause.{Cause}
use Rattle.text_parts.specs.declared.cause.Cause.TheVariants.{UnknownWord, Missing}
use Rattle.text_parts.specs.LineWords.{◌>>=◌, good, one}
use Rattle.text_parts.specs.Numbers.{number_within}
use Rattle.call_parts.specs.Reading.{named_number, two_numbers}
use Rattle.arbiter_call.specs.declared.line.ArbiterLine.{ArbiterLine}
use Rattle.arbiter_call.specs.declared.line.ArbiterLine.TheVariants.{Connect, Leave}
use Rattle.arbiter_call.specs.declared.session.Session.{Session}

-- `cameras C`: 1 to 4
abbrev pub cameras_line : List ℕ → List (List ℕ) → Result ℕ Cause
cameras_line = named_number (codes "cameras") 1 4

-- `P N`: a priority up to 1000, and 1 to 100 frames
abbrev pub priority_and_shots : List (List ℕ) → Result (ℕ × ℕ) Cause
priority_and_shots = two_numbers 1000 100

-- `C P N`, of a client: one of the cameras
unfoldable pub camera_of : ℕ → ℕ → List (List ℕ) → Result Session Cause
camera_of cameras k [] = Err Missing
camera_of cameras k (camera ∷ words) = do
  c ← good (number_within 0 (cameras - 1) camera)
  r ← priority_and_shots words
  Ok (record { client = record { 0 = k }; camera = record { 0 = c }; priority = r.0; shots = r.1 })

-- `K C P N`: a client from 0 to 15
unfoldable pub session_of : ℕ → List (List ℕ) → Result Session Cause
session_of cameras [] = Err Missing
session_of cameras (client ∷ words) = good (number_within 0 15 client) >>= λ k. camera_of cameras k words

-- `connect` and these words, or `leave K`
abbrev pub client_line : ℕ → List ℕ → List (List ℕ) → Result ArbiterLine Cause
client_line cameras word words =
    if bytes_eq word (codes "connect") then (session_of cameras words >>= λ s. Ok (Connect s))
    else (if bytes_eq word (codes "leave") then (one (number_within 0 15) words >>= λ k. Ok (Leave (record { 0 = k })))
    else Err UnknownWord)
