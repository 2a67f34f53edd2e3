-- How the lines of a log are spelled. (docs/FORMATS.md, several clients)
use Rattle.std.specs.Prelude.{List, ℕ, [], ◌∷◌, codes, decimal}
use Rattle.text_parts.specs.Lines.{line_text}
use Rattle.arbiter_call.specs.Answers.{code_of}
use Rattle.arbiter_call.specs.declared.answer.LogLine.{LogLine}
use Rattle.arbiter_call.specs.declared.answer.LogLine.TheVariants.{Grant, Evict, Leave, Refused}
use Rattle.arbiter_call.specs.declared.answer.Refusal.{Refusal}
use Rattle.arbiter_call.specs.declared.answer.Refusal.TheVariants.{Busy}
use Rattle.arbiter_call.specs.declared.session.Session.{Session}

-- the client and the camera of a session
abbrev pub session_words : Session → List (List ℕ)
session_words s = decimal s.client.0 ∷ decimal s.camera.0 ∷ []

-- who holds the camera that is refused
abbrev pub holder_words : Refusal → List (List ℕ)
holder_words (Busy holder) = decimal holder.0 ∷ []
holder_words _ = []

-- the words of a line
abbrev pub line_words : LogLine → List (List ℕ)
line_words (Grant s) = codes "grant" ∷ session_words s
line_words (Evict s) = codes "evict" ∷ session_words s
line_words (Leave s) = codes "leave" ∷ session_words s
line_words (Refused why) = codes "refused" ∷ decimal (code_of why) ∷ holder_words why

-- the line, with its end
unfoldable pub line_of : LogLine → List ℕ
line_of line = line_text (line_words line)

-- the version line, and the last one
abbrev pub first_line : List ℕ
first_line = line_text (codes "arbiter" ∷ codes "1" ∷ [])

abbrev pub last_line : List ℕ
last_line = line_text (codes "end" ∷ [])
