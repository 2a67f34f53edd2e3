-- What clients are answered, by the log so far, and what this adds to the log. (docs/FORMATS.md, several clients; our own
-- choice)
use Rattle.std.specs.Prelude.{ℕ, List, [], ◌∷◌, ◌++◌, Option, Some, None, if◌then◌else◌, is_some, map, nat_lt, option_to_list, reverse}
use Rattle.std.specs.List.{flat_map, range_with_len}
use Rattle.arbiter_call.specs.Log.{held, session_of}
use Rattle.arbiter_call.specs.declared.answer.Answer.{Answer}
use Rattle.arbiter_call.specs.declared.answer.Answer.TheVariants.{Granted, GrantedAfter, Left, Refused}
use Rattle.arbiter_call.specs.declared.answer.LogLine.{LogLine}
use Rattle.arbiter_call.specs.declared.answer.LogLine.TheVariants as log
use Rattle.arbiter_call.specs.declared.answer.Refusal.{Refusal}
use Rattle.arbiter_call.specs.declared.answer.Refusal.TheVariants.{Busy, Holding, NotHolding}
use Rattle.arbiter_call.specs.declared.line.ArbiterLine.{ArbiterLine}
use Rattle.arbiter_call.specs.declared.line.ArbiterLine.TheVariants.{Connect, Leave}
use Rattle.arbiter_call.specs.declared.session.Session.{Session}

-- the number of a refusal
abbrev pub code_of : Refusal → ℕ
code_of (Busy client) = 51
code_of Holding = 52
code_of NotHolding = 53

-- of a client that holds no camera, by the session at the camera that it asks for: a lower priority gives way
abbrev pub asked : Session → Option Session → Answer
asked s None = Granted
asked s (Some t) = if nat_lt t.priority s.priority then GrantedAfter t.client else Refused (Busy t.client)

-- of a client that leaves, by the camera that it holds
abbrev pub left : Option ℕ → Answer
left None = Refused NotHolding
left (Some c) = Left (record { 0 = c })

-- the answer to a line
abbrev pub answer_to : ℕ → List LogLine → ArbiterLine → Answer
answer_to cameras past (Connect s) =
    if is_some (held cameras s.client.0 past) then Refused Holding else asked s (session_of s.camera.0 past)
answer_to cameras past (Leave k) = left (held cameras k.0 past)

-- the line that ends a session
abbrev pub ended : (Session → LogLine) → Option Session → List LogLine
ended line session = map line (option_to_list session)

-- the lines that an answer adds, the newest first
abbrev pub added : List LogLine → ArbiterLine → Answer → List LogLine
added past (Connect s) Granted = log.Grant s ∷ []
added past (Connect s) (GrantedAfter k) = log.Grant s ∷ ended log.Evict (session_of s.camera.0 past)
added past line (Left c) = ended log.Leave (session_of c.0 past)
added past line (Refused why) = log.Refused why ∷ []
added past line _ = []

-- the log after one more line
abbrev pub after : ℕ → List LogLine → ArbiterLine → List LogLine
after cameras past line = added past line (answer_to cameras past line) ++ past

-- the log after lines, the first one first
abbrev pub log_after : ℕ → List LogLine → List ArbiterLine → List LogLine
log_after cameras past [] = past
log_after cameras past (line ∷ lines) = log_after cameras (after cameras past line) lines

-- the leaves of all that hold a camera, by camera
abbrev pub last_leaves : ℕ → List LogLine → List LogLine
last_leaves cameras past = flat_map (λ c. ended log.Leave (session_of c past)) (range_with_len 0 cameras)

-- the log with these leaves
abbrev pub closed : ℕ → List LogLine → List LogLine
closed cameras past = reverse (last_leaves cameras past) ++ past

-- the whole log of lines
abbrev pub log_of : ℕ → List ArbiterLine → List LogLine
log_of cameras lines = closed cameras (log_after cameras [] lines)
