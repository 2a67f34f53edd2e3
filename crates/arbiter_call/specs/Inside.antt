-- What a log keeps beside its lines.
use Rattle.std.specs.Prelude.{◌≡◌, ℕ, ◌≤◌, ◌==◌, Bool, true, List, [], ◌∷◌, length, nat_lt, Option, Some, None, if◌then◌else◌}
use Rattle.arbiter_call.specs.Log.{session_of}
use Rattle.arbiter_call.specs.declared.answer.LogLine.{LogLine}
use Rattle.arbiter_call.specs.declared.answer.LogLine.TheVariants.{Grant, Evict, Leave, Refused}
use Rattle.arbiter_call.specs.declared.session.Session.{Session}

-- a line names one of four cameras
abbrev pub line_fits : LogLine → Bool
line_fits (Grant s) = nat_lt s.camera.0 4
line_fits (Evict s) = nat_lt s.camera.0 4
line_fits (Leave s) = nat_lt s.camera.0 4
line_fits (Refused why) = true

-- the sessions at the cameras
abbrev pub standing_of : List LogLine → List (Option Session)
standing_of past = session_of 0 past ∷ session_of 1 past ∷ session_of 2 past ∷ session_of 3 past ∷ []

-- the table is of the sessions that the log has, and there is room for as many lines as may come
pub record IsKept (past : List LogLine) (standing : List (Option Session)) (capacity : ℕ) : Type 0 where
  pub table : standing ≡ standing_of past
  pub room : 264 ≤ capacity
  pub few : length past ≤ 264
