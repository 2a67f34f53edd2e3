-- What holds of every log that lines make, after each of its lines, and once the last holders have left. (our own choice)
use Rattle.std.specs.Prelude.{◌≡◌, ℕ, ◌+◌, ◌==◌, Bool, true, false, List, [], ◌∷◌, Some, None, count_by, if◌then◌else◌, is_some}
use Rattle.arbiter_call.specs.Log.{is_of, session_of}
use Rattle.arbiter_call.specs.declared.answer.LogLine.{LogLine}
use Rattle.arbiter_call.specs.declared.answer.LogLine.TheVariants.{Grant, Evict, Leave, Refused}

-- the line begins a session at the camera, or ends one
abbrev pub begins : ℕ → LogLine → Bool
begins c (Grant s) = s.camera.0 == c
begins c _ = false

abbrev pub ends : ℕ → LogLine → Bool
ends c (Evict s) = s.camera.0 == c
ends c (Leave s) = s.camera.0 == c
ends c _ = false

-- A line comes in its turn: a grant where the camera has no session and the client holds no camera, an evict and a leave
-- where their session is the one at its camera.
abbrev pub InTurn : List LogLine → LogLine → Type 0
InTurn past (Grant s) =
    (session_of s.camera.0 past ≡ None) × ((c : ℕ) → is_of s.client.0 (session_of c past) ≡ false)
InTurn past (Evict s) = session_of s.camera.0 past ≡ Some s
InTurn past (Leave s) = session_of s.camera.0 past ≡ Some s
InTurn past (Refused why) = Unit {0}

-- at most one session that began at a camera hasn't ended, and no client holds two cameras
pub record IsFair (past : List LogLine) : Type 0 where
  pub cameras : (c : ℕ) →
      count_by (begins c) past ≡ count_by (ends c) past + (if is_some (session_of c past) then 1 else 0)
  pub clients : (k c d : ℕ) →
      is_of k (session_of c past) ≡ true → is_of k (session_of d past) ≡ true → c ≡ d

-- after each line
abbrev pub KeepsLaws : List LogLine → Type 0
KeepsLaws [] = Unit {0}
KeepsLaws (line ∷ past) = InTurn past line × IsFair (line ∷ past) × KeepsLaws past

-- each session that began has ended, once
abbrev pub IsOver : List LogLine → Type 0
IsOver past = (c : ℕ) → (session_of c past ≡ None) × (count_by (begins c) past ≡ count_by (ends c) past)
