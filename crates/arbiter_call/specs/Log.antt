-- Who holds a camera, read from the log, which is a list of its lines, the newest first. (our own choice)
use Rattle.std.specs.Prelude.{ℕ, ◌==◌, Bool, true, false, List, Option, Some, None, find}
use Rattle.std.specs.List.{range_with_len}
use Rattle.std.specs.Option.{option_map}
use Rattle.arbiter_call.specs.declared.answer.LogLine.{LogLine}
use Rattle.arbiter_call.specs.declared.answer.LogLine.TheVariants.{Grant, Evict, Leave, Refused}
use Rattle.arbiter_call.specs.declared.session.ClientId.{ClientId}
use Rattle.arbiter_call.specs.declared.session.Session.{Session}

-- the line begins or ends a session at the camera
abbrev pub names : ℕ → LogLine → Bool
names c (Grant s) = s.camera.0 == c
names c (Evict s) = s.camera.0 == c
names c (Leave s) = s.camera.0 == c
names c (Refused why) = false

-- the session that the line begins
abbrev pub begun_by : Option LogLine → Option Session
begun_by (Some (Grant s)) = Some s
begun_by _ = None

-- the session at a camera: that of the last line that names it, if this is a grant
abbrev pub session_of : ℕ → List LogLine → Option Session
session_of c past = begun_by (find (names c) past)

-- the client that holds a camera
abbrev pub holder : ℕ → List LogLine → Option ClientId
holder c past = option_map (λ s. s.client) (session_of c past)

-- a session is the client's
abbrev pub is_of : ℕ → Option Session → Bool
is_of k None = false
is_of k (Some s) = s.client.0 == k

-- the camera that a client holds: the first whose session is the client's
abbrev pub held : ℕ → ℕ → List LogLine → Option ℕ
held cameras k past = find (λ c. is_of k (session_of c past)) (range_with_len 0 cameras)
