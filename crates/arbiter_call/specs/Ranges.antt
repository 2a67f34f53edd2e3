-- What clients may ask. (docs/FORMATS.md, several clients; our own choice)
use Rattle.std.specs.Prelude.{ℕ, Bool, true, ◌&&◌, nat_le, nat_lt}
use Rattle.arbiter_call.specs.declared.answer.LogLine.{LogLine}
use Rattle.arbiter_call.specs.declared.answer.LogLine.TheVariants.{Grant, Evict, Refused}
use Rattle.arbiter_call.specs.declared.answer.LogLine.TheVariants as log
use Rattle.arbiter_call.specs.declared.line.ArbiterLine.{ArbiterLine}
use Rattle.arbiter_call.specs.declared.line.ArbiterLine.TheVariants.{Connect, Leave}
use Rattle.arbiter_call.specs.declared.session.Session.{Session}

-- the most cameras that there are
abbrev pub camera_limit : ℕ
camera_limit = 4

-- 1 to 4 cameras
abbrev pub is_count : ℕ → Bool
is_count cameras = nat_le 1 cameras && nat_le cameras camera_limit

abbrev pub is_client : ℕ → Bool
is_client client = nat_le client 15

-- a client asks for one of the cameras, with a priority up to 1000, and waits for 1 to 100 frames
abbrev pub is_session : ℕ → Session → Bool
is_session cameras s =
    is_client s.client.0
    && (nat_lt s.camera.0 cameras && (nat_le s.priority 1000 && (nat_le 1 s.shots && nat_le s.shots 100)))

abbrev pub is_line : ℕ → ArbiterLine → Bool
is_line cameras (Connect s) = is_session cameras s
is_line cameras (Leave client) = is_client client.0

-- a line of a log is of such a session
abbrev pub is_logged : ℕ → LogLine → Bool
is_logged cameras (Grant s) = is_session cameras s
is_logged cameras (Evict s) = is_session cameras s
is_logged cameras (log.Leave s) = is_session cameras s
is_logged cameras (Refused why) = true
