-- The script of a session is valid.
use Rattle.std.proofs.Common.{◌≡◌, ℕ, true, ◌&&◌, refl, nat_le, nat_lt}
use Rattle.std.proofs.lemmas.Bool.{and_parts}
use Rattle.arbiter_call.specs.Ranges.{is_client, is_logged, is_session}
use Rattle.arbiter_call.specs.declared.answer.LogLine.{LogLine}
use Rattle.arbiter_call.specs.declared.answer.LogLine.TheVariants.{Grant, Evict, Leave, Refused}
use Rattle.arbiter_call.specs.declared.session.Session.{Session}
use Rattle.arbiter_call.specs.Scripts.{shots_fit}

shots-of : (cameras : ℕ) (s : Session) → is_session cameras s ≡ true → (nat_le 1 s.shots && nat_le s.shots 100) ≡ true
shots-of cameras s h =
    let a = and_parts (is_client s.client.0) _ h in
    let b = and_parts (nat_lt s.camera.0 cameras) _ a.1 in
    let c = and_parts (nat_le s.priority 1000) _ b.1 in
    c.1

-- a session of a log has frames to wait for
pub fits-logged : (cameras : ℕ) (line : LogLine) → is_logged cameras line ≡ true → shots_fit line ≡ true
fits-logged cameras (Grant s) h = refl
fits-logged cameras (Evict s) h = shots-of cameras s h
fits-logged cameras (Leave s) h = shots-of cameras s h
fits-logged cameras (Refused why) h = refl
