-- Every log that lines make keeps the laws.
use Rattle.std.proofs.Common.{◌≡◌, ℕ, ◌+◌, ◌<◌, ◌≤◌, ◌==◌, Bool, true, false, List, [], ◌∷◌, ◌++◌, Option, Some, None, find, count_by, refl, ap, sym, ◌∙◌, subst, arith, inl, inr, append_assoc, if◌then◌else◌}
use Rattle.std.specs.Prelude.{is_some, nat_lt}
use Rattle.std.specs.List.{list_all, range_with_len}
use Rattle.std.proofs.lemmas.Bool.{and_from, and_parts, cases_Bool, false≢true, both_ways, eqb-true, eq-eqb}
use Rattle.std.proofs.lemmas.Bool.Decides.{nat_tests}
use Rattle.basic_lemmas.proofs.Counts.{count-one, count-over}
use Rattle.basic_lemmas.proofs.Lists.{all-append}
use Rattle.arbiter_call.proofs.Finding.{find-found, find-missed}
use Rattle.arbiter_call.proofs.SessionLists.{at-its, at-its-camera, is-its, is-there, named, passed-over}
use Rattle.arbiter_call.specs.Answers.{added, after, asked, log_after}
use Rattle.arbiter_call.specs.Arbitration.{IsMade}
use Rattle.arbiter_call.specs.Laws.{InTurn, IsFair, KeepsLaws, begins, ends}
use Rattle.arbiter_call.specs.Log.{begun_by, held, is_of, names, session_of}
use Rattle.arbiter_call.specs.Ranges.{is_count, is_line, is_logged, is_session}
use Rattle.arbiter_call.specs.declared.answer.LogLine.{LogLine}
use Rattle.arbiter_call.specs.declared.answer.LogLine.TheVariants.{Grant, Evict, Leave, Refused}
use Rattle.arbiter_call.specs.declared.answer.Answer.{Answer}
use Rattle.arbiter_call.specs.declared.answer.Refusal.{Refusal}
use Rattle.arbiter_call.specs.declared.answer.Refusal.TheVariants.{Busy, Holding, NotHolding}
use Rattle.arbiter_call.specs.declared.session.ClientId.{ClientId}
use Rattle.arbiter_call.specs.declared.line.ArbiterLine.{ArbiterLine}
use Rattle.arbiter_call.specs.declared.line.ArbiterLine.TheVariants as ask
use Rattle.arbiter_call.specs.declared.session.Session.{Session}

-- what is known of a log that lines made
pub record Sound (cameras : ℕ) (past : List LogLine) : Type 0 where
  pub laws : KeepsLaws past
  pub fair : IsFair past
  pub valid : (c : ℕ) (s : Session) → session_of c past ≡ Some s → is_session cameras s ≡ true
  pub logged : list_all (is_logged cameras) past ≡ true

pub sound-first : (cameras : ℕ) → Sound cameras []
sound-first cameras = record {
  laws = tt;
  fair = record { cameras = λ c. refl; clients = λ k c d h g. absurd (false≢true h) };
  valid = λ c s h. absurd (cc);
  logged = refl;
}

-- ---- a line that isn't served

pub sound-refused : (cameras : ℕ) (past : List LogLine) (why : Refusal) → Sound cameras past → Sound cameras (Refused why ∷ past)
sound-refused cameras past why sound =
    let fair : IsFair (Refused why ∷ past) = record {
      cameras = λ c. count-over (begins c) (Refused why) past refl ∙ (sound.fair.cameras c ∙ ap (λ n. n + (if is_some (session_of c past) then 1 else 0)) (sym (count-over (ends c) (Refused why) past refl)));
      clients = sound.fair.clients;
    } in
    record { laws = (tt, fair, sound.laws); fair = fair; valid = sound.valid; logged = and_from _ _ refl sound.logged }

-- ---- a session that begins

module _ (cameras : ℕ) (past : List LogLine) (s : Session) (sound : Sound cameras past)
    (valid : is_session cameras s ≡ true) (free : session_of s.camera.0 past ≡ None)
    (none : (c : ℕ) → is_of s.client.0 (session_of c past) ≡ false) where
  -- its camera, or another
  there : (c : ℕ) → (s.camera.0 == c) ≡ true → session_of c (Grant s ∷ past) ≡ Some s
  there c h = named c (Grant s) past h

  elsewhere : (c : ℕ) → (s.camera.0 == c) ≡ false → session_of c (Grant s ∷ past) ≡ session_of c past
  elsewhere c h = passed-over c (Grant s) past h

  granted-camera : (c : ℕ) → count_by (begins c) (Grant s ∷ past) ≡ count_by (ends c) (Grant s ∷ past) + (if is_some (session_of c (Grant s ∷ past)) then 1 else 0)
  granted-camera c =
      let before = sound.fair.cameras c in
      let over = count-over (ends c) (Grant s) past refl in
      elim (cases_Bool (s.camera.0 == c)) [
        | inl here ↦ (
            let at : s.camera.0 ≡ c = eqb-true s.camera.0 c here in
            let nobody : session_of c past ≡ None = subst (λ (d : ℕ). session_of d past ≡ None) at free in
            let one = count-one (begins c) (Grant s) past here in
            let was = rw nobody at before in
            rw (there c here) (omega (arith, one, was, over))
            )
        | inr no' ↦ (
            let none' = count-over (begins c) (Grant s) past no' in
            rw (elsewhere c no') (omega (arith, none', before, over))
            )
      ]

  -- a client that holds a camera holds it before, or it is the one that got it
  granted-client : (k c d : ℕ) → is_of k (session_of c (Grant s ∷ past)) ≡ true → is_of k (session_of d (Grant s ∷ past)) ≡ true → c ≡ d
  granted-client k c d h g =
      elim (cases_Bool (s.camera.0 == c)) [
        | inl here ↦ (
            let at : s.camera.0 ≡ c = eqb-true s.camera.0 c here in
            let own : is_of k (Some s) ≡ true = rw (there c here) at h in
            let same : s.client.0 ≡ k = eqb-true s.client.0 k own in
            elim (cases_Bool (s.camera.0 == d)) [
              | inl too ↦ sym at ∙ eqb-true s.camera.0 d too
              | inr no' ↦ (
                  let other = rw (elsewhere d no') at g in
                  absurd (both_ways (is_of k (session_of d past)) (subst (λ (j : ℕ). is_of j (session_of d past) ≡ false) same (none d)) other)
                  )
            ]
            )
        | inr no' ↦ (
            let mine = rw (elsewhere c no') at h in
            elim (cases_Bool (s.camera.0 == d)) [
              | inl here ↦ (
                  let own : is_of k (Some s) ≡ true = rw (there d here) at g in
                  let same : s.client.0 ≡ k = eqb-true s.client.0 k own in
                  absurd (both_ways (is_of k (session_of c past)) (subst (λ (j : ℕ). is_of j (session_of c past) ≡ false) same (none c)) mine)
                  )
              | inr no'' ↦ sound.fair.clients k c d mine (rw (elsewhere d no'') at g)
            ]
            )
      ]

  granted-valid : (c : ℕ) (t : Session) → session_of c (Grant s ∷ past) ≡ Some t → is_session cameras t ≡ true
  granted-valid c t h =
      elim (cases_Bool (s.camera.0 == c)) [
        | inl here ↦ (let h' = rw (there c here) at h in let same : s ≡ t = cc in rw same at valid)
        | inr no' ↦ sound.valid c t (rw (elsewhere c no') at h)
      ]

  pub sound-granted : Sound cameras (Grant s ∷ past)
  sound-granted =
      let fair : IsFair (Grant s ∷ past) = record { cameras = granted-camera; clients = granted-client } in
      record { laws = ((free, none), fair, sound.laws); fair = fair; valid = granted-valid; logged = and_from _ _ valid sound.logged }

-- ---- a session that ends

-- the line ends the session
pub record Ends (s : Session) (line : LogLine) : Type 0 where
  pub names : (c : ℕ) → names c line ≡ (s.camera.0 == c)
  pub begun : begun_by (Some line) ≡ None
  pub begins : (c : ℕ) → begins c line ≡ false
  pub ends : (c : ℕ) → ends c line ≡ (s.camera.0 == c)
  pub logged : (cameras : ℕ) → is_logged cameras line ≡ is_session cameras s
  pub turn : (past : List LogLine) → session_of s.camera.0 past ≡ Some s → InTurn past line

pub evict-ends : (s : Session) → Ends s (Evict s)
evict-ends s = record { names = λ c. refl; begun = refl; begins = λ c. refl; ends = λ c. refl; logged = λ cameras. refl; turn = λ past h. h }

pub leave-ends : (s : Session) → Ends s (Leave s)
leave-ends s = record { names = λ c. refl; begun = refl; begins = λ c. refl; ends = λ c. refl; logged = λ cameras. refl; turn = λ past h. h }

module _ (cameras : ℕ) (past : List LogLine) (s : Session) (line : LogLine) (e : Ends s line) (sound : Sound cameras past)
    (there : session_of s.camera.0 past ≡ Some s) where
  pub gone : (c : ℕ) → (s.camera.0 == c) ≡ true → session_of c (line ∷ past) ≡ None
  gone c h = named c line past (e.names c ∙ h) ∙ e.begun

  pub stays : (c : ℕ) → (s.camera.0 == c) ≡ false → session_of c (line ∷ past) ≡ session_of c past
  stays c h = passed-over c line past (e.names c ∙ h)

  ended-camera : (c : ℕ) → count_by (begins c) (line ∷ past) ≡ count_by (ends c) (line ∷ past) + (if is_some (session_of c (line ∷ past)) then 1 else 0)
  ended-camera c =
      let before = sound.fair.cameras c in
      let over = count-over (begins c) line past (e.begins c) in
      elim (cases_Bool (s.camera.0 == c)) [
        | inl here ↦ (
            let at : s.camera.0 ≡ c = eqb-true s.camera.0 c here in
            let held : session_of c past ≡ Some s = subst (λ (d : ℕ). session_of d past ≡ Some s) at there in
            let one = count-one (ends c) line past (e.ends c ∙ here) in
            let was = rw held at before in
            rw (gone c here) (omega (arith, one, was, over))
            )
        | inr no' ↦ (
            let none' = count-over (ends c) line past (e.ends c ∙ no') in
            rw (stays c no') (omega (arith, none', before, over))
            )
      ]

  -- a session that stands stood before
  pub still : (k c : ℕ) → is_of k (session_of c (line ∷ past)) ≡ true → is_of k (session_of c past) ≡ true
  still k c h =
      elim (cases_Bool (s.camera.0 == c)) [
        | inl here ↦ (let h' = rw (gone c here) at h in absurd (false≢true h'))
        | inr no' ↦ rw (stays c no') at h
      ]

  ended-valid : (c : ℕ) (t : Session) → session_of c (line ∷ past) ≡ Some t → is_session cameras t ≡ true
  ended-valid c t h =
      elim (cases_Bool (s.camera.0 == c)) [
        | inl here ↦ (let h' = rw (gone c here) at h in absurd (cc))
        | inr no' ↦ sound.valid c t (rw (stays c no') at h)
      ]

  pub sound-ended : Sound cameras (line ∷ past)
  sound-ended =
      let fair : IsFair (line ∷ past) = record {
        cameras = ended-camera;
        clients = λ k c d h g. sound.fair.clients k c d (still k c h) (still k d g);
      } in
      record { laws = (e.turn past there, fair, sound.laws); fair = fair; valid = ended-valid; logged = and_from _ _ (e.logged cameras ∙ sound.valid s.camera.0 s there) sound.logged }

-- ---- a client's camera

pub holds-none : (cameras : ℕ) (past : List LogLine) (k : ℕ) → Sound cameras past → held cameras k past ≡ None → (c : ℕ) → is_of k (session_of c past) ≡ false
holds-none cameras past k sound h c =
    elim (cases_Bool (is_of k (session_of c past))) [
      | inl own ↦ (
          let it = is-there k (session_of c past) own in
          let fits = sound.valid c it.0 it.1 in
          let at = at-its-camera c past it.0 it.1 in
          let low : c < 0 + cameras = grind (arith, nat_tests, fits, at) in
          absurd (both_ways (is_of k (session_of c past)) (find-missed (λ d. is_of k (session_of d past)) 0 cameras c h (omega arith) low) own)
          )
      | inr no' ↦ no'
    ]

pub holds-that : (cameras : ℕ) (past : List LogLine) (k c : ℕ) → held cameras k past ≡ Some c → (c < cameras) × (is_of k (session_of c past) ≡ true)
holds-that cameras past k c h =
    let found = find-found (λ d. is_of k (session_of d past)) 0 cameras c h in
    (omega (arith, found.1), found.2)

-- the camera of a session is its client's
pub held-is : (cameras : ℕ) (past : List LogLine) (c : ℕ) (s : Session) → Sound cameras past → session_of c past ≡ Some s → held cameras s.client.0 past ≡ Some c
held-is cameras past c s sound at = by (held cameras s.client.0 past) refl
  where
    own : is_of s.client.0 (session_of c past) ≡ true
    own = rw at (is-its s)

    by : (found : Option ℕ) → held cameras s.client.0 past ≡ found → held cameras s.client.0 past ≡ Some c
    by None e = absurd (both_ways (is_of s.client.0 (session_of c past)) (holds-none cameras past s.client.0 sound e c) own)
    by (Some d) e =
        let that = holds-that cameras past s.client.0 d e in
        e ∙ ap Some (sound.fair.clients s.client.0 d c that.1 own)

-- ---- the lines of an answer

-- of a client that holds no camera
asked-sound : (cameras : ℕ) (past : List LogLine) (s : Session) (session : Option Session) → session_of s.camera.0 past ≡ session → is_session cameras s ≡ true → ((c : ℕ) → is_of s.client.0 (session_of c past) ≡ false) → Sound cameras past → Sound cameras (added past (ask.Connect s) (asked s session) ++ past)
asked-sound cameras past s None e valid none sound = sound-granted cameras past s sound valid e none
asked-sound cameras past s (Some t) e valid none sound =
    elim (cases_Bool (nat_lt t.priority s.priority)) [
      | inl lower ↦ rw (lower, e) granted
      | inr no' ↦ rw no' (sound-refused cameras past (Busy t.client) sound)
    ]
  where
    at : t.camera.0 ≡ s.camera.0
    at = at-its-camera s.camera.0 past t e

    there : session_of t.camera.0 past ≡ Some t
    there = subst (λ (d : ℕ). session_of d past ≡ Some t) (sym at) e

    free : session_of s.camera.0 (Evict t ∷ past) ≡ None
    free = gone cameras past t (Evict t) (evict-ends t) sound there s.camera.0 (eq-eqb t.camera.0 s.camera.0 at)

    nowhere : (c : ℕ) → is_of s.client.0 (session_of c (Evict t ∷ past)) ≡ false
    nowhere c =
        elim (cases_Bool (is_of s.client.0 (session_of c (Evict t ∷ past)))) [
          | inl own ↦ absurd (both_ways (is_of s.client.0 (session_of c past)) (none c) (still cameras past t (Evict t) (evict-ends t) sound there s.client.0 c own))
          | inr no' ↦ no'
        ]

    granted : Sound cameras (Grant s ∷ (Evict t ∷ past))
    granted =
        sound-granted cameras (Evict t ∷ past) s (sound-ended cameras past t (Evict t) (evict-ends t) sound there) valid free nowhere

connect-sound : (cameras : ℕ) (past : List LogLine) (s : Session) (found : Option ℕ) → held cameras s.client.0 past ≡ found → is_session cameras s ≡ true → Sound cameras past → Sound cameras (after cameras past (ask.Connect s))
connect-sound cameras past s None e valid sound =
    rw e (asked-sound cameras past s (session_of s.camera.0 past) refl valid (holds-none cameras past s.client.0 sound e) sound)
connect-sound cameras past s (Some c) e valid sound = rw e (sound-refused cameras past Holding sound)

leave-sound : (cameras : ℕ) (past : List LogLine) (k : ClientId) (found : Option ℕ) → held cameras k.0 past ≡ found → Sound cameras past → Sound cameras (after cameras past (ask.Leave k))
leave-sound cameras past k None e sound = rw e (sound-refused cameras past NotHolding sound)
leave-sound cameras past k (Some c) e sound =
    let that = holds-that cameras past k.0 c e in
    let it = is-there k.0 (session_of c past) that.1 in
    let there = at-its past c it.0 (at-its-camera c past it.0 it.1) it.1 in
    rw (e, it.1) (sound-ended cameras past it.0 (Leave it.0) (leave-ends it.0) sound there)

-- a line that is asked makes a log of the same kind
pub sound-after : (cameras : ℕ) (past : List LogLine) (line : ArbiterLine) → is_line cameras line ≡ true → Sound cameras past → Sound cameras (after cameras past line)
sound-after cameras past (ask.Connect s) h sound = connect-sound cameras past s (held cameras s.client.0 past) refl h sound
sound-after cameras past (ask.Leave k) h sound = leave-sound cameras past k (held cameras k.0 past) refl sound

-- and so do lines
pub sound-log : (cameras : ℕ) (past : List LogLine) (lines : List ArbiterLine) → list_all (is_line cameras) lines ≡ true → Sound cameras past → Sound cameras (log_after cameras past lines)
sound-log cameras past [] h sound = sound
sound-log cameras past (line ∷ lines) h sound =
    let parts = and_parts (is_line cameras line) (list_all (is_line cameras) lines) h in
    sound-log cameras (after cameras past line) lines parts.1 (sound-after cameras past line parts.0 sound)

-- ---- what an arbiter's log is made of

pub made-sound : (cameras : ℕ) (past : List LogLine) → IsMade cameras past → Sound cameras past
made-sound cameras past made = rw made.made (sound-log cameras [] made.lines made.range (sound-first cameras))

log-append : (cameras : ℕ) (past : List LogLine) (xs ys : List ArbiterLine) → log_after cameras past (xs ++ ys) ≡ log_after cameras (log_after cameras past xs) ys
log-append cameras past [] ys = refl
log-append cameras past (x ∷ xs) ys = log-append cameras (after cameras past x) xs ys

-- one more line
pub made-by : (cameras : ℕ) (past new : List LogLine) (line : ArbiterLine) → is_line cameras line ≡ true → new ≡ after cameras past line → IsMade cameras past → IsMade cameras new
made-by cameras past new line h is made = record {
  count = made.count;
  lines = made.lines ++ line ∷ [];
  range = all-append (is_line cameras) made.lines (line ∷ []) made.range (and_from _ _ h refl);
  made = is ∙ (ap (λ (p : List LogLine). after cameras p line) made.made ∙ sym (log-append cameras [] made.lines (line ∷ [])));
}

pub after-holding : (cameras : ℕ) (past : List LogLine) (s : Session) (c : ℕ) → held cameras s.client.0 past ≡ Some c → Refused Holding ∷ past ≡ after cameras past (ask.Connect s)
after-holding cameras past s c h = rw h refl

pub after-asked : (cameras : ℕ) (past : List LogLine) (s : Session) (answer : Answer) → held cameras s.client.0 past ≡ None → answer ≡ asked s (session_of s.camera.0 past) → added past (ask.Connect s) answer ++ past ≡ after cameras past (ask.Connect s)
after-asked cameras past s answer h is = rw (is, h) refl

pub after-left : (cameras : ℕ) (past : List LogLine) (k : ClientId) (s : Session) → held cameras k.0 past ≡ Some s.camera.0 → session_of s.camera.0 past ≡ Some s → Leave s ∷ past ≡ after cameras past (ask.Leave k)
after-left cameras past k s h there = rw (h, there) refl

pub after-no-leave : (cameras : ℕ) (past : List LogLine) (k : ClientId) → held cameras k.0 past ≡ None → Refused NotHolding ∷ past ≡ after cameras past (ask.Leave k)
after-no-leave cameras past k h = rw h refl

-- a camera that a client holds is one of four
pub camera-low : (cameras : ℕ) (past : List LogLine) (k c : ℕ) → is_count cameras ≡ true → held cameras k past ≡ Some c → c < 4
camera-low cameras past k c count h =
    let that = holds-that cameras past k c h in
    grind (arith, nat_tests, count, that.0)
