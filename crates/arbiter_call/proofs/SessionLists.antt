-- The session at a camera, by the lines of a log.
use Rattle.std.proofs.Common.{◌≡◌, IfSome, ℕ, zero, suc, ◌+◌, ◌-◌, ◌<◌, ◌==◌, Bool, true, false, List, [], ◌∷◌, Option, Some, None, find, slice_index_or, refl, ap, sym, subst, ◌∙◌, arith, inl, inr}
use Rattle.std.specs.List.{range_with_len}
use Rattle.arbiter_call.proofs.Finding.{find-next}
use Rattle.std.proofs.lemmas.Bool.{cases_Bool, false≢true, both_ways}
use Rattle.std.proofs.lemmas.Bool.Decides.{nat_tests}
use Rattle.arbiter_call.specs.Inside.{standing_of}
use Rattle.arbiter_call.specs.Log.{begun_by, held, is_of, names, session_of}
use Rattle.arbiter_call.specs.declared.answer.LogLine.{LogLine}
use Rattle.arbiter_call.specs.declared.answer.LogLine.TheVariants.{Grant, Evict, Leave, Refused}
use Rattle.arbiter_call.specs.declared.session.Session.{Session}

-- a line that names the camera, and one that doesn't
pub named : (c : ℕ) (line : LogLine) (past : List LogLine) → names c line ≡ true → session_of c (line ∷ past) ≡ begun_by (Some line)
named c line past h = rw h refl

pub passed-over : (c : ℕ) (line : LogLine) (past : List LogLine) → names c line ≡ false → session_of c (line ∷ past) ≡ session_of c past
passed-over c line past h = rw h refl

begun-at : (c : ℕ) (line : LogLine) (s : Session) → names c line ≡ true → begun_by (Some line) ≡ Some s → s.camera.0 ≡ c
begun-at c (Grant t) s h e = let same : t ≡ s = cc in let here : t.camera.0 ≡ c = grind (arith, nat_tests, h) in rw same at here
begun-at c (Evict t) s h e = absurd (cc)
begun-at c (Leave t) s h e = absurd (cc)
begun-at c (Refused why) s h e = absurd (cc)

-- the session at a camera is one of this camera
pub at-its-camera : (c : ℕ) (past : List LogLine) (s : Session) → session_of c past ≡ Some s → s.camera.0 ≡ c
at-its-camera c [] s h = absurd (cc)
at-its-camera c (line ∷ past) s h =
    elim (cases_Bool (names c line)) [
      | inl here ↦ begun-at c line s here (sym (named c line past here) ∙ h)
      | inr over ↦ at-its-camera c past s (sym (passed-over c line past over) ∙ h)
    ]

-- a session that is a client's
pub is-there : (k : ℕ) (session : Option Session) → is_of k session ≡ true → (s : Session) × (session ≡ Some s) × (s.client.0 ≡ k)
is-there k None h = absurd (false≢true h)
is-there k (Some s) h = (s, refl, grind (arith, nat_tests, h))

pub is-its : (s : Session) → is_of s.client.0 (Some s) ≡ true
is-its s = grind (arith, nat_tests)

pub not-none : (k : ℕ) (session : Option Session) → session ≡ None → is_of k session ≡ false
not-none k session e = rw e refl

-- ---- a client's camera

-- the same of the cameras from one on
abbrev pub held_from : ℕ → ℕ → List LogLine → ℕ → Option ℕ
held_from cameras k past a = find (λ c. is_of k (session_of c past)) (range_with_len a (cameras - a))

pub goes-on : (cameras k : ℕ) (past : List LogLine) (a : ℕ) → a < cameras → is_of k (session_of a past) ≡ false → held_from cameras k past a ≡ held cameras k past → held_from cameras k past (a + 1) ≡ held cameras k past
goes-on cameras k past a l other was =
    let next = find-next (λ c. is_of k (session_of c past)) a cameras l in
    sym (rw other at next) ∙ was

pub found-at : (cameras k : ℕ) (past : List LogLine) (a c : ℕ) → a < cameras → is_of k (session_of a past) ≡ true → c ≡ a → held_from cameras k past a ≡ held cameras k past → held cameras k past ≡ Some c
found-at cameras k past a c l own same was =
    let next = find-next (λ c. is_of k (session_of c past)) a cameras l in
    sym was ∙ (rw own at next ∙ ap Some (sym same))

pub at-its : (past : List LogLine) (c : ℕ) (s : Session) → s.camera.0 ≡ c → session_of c past ≡ Some s → session_of s.camera.0 past ≡ Some s
at-its past c s at h = subst (λ (d : ℕ). session_of d past ≡ Some s) (sym at) h

-- ---- the table

in-table : (past : List LogLine) (c : ℕ) → c < 4 → slice_index_or (standing_of past) c None ≡ session_of c past
in-table past zero l = refl
in-table past (suc zero) l = refl
in-table past (suc (suc zero)) l = refl
in-table past (suc (suc (suc zero))) l = refl
in-table past (suc (suc (suc (suc c)))) l = absurd (omega (arith, l))

pub read-at : (past now : List LogLine) (standing : List (Option Session)) (c : ℕ) → standing ≡ standing_of past → past ≡ now → c < 4 → slice_index_or standing c None ≡ session_of c now
read-at past now standing c table same l = rw (table, in-table past c l, same) refl

its-camera : (c : ℕ) (session : Option Session) → ((s : Session) → session ≡ Some s → s.camera.0 ≡ c) → IfSome session (λ s. s.camera.0 ≡ c)
its-camera c None h = tt
its-camera c (Some s) h = h s refl

pub camera-at : (past now : List LogLine) (standing : List (Option Session)) (c : ℕ) → standing ≡ standing_of past → past ≡ now → c < 4 → IfSome (slice_index_or standing c None) (λ s. s.camera.0 ≡ c)
camera-at past now standing c table same l = rw (read-at past now standing c table same l) (its-camera c (session_of c now) (at-its-camera c now))
