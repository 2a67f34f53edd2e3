-- No more jobs are out than frames are open.
use Rattle.std.proofs.Common.{◌≡◌, ◌≤◌, ◌<◌, ℕ, ◌==◌, Bool, true, ◌&&◌, not, List, [], ◌∷◌, Option, Some, None, refl, sym, ap, ◌∙◌, arith, inl, inr, filter, length, nat_le, nat_lt}
use Rattle.std.specs.List.{list_any}
use Rattle.std.proofs.lemmas.Bool.{and_parts, cases_Bool, eqb-true, false≢true, not-true}
use Rattle.cam_types.specs.Profile.{is_profile_number, profile_fits}
use Rattle.cam_types.specs.Script.{is_valid}
use Rattle.cam_types.specs.declared.job.FillTarget.{FillTarget}
use Rattle.cam_types.specs.declared.job.JobView.{JobView}
use Rattle.cam_types.specs.declared.profile.Profile.{Profile}
use Rattle.cam_types.specs.declared.script.Script.{Script}
use Rattle.trace_model.specs.Complete.{IsComplete}
use Rattle.trace_model.specs.Frames.{frames}
use Rattle.trace_model.specs.Open.{is_open, is_quiet}
use Rattle.run_model.specs.declared.step.Move.{Move}
use Rattle.run_model.specs.History.{trace_of}
use Rattle.run_model.specs.Jobs.{IsJobOut, IsOutWith}
use Rattle.run_model.specs.Rows.{rows}
use Rattle.run_model.specs.Run.{IsRun}
use Rattle.basic_lemmas.proofs.Counts.{less-without}
use Rattle.basic_lemmas.proofs.Tests.{eq-turned}
use Rattle.run_model.proofs.Entries.{open-sent}
use Rattle.trace_laws.proofs.Frames.{sent-listed}
use Rattle.run_model.proofs.Home.{fill_open}
use Rattle.trace_laws.proofs.ValidLemmas.{at-most}
use Rattle.run_rows.proofs.Counted.{count_is, few}
use Rattle.run_rows.proofs.Stopped.{quiet-closed}
use Rattle.run_rows.proofs.Work.{sensor-closed}
use Rattle.fill_jobs.specs.Held.{frames_differ, held_at, is_held}
use Rattle.service_parts.specs.Outs.{AreOut, takes_a_job}
use Rattle.service_parts.proofs.JobGiven.{some_taken}
use Rattle.service_parts.proofs.Held.{first-held, held-frame, held-none}
use Rattle.service_parts.proofs.Moved.{takes_out}

-- a job that is out is of an open frame
pub job-open : (script : Script) (h : List Move) (job : JobView) → IsRun script h → IsJobOut script h job → is_open job.frame.0 (trace_of h) ≡ true
job-open script h job run is = by job.fill is
  where
    by : (o : Option FillTarget) → IsOutWith script h job o → is_open job.frame.0 (trace_of h) ≡ true
    by None is = elim (cases_Bool (is_open job.frame.0 (trace_of h))) [
      | inl open_ ↦ open_
      | inr closed ↦ absurd (false≢true (sym (sensor-closed script h job.frame.0 run closed) ∙ is.out))
    ]
    by (Some target) is = fill_open script h job.frame.0 target.stream.0 run is.out

-- ---- as many jobs as frames

kept-any : (p : ℕ → Bool) (n : ℕ) (xs : List ℕ) → p n ≡ true → list_any (λ x. x == n) xs ≡ true → list_any (λ x. x == n) (filter p xs) ≡ true
kept-any p n [] passes has = absurd (false≢true has)
kept-any p n (x ∷ xs) passes has = elim (cases_Bool (x == n)) [
  | inl here ↦ (let passes' : p x ≡ true = ap p (eqb-true x n here) ∙ passes in rw (passes', here) refl)
  | inr other ↦ (
      let has' = rw other at has in
      elim (cases_Bool (p x)) [
        | inl yes' ↦ rw (yes', other) (kept-any p n xs passes has')
        | inr no' ↦ rw no' (kept-any p n xs passes has')
      ]
      )
]

-- jobs of frames that differ are no more than the numbers among which the frames are
few-of : (jobs : List JobView) (ns : List ℕ) → frames_differ jobs ≡ true → ((n : ℕ) (job : JobView) → held_at n jobs ≡ Some job → list_any (λ k. k == n) ns ≡ true) → length jobs ≤ length ns
few-of [] ns differ each = omega arith
few-of (job ∷ jobs) ns differ each =
    let n = job.frame.0 in
    let parts = and_parts (not (is_held n jobs)) (frames_differ jobs) differ in
    let none = held-none n jobs (not-true (is_held n jobs) parts.0) in
    let less = less-without (λ k. not (k == n)) (λ k. k == n) ns (λ k at. ap not at) (each n job (first-held job jobs)) in
    let rest = few-of jobs (filter (λ k. not (k == n)) ns) parts.1 (λ k x at. others k x none at) in
    omega (arith, less, rest)
  where
    others : (k : ℕ) (x : JobView) → held_at job.frame.0 jobs ≡ None → held_at k jobs ≡ Some x → list_any (λ i. i == k) (filter (λ i. not (i == job.frame.0)) ns) ≡ true
    others k x none at = elim (cases_Bool (job.frame.0 == k)) [
      | inl here ↦ absurd (let at' : held_at job.frame.0 jobs ≡ Some x = ap (λ (i : ℕ). held_at i jobs) (eqb-true job.frame.0 k here) ∙ at in cc)
      | inr other ↦ kept-any (λ i. not (i == job.frame.0)) k ns (ap not (eq-turned k job.frame.0 other)) (each k x (rw other at))
    ]

pub jobs_few : (script : Script) (h : List Move) (jobs : List JobView) → IsRun script h → AreOut script h jobs → length jobs ≤ script.profile.depth
jobs_few script h jobs run out =
    let past = trace_of h in
    let p : ℕ → Bool = λ n. is_open n past in
    let jobs-open = few-of jobs (filter p (frames past)) out.once (λ n job at. listed n job at) in
    let count : length (filter p (frames past)) ≡ length (rows script h) = count_is script h in
    let most = few script h run in
    omega (arith, jobs-open, count, most)
  where
    listed : (n : ℕ) (job : JobView) → held_at n jobs ≡ Some job → list_any (λ k. k == n) (filter (λ k. is_open k (trace_of h)) (frames (trace_of h))) ≡ true
    listed n job at =
        let frame = held-frame n jobs job at in
        let open_ : is_open n (trace_of h) ≡ true = ap (λ (k : ℕ). is_open k (trace_of h)) (sym frame) ∙ job-open script h job run (out.held n job at) in
        kept-any (λ k. is_open k (trace_of h)) n (frames (trace_of h)) open_ (sent-listed (trace_of h) n (open-sent n (trace_of h) open_))

profile-depth : (version : ℕ) (p : Profile) → profile_fits version p ≡ true → p.depth ≤ 16
profile-depth version p h =
    elim (cases_Bool (version == 1)) [
      | inl one ↦ (
          let h' = rw one at h in
          let six = eqb-true p.depth 6 (and_parts (p.depth == 6) ((p.raw == 3) && (p.yuv == 4)) h').0 in
          omega (arith, six)
          )
      | inr no' ↦ (
          let h' = rw no' at h in
          let all = (and_parts (version == 2) (is_profile_number p.depth && (is_profile_number p.raw && is_profile_number p.yuv)) h').1 in
          let depth = (and_parts (is_profile_number p.depth) (is_profile_number p.raw && is_profile_number p.yuv) all).0 in
          at-most p.depth 16 (and_parts (nat_lt 0 p.depth) (nat_le p.depth 16) depth).1
          )
    ]

pub depth_few : (script : Script) → is_valid script ≡ true → script.profile.depth ≤ 16
depth_few script ok = profile-depth script.version script.profile (and_parts (profile_fits script.version script.profile) _ ok).0

-- one more job may be taken
pub room_left : (script : Script) (m : Move) (h : List Move) (jobs : List JobView) → IsRun script (m ∷ h) → AreOut script h jobs → takes_a_job m.step ≡ true → length jobs < script.profile.depth
room_left script m h jobs run out takes =
    let some = some_taken script m h run takes in
    let job = some.0 in
    let new = takes_out script m h jobs (job ∷ jobs) job run out some.1 some.2 (record { before = []; after = jobs; old_is = refl; new_is = refl }) in
    let most = jobs_few script (m ∷ h) (job ∷ jobs) run new in
    omega (arith, most)

-- ---- at rest

pub none_at_rest : (script : Script) (h : List Move) (jobs : List JobView) → IsRun script h → is_quiet (trace_of h) ≡ true → AreOut script h jobs → jobs ≡ []
none_at_rest script h [] run quiet out = refl
none_at_rest script h (job ∷ jobs) run quiet out =
    absurd (quiet-closed (trace_of h) job.frame.0 quiet (job-open script h job run (out.held job.frame.0 job (first-held job jobs))))

pub none_at_end : (script : Script) (h : List Move) (jobs : List JobView) → IsRun script h → IsComplete script (trace_of h) → AreOut script h jobs → jobs ≡ []
none_at_end script h jobs run complete out = none_at_rest script h jobs run complete.open_frames out
