-- Places against the list of the jobs that they have.
use Rattle.std.proofs.Common.{◌≡◌, ℕ, ◌+◌, ◌<◌, ◌==◌, zero, suc, Bool, true, false, not, List, [], ◌∷◌, Option, Some, None, IsTrue, length, get_or, set, refl, ap, sym, ◌∙◌, inl, inr, arith}
use Rattle.std.specs.Prelude.{is_none, is_some, slice_get}
use Rattle.std.specs.List.{position_from}
use Rattle.std.proofs.lemmas.Bool.{and_parts, cases_Bool}
use Rattle.cam_types.specs.declared.job.FillTarget.{FillTarget}
use Rattle.cam_types.specs.declared.job.JobView.{JobView}
use Rattle.fill_jobs.specs.declared.handed_job.Job.{Job}
use Rattle.fill_jobs.specs.declared.handed_job.Job.TheVariants.{Exposure, Fill}
use Rattle.fill_jobs.specs.Held.{IsWith, fill_job_in, held_at, is_of_stream, sensor_job_in}
use Rattle.fill_jobs.specs.Places.{are_fitting, has_exposure, has_fill, has_frame, held_in, is_fitting, no_job, view_of}

-- one more job before both
with-after : (x job : JobView) (old new : List JobView) → IsWith job old new → IsWith job (x ∷ old) (x ∷ new)
with-after x job old new w = record {
  before = x ∷ w.before;
  after = w.after;
  old_is = ap (λ (jobs : List JobView). x ∷ jobs) w.old_is;
  new_is = ap (λ (jobs : List JobView). x ∷ jobs) w.new_is;
}

with-first : (job : JobView) (old : List JobView) → IsWith job old (job ∷ old)
with-first job old = record { before = []; after = old; old_is = refl; new_is = refl }

-- the place j has this job
pub record IsTaken (job : Job) (j : ℕ) (places : List (Option Job)) : Type 0 where
  pub there : (d : Option Job) → get_or places j d ≡ Some job
  pub less : IsWith (view_of job) (held_in (set places j no_job)) (held_in places)
  pub fits : are_fitting places ≡ true → is_fitting job ≡ true
  pub left : are_fitting places ≡ true → are_fitting (set places j no_job) ≡ true

taken-here : (job : Job) (places : List (Option Job)) → IsTaken job 0 (Some job ∷ places)
taken-here job places = record {
  there = λ d. refl;
  less = with-first (view_of job) (held_in places);
  fits = λ h. (and_parts (is_fitting job) (are_fitting places) h).0;
  left = λ h. (and_parts (is_fitting job) (are_fitting places) h).1;
}

taken-after : (j : ℕ) (first job : Job) (places : List (Option Job)) → IsTaken job j places → IsTaken job (suc j) (Some first ∷ places)
taken-after j first job places t = record {
  there = t.there;
  less = with-after (view_of first) (view_of job) _ _ t.less;
  fits = λ h. t.fits (and_parts (is_fitting first) (are_fitting places) h).1;
  left = λ h. (let parts = and_parts (is_fitting first) (are_fitting places) h in rw parts.0 (t.left parts.1));
}

taken-free : (j : ℕ) (job : Job) (places : List (Option Job)) → IsTaken job j places → IsTaken job (suc j) (None ∷ places)
taken-free j job places t = record { there = t.there; less = t.less; fits = t.fits; left = t.left }

-- the place j has the first job of frame n
pub record IsFrameAt (n j : ℕ) (places : List (Option Job)) : Type 0 where
  pub job : Job
  pub taken : IsTaken job j places
  pub held : held_at n (held_in places) ≡ Some (view_of job)

frame-found : (n k i : ℕ) (places : List (Option Job)) → position_from (λ place. has_frame n place) k places ≡ Some i → (j : ℕ) × (i ≡ k + j) × IsFrameAt n j places
frame-found n k i [] h = absurd (cc)
frame-found n k i (None ∷ places) h =
    let rest = frame-found n (k + 1) i places h in
    let at = rest.1 in
    let f = rest.2 in (
      suc rest.0,
      omega (arith, at),
      record { job = f.job; taken = taken-free rest.0 f.job places f.taken; held = f.held },
    )
frame-found n k i (Some first ∷ places) h = elim (cases_Bool ((view_of first).frame.0 == n)) [
  | inl yes' ↦ (
      let h' : Some k ≡ Some i = rw yes' at h in
      let at : k ≡ i = cc in
      (0, omega (arith, at), record { job = first; taken = taken-here first places; held = rw yes' refl })
      )
  | inr no' ↦ (
      let h' : position_from (λ place. has_frame n place) (k + 1) places ≡ Some i = rw no' at h in
      let rest = frame-found n (k + 1) i places h' in
      let at = rest.1 in
      let f = rest.2 in (
        suc rest.0,
        omega (arith, at),
        record { job = f.job; taken = taken-after rest.0 first f.job places f.taken; held = rw no' f.held },
      )
      )
]

pub frame_at : (n i : ℕ) (places : List (Option Job)) → position_from (λ place. has_frame n place) 0 places ≡ Some i → IsFrameAt n i places
frame_at n i places h =
    let found = frame-found n 0 i places h in
    let at : i ≡ found.0 = omega (arith, found.1) in
    rw at found.2

pub frame_none : (n k : ℕ) (places : List (Option Job)) → position_from (λ place. has_frame n place) k places ≡ None → held_at n (held_in places) ≡ None
frame_none n k [] h = refl
frame_none n k (None ∷ places) h = frame_none n (k + 1) places h
frame_none n k (Some job ∷ places) h = elim (cases_Bool ((view_of job).frame.0 == n)) [
  | inl yes' ↦ (let h' : Some k ≡ None = rw yes' at h in absurd (cc))
  | inr no' ↦ (
      let h' : position_from (λ place. has_frame n place) (k + 1) places ≡ None = rw no' at h in
      rw no' (frame_none n (k + 1) places h')
      )
]

-- the place j is free
pub record IsFree (j : ℕ) (places : List (Option Job)) : Type 0 where
  pub there : (d : Option Job) → get_or places j d ≡ None
  pub more : (job : Job) → IsWith (view_of job) (held_in places) (held_in (set places j (Some job)))
  pub fit : (job : Job) → is_fitting job ≡ true → are_fitting places ≡ true → are_fitting (set places j (Some job)) ≡ true
  pub room : length (held_in places) < length places

held-few : (places : List (Option Job)) → length (held_in places) < length places + 1
held-few [] = omega arith
held-few (None ∷ places) = let ih = held-few places in omega arith
held-few (Some job ∷ places) = let ih = held-few places in omega arith

free-here : (places : List (Option Job)) → IsFree 0 (None ∷ places)
free-here places = record {
  there = λ d. refl;
  more = λ job. with-first (view_of job) (held_in places);
  fit = λ job h f. rw h f;
  room = (let few = held-few places in omega arith);
}

free-after : (j : ℕ) (job : Job) (places : List (Option Job)) → IsFree j places → IsFree (suc j) (Some job ∷ places)
free-after j job places f = record {
  there = f.there;
  more = λ next. with-after (view_of job) (view_of next) _ _ (f.more next);
  fit = λ next h all. (let parts = and_parts (is_fitting job) (are_fitting places) all in rw parts.0 (f.fit next h parts.1));
  room = (let room = f.room in omega arith);
}

free-found : (k i : ℕ) (places : List (Option Job)) → position_from (λ place. is_none place) k places ≡ Some i → (j : ℕ) × (i ≡ k + j) × IsFree j places
free-found k i [] h = absurd (cc)
free-found k i (None ∷ places) h = let at : k ≡ i = cc in (0, omega (arith, at), free-here places)
free-found k i (Some job ∷ places) h =
    let rest = free-found (k + 1) i places h in
    (suc rest.0, omega (arith, rest.1), free-after rest.0 job places rest.2)

pub free_at : (i : ℕ) (places : List (Option Job)) → position_from (λ place. is_none place) 0 places ≡ Some i → IsFree i places
free_at i places h =
    let found = free-found 0 i places h in
    let at : i ≡ found.0 = omega (arith, found.1) in
    rw at found.2

pub none_free : (k : ℕ) (places : List (Option Job)) → position_from (λ place. is_none place) k places ≡ None → length (held_in places) ≡ length places
none_free k [] h = refl
none_free k (None ∷ places) h = absurd (cc)
none_free k (Some job ∷ places) h = let ih = none_free (k + 1) places h in omega arith

-- the place j has the first job
pub record IsFirst (j : ℕ) (places : List (Option Job)) : Type 0 where
  pub job : Job
  pub there : (d : Option Job) → get_or places j d ≡ Some job
  pub fits : are_fitting places ≡ true → is_fitting job ≡ true
  pub first : slice_get (held_in places) 0 ≡ Some (view_of job)

first-found : (k i : ℕ) (places : List (Option Job)) → position_from (λ place. is_some place) k places ≡ Some i → (j : ℕ) × (i ≡ k + j) × IsFirst j places
first-found k i [] h = absurd (cc)
first-found k i (Some job ∷ places) h =
    let at : k ≡ i = cc in (
      0,
      omega (arith, at),
      record {
        job = job;
        there = λ d. refl;
        fits = λ all. (and_parts (is_fitting job) (are_fitting places) all).0;
        first = refl;
      },
    )
first-found k i (None ∷ places) h =
    let rest = first-found (k + 1) i places h in
    let f = rest.2 in
    (suc rest.0, omega (arith, rest.1), record { job = f.job; there = f.there; fits = f.fits; first = f.first })

pub first_at : (i : ℕ) (places : List (Option Job)) → position_from (λ place. is_some place) 0 places ≡ Some i → IsFirst i places
first_at i places h =
    let found = first-found 0 i places h in
    let at : i ≡ found.0 = omega (arith, found.1) in
    rw at found.2

pub none_taken : (k : ℕ) (places : List (Option Job)) → position_from (λ place. is_some place) k places ≡ None → held_in places ≡ []
none_taken k [] h = refl
none_taken k (Some job ∷ places) h = absurd (cc)
none_taken k (None ∷ places) h = none_taken (k + 1) places h

-- where no job is held each place is free
pub all_free : (places : List (Option Job)) (k : ℕ) → held_in places ≡ [] → get_or places k no_job ≡ None
all_free [] k h = refl
all_free (Some job ∷ places) k h = absurd (cc)
all_free (None ∷ places) zero h = refl
all_free (None ∷ places) (suc k) h = all_free places k h

-- what the first free place and the first job say of all places
pub room_read : (places : List (Option Job)) (jobs : List JobView) (o : Option ℕ) (b : Bool) (n : ℕ) → b ≡ is_some o → o ≡ position_from (λ place. is_none place) 0 places → held_in places ≡ jobs → length places ≡ n → (IsTrue b → length jobs < n) × (length jobs < n → IsTrue b)
room_read places jobs None b n e h v l = (
  λ t. absurd (cc),
  λ less. absurd (let full = none_free 0 places (sym h) in let same = ap (λ (k : List JobView). length k) v in omega (arith, full, same, l)),
)
room_read places jobs (Some i) b n e h v l = (λ t. (let room = (free_at i places (sym h)).room in rw (v, l) at room), λ less. e)

turned : (b : Bool) → false ≡ not b → IsTrue b
turned true h = refl
turned false h = absurd (cc)

never : (b : Bool) → true ≡ not b → IsTrue b → ⊥
never true h t = cc
never false h t = cc

pub empty_read : (places : List (Option Job)) (jobs : List JobView) (o : Option ℕ) (b : Bool) → is_some o ≡ not b → o ≡ position_from (λ place. is_some place) 0 places → held_in places ≡ jobs → (IsTrue b → jobs ≡ []) × (jobs ≡ [] → IsTrue b)
empty_read places jobs None b e h v = (λ t. sym v ∙ none_taken 0 places (sym h), λ none. turned b e)
empty_read places jobs (Some i) b e h v = (
  λ t. absurd (never b e t),
  λ none. absurd (let first = (first_at i places (sym h)).first in let empty = ap (λ (k : List JobView). slice_get k 0) (v ∙ none) in cc),
)

-- of a job at a place, what is sought
some-none : (o : Option FillTarget) → is_some o ≡ true → is_none o ≡ false
some-none None h = absurd (cc)
some-none (Some target) h = refl

none-of : (s : ℕ) (o : Option FillTarget) → is_none o ≡ true → is_of_stream s o ≡ false
none-of s None h = refl
none-of s (Some target) h = absurd (cc)

pub no_sensor_job : (job : Job) → has_exposure (Some job) ≡ false → is_fitting job ≡ true → sensor_job_in (Some (view_of job)) ≡ None
no_sensor_job (Exposure view) h f = absurd (cc)
no_sensor_job (Fill view) h f = rw (some-none view.fill f) refl

pub no_fill_job : (s : ℕ) (job : Job) → has_fill s (Some job) ≡ false → is_fitting job ≡ true → fill_job_in s (Some (view_of job)) ≡ None
no_fill_job s (Exposure view) h f = rw (none-of s view.fill f) refl
no_fill_job s (Fill view) h f = rw h refl

pub sensor_job : (job : Job) (view : JobView) → job ≡ Exposure view → is_fitting job ≡ true → Some view ≡ sensor_job_in (Some (view_of job))
sensor_job (Exposure given) view e f = let same : given ≡ view = cc in rw f (ap (λ (v : JobView). Some v) (sym same))
sensor_job (Fill given) view e f = absurd (cc)

pub fill_job : (s : ℕ) (job : Job) (view : JobView) → job ≡ Fill view → has_fill s (Some job) ≡ true → Some view ≡ fill_job_in s (Some (view_of job))
fill_job s (Exposure given) view e h = absurd (cc)
fill_job s (Fill given) view e h = let same : given ≡ view = cc in rw h (ap (λ (v : JobView). Some v) (sym same))
