use Rattle.std.specs.Prelude.{ℕ, ◌==◌, Bool, true, false, List, [], ◌∷◌, Option, Some, None, is_none, is_some, replicate}
use Rattle.std.specs.List.{list_all}
use Rattle.cam_types.specs.declared.job.JobView.{JobView}
use Rattle.fill_jobs.specs.declared.handed_job.Job.{Job}
use Rattle.fill_jobs.specs.declared.handed_job.Job.TheVariants.{Exposure, Fill}
use Rattle.fill_jobs.specs.Held.{is_of_stream}

-- Places that are free or have a job (our own choice).

abbrev pub view_of : Job → JobView
view_of (Exposure job) = job
view_of (Fill job) = job

-- the jobs, in the order of their places
abbrev pub held_in : List (Option Job) → List JobView
held_in [] = []
held_in (Some job ∷ places) = view_of job ∷ held_in places
held_in (None ∷ places) = held_in places

abbrev pub no_job : Option Job
no_job = None

abbrev pub free_places : List (Option Job)
free_places = replicate 16 no_job

-- an exposure has no fill, and a fill has one
abbrev pub is_fitting : Job → Bool
is_fitting (Exposure job) = is_none job.fill
is_fitting (Fill job) = is_some job.fill

abbrev pub fits_in : Option Job → Bool
fits_in (Some job) = is_fitting job
fits_in None = true

abbrev pub are_fitting : List (Option Job) → Bool
are_fitting places = list_all fits_in places

-- the place has a job of frame n
abbrev pub has_frame : ℕ → Option Job → Bool
has_frame n (Some job) = (view_of job).frame.0 == n
has_frame n None = false

abbrev pub has_exposure : Option Job → Bool
has_exposure (Some (Exposure job)) = true
has_exposure (Some (Fill job)) = false
has_exposure None = false

-- the job fills a buffer of stream s
abbrev pub is_fill : ℕ → Job → Bool
is_fill s (Exposure job) = false
is_fill s (Fill job) = is_of_stream s job.fill

abbrev pub has_fill : ℕ → Option Job → Bool
has_fill s (Some job) = is_fill s job
has_fill s None = false
