-- What the views of a turnstile's seats say together.
use Rattle.std.specs.Prelude.{ℕ, zero, suc, ◌<◌, ◌==◌, Bool, false, List, [], ◌∷◌, ◌++◌, length, Option, if◌then◌else◌, Some, None, is_some, nat_lt, count_by}
use Rattle.std.specs.List.{list_any, flat_map}
use Rattle.turn_lock.specs.declared.view.View.{View}

module _ {F E J : Type 0} where
  -- the view of a seat with this number that has seen this history, made so many seats, and has no turn and no job
  abbrev pub idle_view : Option F → ℕ → List E → ℕ → View F E J
  idle_view fixed number seen made =
      record {
        fixed = fixed;
        number = number;
        seen = seen;
        jobs = [];
        holds = false;
        rest = [];
        others = [];
        made = made;
        told = [];
      }

  -- the view of the first seat, at a value with this fixed part and these entries
  abbrev pub root_view : F → List E → View F E J
  root_view start seen = idle_view (Some start) 0 seen 1

  -- the view that a join leaves to the seat that it takes in
  abbrev pub spent : View F E J
  spent = idle_view None 0 [] 0

  abbrev pub is_live : View F E J → Bool
  is_live v = is_some v.fixed

  -- whether the seat with this number is live
  abbrev pub is_live_at : ℕ → List (View F E J) → Bool
  is_live_at i [] = false
  is_live_at zero (v ∷ vs) = is_live v
  is_live_at (suc i) (v ∷ vs) = is_live_at i vs

  -- how many seats hold the turn
  abbrev pub turns : List (View F E J) → ℕ
  turns vs = count_by (λ v. v.holds) vs

  -- the jobs of all seats together
  abbrev pub jobs_of : List (View F E J) → List J
  jobs_of vs = flat_map (λ v. v.jobs) vs

  -- the jobs of all seats but the one with this number
  abbrev pub jobs_beside : ℕ → List (View F E J) → List J
  jobs_beside i [] = []
  jobs_beside zero (v ∷ vs) = jobs_of vs
  jobs_beside (suc i) (v ∷ vs) = v.jobs ++ jobs_beside i vs

-- whether the number stands in the list
abbrev pub has : List ℕ → ℕ → Bool
has ms n = list_any (λ m. m == n) ms

-- the list with the first such number taken out
abbrev pub without : ℕ → List ℕ → List ℕ
without n [] = []
without n (m ∷ ms) = if m == n then ms else m ∷ without n ms

-- the numbers fall, from below the bound on
abbrev pub IsFalling : ℕ → List ℕ → Type 0
IsFalling bound [] = Unit {0}
IsFalling bound (m ∷ ms) = (m < bound) × IsFalling m ms

module _ {E : Type 0} where
  -- the longer and the shorter of two lists
  abbrev pub longer : List E → List E → List E
  longer xs ys = if nat_lt (length xs) (length ys) then ys else xs

  abbrev pub shorter : List E → List E → List E
  shorter xs ys = if nat_lt (length xs) (length ys) then xs else ys
