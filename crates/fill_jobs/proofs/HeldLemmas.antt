-- Jobs with one more among them, and the frames that they are of.
use Rattle.std.proofs.Common.{◌≡◌, ℕ, ◌+◌, ◌==◌, Bool, true, false, not, cond, List, [], ◌∷◌, ◌++◌, Option, Some, None, length, refl, ap, inl, inr, arith}
use Rattle.std.specs.Prelude.{◌||◌, ◌≢◌, is_some, slice_get}
use Rattle.std.proofs.lemmas.Bool.{and_parts, cases_Bool, ne_eqb}
use Rattle.std.proofs.lemmas.Bool.Decides.{nat_tests}
use Rattle.cam_types.specs.declared.job.JobView.{JobView}
use Rattle.fill_jobs.specs.Held.{IsWith, frames_differ, held_at, is_held}
use Rattle.basic_lemmas.proofs.Tests.{not-true}

held-middle : (n : ℕ) (job : JobView) (xs ys : List JobView) → (job.frame.0 == n) ≡ false → is_held n (xs ++ job ∷ ys) ≡ is_held n (xs ++ ys)
held-middle n job [] ys e = rw e refl
held-middle n job (x ∷ xs) ys e = ap (λ (b : Bool). (x.frame.0 == n) || b) (held-middle n job xs ys e)

at-middle : (n : ℕ) (job : JobView) (xs ys : List JobView) → (job.frame.0 == n) ≡ false → held_at n (xs ++ job ∷ ys) ≡ held_at n (xs ++ ys)
at-middle n job [] ys e = rw e refl
at-middle n job (x ∷ xs) ys e = ap (λ (o : Option JobView). cond (x.frame.0 == n) (Some x) o) (at-middle n job xs ys e)

at-none : (n : ℕ) (xs : List JobView) → is_held n xs ≡ false → held_at n xs ≡ None
at-none n [] h = refl
at-none n (x ∷ xs) h = grind (arith, at-none n xs)

at-there : (job : JobView) (xs ys : List JobView) → is_held job.frame.0 (xs ++ ys) ≡ false → held_at job.frame.0 (xs ++ job ∷ ys) ≡ Some job
at-there job [] ys h = grind (arith, nat_tests)
at-there job (x ∷ xs) ys h = grind (arith, at-there job xs ys)

-- a frame of which there is no job
parted : (n : ℕ) (job : JobView) (xs ys : List JobView) → is_held n (xs ++ job ∷ ys) ≡ false → ((job.frame.0 == n) ≡ false) × (is_held n (xs ++ ys) ≡ false)
parted n job [] ys h = (grind arith, grind arith)
parted n job (x ∷ xs) ys h =
    let later : is_held n (xs ++ job ∷ ys) ≡ false = grind arith in
    let here : (x.frame.0 == n) ≡ false = grind arith in
    let rest = parted n job xs ys later in (rest.0, rw (here, rest.1) refl)

turned : (a b : ℕ) → (a == b) ≡ false → (b == a) ≡ false
turned a b h = grind (arith, nat_tests)

differ-more : (job : JobView) (xs ys : List JobView) → is_held job.frame.0 (xs ++ ys) ≡ false → frames_differ (xs ++ ys) ≡ true → frames_differ (xs ++ job ∷ ys) ≡ true
differ-more job [] ys h d = rw (h, d) refl
differ-more job (x ∷ xs) ys h d =
    let parts = and_parts (not (is_held x.frame.0 (xs ++ ys))) (frames_differ (xs ++ ys)) d in
    let other : (x.frame.0 == job.frame.0) ≡ false = grind arith in
    let later : is_held job.frame.0 (xs ++ ys) ≡ false = grind arith in
    rw (held-middle x.frame.0 job xs ys (turned _ _ other), parts.0) (differ-more job xs ys later parts.1)

differ-less : (job : JobView) (xs ys : List JobView) → frames_differ (xs ++ job ∷ ys) ≡ true → frames_differ (xs ++ ys) ≡ true
differ-less job [] ys d = (and_parts (not (is_held job.frame.0 ys)) (frames_differ ys) d).1
differ-less job (x ∷ xs) ys d =
    let parts = and_parts (not (is_held x.frame.0 (xs ++ job ∷ ys))) (frames_differ (xs ++ job ∷ ys)) d in
    let none = parted x.frame.0 job xs ys (not-true _ parts.0) in
    rw none.1 (differ-less job xs ys parts.1)

gone : (job : JobView) (xs ys : List JobView) → frames_differ (xs ++ job ∷ ys) ≡ true → is_held job.frame.0 (xs ++ ys) ≡ false
gone job [] ys d = not-true _ (and_parts (not (is_held job.frame.0 ys)) (frames_differ ys) d).0
gone job (x ∷ xs) ys d =
    let parts = and_parts (not (is_held x.frame.0 (xs ++ job ∷ ys))) (frames_differ (xs ++ job ∷ ys)) d in
    let none = parted x.frame.0 job xs ys (not-true _ parts.0) in
    rw (turned _ _ none.0) (gone job xs ys parts.1)

length-middle : (job : JobView) (xs ys : List JobView) → length (xs ++ job ∷ ys) ≡ length (xs ++ ys) + 1
length-middle job [] ys = omega arith
length-middle job (x ∷ xs) ys = let ih = length-middle job xs ys in omega arith

-- the laws
pub differ_with : (job : JobView) (old new : List JobView) → IsWith job old new → is_held job.frame.0 old ≡ false → frames_differ old ≡ true → frames_differ new ≡ true
differ_with job old new w h d = rw w.new_is (differ-more job w.before w.after (rw w.old_is at h) (rw w.old_is at d))

pub differ_without : (job : JobView) (old new : List JobView) → IsWith job new old → frames_differ old ≡ true → frames_differ new ≡ true
differ_without job old new w d = rw w.old_is (differ-less job w.before w.after (rw w.new_is at d))

pub held_with : (job : JobView) (old new : List JobView) → IsWith job old new → is_held job.frame.0 old ≡ false → held_at job.frame.0 new ≡ Some job
held_with job old new w h = rw w.new_is (at-there job w.before w.after (rw w.old_is at h))

pub held_without : (job : JobView) (old new : List JobView) → IsWith job new old → frames_differ old ≡ true → is_held job.frame.0 new ≡ false
held_without job old new w d = rw w.old_is (gone job w.before w.after (rw w.new_is at d))

pub none_without : (job : JobView) (old new : List JobView) → IsWith job new old → frames_differ old ≡ true → held_at job.frame.0 new ≡ None
none_without job old new w d = at-none job.frame.0 new (held_without job old new w d)

pub others_at : (job : JobView) (old new : List JobView) (n : ℕ) → IsWith job old new → job.frame.0 ≢ n → held_at n new ≡ held_at n old
others_at job old new n w ne = rw (w.new_is, w.old_is) (at-middle n job w.before w.after (ne_eqb _ _ ne))

pub others_held : (job : JobView) (old new : List JobView) (n : ℕ) → IsWith job old new → job.frame.0 ≢ n → is_held n new ≡ is_held n old
others_held job old new n w ne = rw (w.new_is, w.old_is) (held-middle n job w.before w.after (ne_eqb _ _ ne))

pub one_more : (job : JobView) (old new : List JobView) → IsWith job old new → length new ≡ length old + 1
one_more job old new w = rw (w.new_is, w.old_is) (length-middle job w.before w.after)

pub first_found : (job : JobView) (jobs : List JobView) → slice_get jobs 0 ≡ Some job → held_at job.frame.0 jobs ≡ Some job
first_found job [] h = absurd (cc)
first_found job (x ∷ xs) h =
    let same : x ≡ job = cc in
    let own : (x.frame.0 == job.frame.0) ≡ true = rw same (grind (arith, nat_tests)) in
    rw own (ap (λ (v : JobView). Some v) same)

pub held_found : (jobs : List JobView) (n : ℕ) → is_held n jobs ≡ is_some (held_at n jobs)
held_found [] n = refl
held_found (x ∷ xs) n = elim (cases_Bool (x.frame.0 == n)) [ inl yes' ↦ rw yes' refl | inr no' ↦ rw no' (held_found xs n) ]
