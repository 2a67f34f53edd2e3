use Rattle.std.proofs.Common.{◌≡◌, ℕ, zero, suc, Bool, true, false, ◌&&◌, ◌==◌, not, cond, List, [], ◌∷◌, ◌++◌, Option, Some, None, is_some, slice_set, refl, arith, ◌∙◌, inl, inr}
use Rattle.std.specs.List.{list_all}
use Rattle.std.proofs.lemmas.Bool.{and_parts, cases_Bool}
use Rattle.std.proofs.lemmas.Bool.Decides.{nat_tests}
use Rattle.std.proofs.lemmas.Grind.{common_steps}
use Rattle.std.proofs.lemmas.List.Folds.{list_all-append}
use Rattle.cam_types.specs.declared.four.Four.{Four}
use Rattle.cam_types.specs.declared.row.RowView.{RowView}
use Rattle.cam_types.specs.declared.row.TargetView.{TargetView}
use Rattle.device_rows.specs.declared.mark.Mark.{Mark}
use Rattle.device_rows.specs.declared.mark.Mark.TheVariants.{Shutter, PartialResult, RequestError, ResultError, Announced, Target, Sensor, Stopped}
use Rattle.device_rows.specs.declared.table_row.Row.{Row}
use Rattle.device_rows.specs.Marks.{as_announced, if_of_stream, in_state, marked, with_target}
use Rattle.device_rows.specs.TableRows.{are_apart, are_both, has_place, is_apart, is_at_target, is_cleared, is_for, is_in_reach, is_one_each, is_sound, parked_at, parked_for, placed_at}

-- ---- the law

-- the stream of a later target isn't that of an earlier one
apart-for : (first : Option TargetView) (t : TargetView) → is_apart first (Some t) ≡ true → is_for t.stream.0 first ≡ false
apart-for None t h = refl
apart-for (Some f) t h = grind (arith, nat_tests)

own : (t : TargetView) → is_for t.stream.0 (Some t) ≡ true
own t = grind (arith, nat_tests)

cleared-a : {B : Type 0} (targets : Four TargetView) (parked : Four B) (at : Option TargetView) → targets.a ≡ at → is_at_target at parked.a ≡ true → ((s : ℕ) → parked_at s targets parked ≡ None) → not (is_some parked.a) ≡ true
cleared-a targets parked None e here none = here
cleared-a targets parked (Some t) e here none =
    let n = none t.stream.0 in
    let n' = rw (e, own t) at n in
    rw n' refl

cleared-b : {B : Type 0} (targets : Four TargetView) (parked : Four B) (at : Option TargetView) → targets.b ≡ at → is_at_target at parked.b ≡ true → is_apart targets.a at ≡ true → ((s : ℕ) → parked_at s targets parked ≡ None) → not (is_some parked.b) ≡ true
cleared-b targets parked None e here a none = here
cleared-b targets parked (Some t) e here a none =
    let n = none t.stream.0 in
    let n' = rw (apart-for targets.a t a, e, own t) at n in
    rw n' refl

cleared-c : {B : Type 0} (targets : Four TargetView) (parked : Four B) (at : Option TargetView) → targets.c ≡ at → is_at_target at parked.c ≡ true → is_apart targets.a at ≡ true → is_apart targets.b at ≡ true → ((s : ℕ) → parked_at s targets parked ≡ None) → not (is_some parked.c) ≡ true
cleared-c targets parked None e here a b none = here
cleared-c targets parked (Some t) e here a b none =
    let n = none t.stream.0 in
    let n' = rw (apart-for targets.a t a, apart-for targets.b t b, e, own t) at n in
    rw n' refl

cleared-d : {B : Type 0} (targets : Four TargetView) (parked : Four B) (at : Option TargetView) → targets.d ≡ at → is_at_target at parked.d ≡ true → is_apart targets.a at ≡ true → is_apart targets.b at ≡ true → is_apart targets.c at ≡ true → ((s : ℕ) → parked_at s targets parked ≡ None) → not (is_some parked.d) ≡ true
cleared-d targets parked None e here a b c none = here
cleared-d targets parked (Some t) e here a b c none =
    let n = none t.stream.0 in
    let n' = rw (apart-for targets.a t a, apart-for targets.b t b, apart-for targets.c t c, e, own t) at n in
    rw n' refl

-- the six facts of are_apart
pub record Apart (targets : Four TargetView) : Type 0 where
  pub ab : is_apart targets.a targets.b ≡ true
  pub ac : is_apart targets.a targets.c ≡ true
  pub ad : is_apart targets.a targets.d ≡ true
  pub bc : is_apart targets.b targets.c ≡ true
  pub bd : is_apart targets.b targets.d ≡ true
  pub cd : is_apart targets.c targets.d ≡ true

apart-facts : (targets : Four TargetView) → are_apart targets ≡ true → Apart targets
apart-facts targets h =
    let p = and_parts (is_apart targets.a targets.b && (is_apart targets.a targets.c && is_apart targets.a targets.d)) ((is_apart targets.b targets.c && is_apart targets.b targets.d) && is_apart targets.c targets.d) h in
    let a = and_parts (is_apart targets.a targets.b) (is_apart targets.a targets.c && is_apart targets.a targets.d) p.0 in
    let a' = and_parts (is_apart targets.a targets.c) (is_apart targets.a targets.d) a.1 in
    let b = and_parts (is_apart targets.b targets.c && is_apart targets.b targets.d) (is_apart targets.c targets.d) p.1 in
    let b' = and_parts (is_apart targets.b targets.c) (is_apart targets.b targets.d) b.0 in
    record { ab = a.0; ac = a'.0; ad = a'.1; bc = b'.0; bd = b'.1; cd = b.1 }

-- what a sound row keeps, place by place
pub record Within {B : Type 0} (targets : Four TargetView) (parked : Four B) : Type 0 where
  pub a : is_at_target targets.a parked.a ≡ true
  pub b : is_at_target targets.b parked.b ≡ true
  pub c : is_at_target targets.c parked.c ≡ true
  pub d : is_at_target targets.d parked.d ≡ true

within-facts : {B : Type 0} (targets : Four TargetView) (parked : Four B) → (is_at_target targets.a parked.a && (is_at_target targets.b parked.b && (is_at_target targets.c parked.c && is_at_target targets.d parked.d))) ≡ true → Within targets parked
within-facts targets parked h =
    let a = and_parts (is_at_target targets.a parked.a) (is_at_target targets.b parked.b && (is_at_target targets.c parked.c && is_at_target targets.d parked.d)) h in
    let b = and_parts (is_at_target targets.b parked.b) (is_at_target targets.c parked.c && is_at_target targets.d parked.d) a.1 in
    let c = and_parts (is_at_target targets.c parked.c) (is_at_target targets.d parked.d) b.1 in
    record { a = a.0; b = b.0; c = c.0; d = c.1 }

in_reach : {B : Type 0} (targets : Four TargetView) (parked : Four B) → are_apart targets ≡ true → Within targets parked → is_in_reach targets parked ≡ true
in_reach targets parked apart at = rw (apart, at.a, at.b, at.c, at.d) refl

pub cleared : {B : Type 0} (row : Row B) → is_sound row ≡ true → ((s : ℕ) → parked_for s row ≡ None) → is_cleared row ≡ true
cleared row sound none =
    let targets = row.view.targets in
    let p = and_parts (are_apart row.view.targets) (is_at_target row.view.targets.a row.parked.a && (is_at_target row.view.targets.b row.parked.b && (is_at_target row.view.targets.c row.parked.c && is_at_target row.view.targets.d row.parked.d))) sound in
    let apart = apart-facts row.view.targets p.0 in
    let at = within-facts row.view.targets row.parked p.1 in
    let a = cleared-a row.view.targets row.parked row.view.targets.a refl at.a none in
    let b = cleared-b row.view.targets row.parked row.view.targets.b refl at.b apart.ab none in
    let c = cleared-c row.view.targets row.parked row.view.targets.c refl at.c apart.ac apart.bc none in
    let d = cleared-d row.view.targets row.parked row.view.targets.d refl at.d apart.ad apart.bd apart.cd none in
    rw (a, b, c, d) refl

-- ---- a row stays sound

both-at : {B : Type 0} (target : Option TargetView) (thing : Option B) → are_both target thing ≡ true → is_at_target target thing ≡ true
both-at None thing h = h
both-at (Some t) thing h = refl

-- a row that is admitted
pub sound-new : {B : Type 0} (targets : Four TargetView) (parked : Four B) → are_apart targets ≡ true → is_one_each targets parked ≡ true → is_in_reach targets parked ≡ true
sound-new targets parked apart each =
    let a = and_parts (are_both targets.a parked.a) (are_both targets.b parked.b && (are_both targets.c parked.c && are_both targets.d parked.d)) each in
    let b = and_parts (are_both targets.b parked.b) (are_both targets.c parked.c && are_both targets.d parked.d) a.1 in
    let c = and_parts (are_both targets.c parked.c) (are_both targets.d parked.d) b.1 in
    in_reach targets parked apart (record { a = both-at targets.a parked.a a.0; b = both-at targets.b parked.b b.0; c = both-at targets.c parked.c c.0; d = both-at targets.d parked.d c.1 })

filled-at : {B : Type 0} (s : ℕ) (target : Option TargetView) (thing : Option B) → is_for s target ≡ true → is_at_target target thing ≡ true
filled-at s None thing h = absurd (cc)
filled-at s (Some t) thing h = refl

-- a row in which a place is filled or emptied
within-placed : {B : Type 0} (s : ℕ) (targets : Four TargetView) (thing : Option B) (parked : Four B) → Within targets parked → Within targets (placed_at s targets thing parked)
within-placed s targets thing parked at =
    elim (cases_Bool (is_for s targets.a)) [
      | inl a ↦ rw a (record { a = filled-at s targets.a thing a; b = at.b; c = at.c; d = at.d })
      | inr na ↦ rw na (elim (cases_Bool (is_for s targets.b)) [
        | inl b ↦ rw b (record { a = at.a; b = filled-at s targets.b thing b; c = at.c; d = at.d })
        | inr nb ↦ rw nb (elim (cases_Bool (is_for s targets.c)) [
          | inl c ↦ rw c (record { a = at.a; b = at.b; c = filled-at s targets.c thing c; d = at.d })
          | inr nc ↦ rw nc (elim (cases_Bool (is_for s targets.d)) [
            | inl d ↦ rw d (record { a = at.a; b = at.b; c = at.c; d = filled-at s targets.d thing d })
            | inr nd ↦ rw nd at
          ])
        ])
      ])
    ]

pub sound-placed : {B : Type 0} (s : ℕ) (targets : Four TargetView) (thing : Option B) (parked new : Four B) → is_in_reach targets parked ≡ true → new ≡ placed_at s targets thing parked → is_in_reach targets new ≡ true
sound-placed s targets thing parked new sound e =
    let p = and_parts (are_apart targets) (is_at_target targets.a parked.a && (is_at_target targets.b parked.b && (is_at_target targets.c parked.c && is_at_target targets.d parked.d))) sound in
    rw e (in_reach targets (placed_at s targets thing parked) p.0 (within-placed s targets thing parked (within-facts targets parked p.1)))

sound-kept : {B : Type 0} (b : Bool) (s : ℕ) (targets : Four TargetView) (thing : Option B) (parked new : Four B) → is_in_reach targets parked ≡ true → new ≡ cond b (placed_at s targets thing parked) parked → is_in_reach targets new ≡ true
sound-kept true s targets thing parked new sound e = sound-placed s targets thing parked new sound e
sound-kept false s targets thing parked new sound e = rw e sound

pub sound-put : {B : Type 0} (s : ℕ) (row : Row B) (thing : Option B) (new : Four B) → is_sound row ≡ true → new ≡ cond (has_place s row) (placed_at s row.view.targets thing row.parked) row.parked → is_in_reach row.view.targets new ≡ true
sound-put s row thing new sound e = sound-kept (has_place s row) s row.view.targets thing row.parked new sound e

-- a row that is marked: no mark changes which stream a target is of
stream-kept : (b : Bool) (change : TargetView → TargetView) (t : TargetView) → ((u : TargetView) → (change u).stream ≡ u.stream) → (cond b (change t) t).stream ≡ t.stream
stream-kept true change t keeps = keeps t
stream-kept false change t keeps = refl

at-changed : {B : Type 0} (s : ℕ) (change : TargetView → TargetView) (target : Option TargetView) (thing : Option B) → is_at_target (if_of_stream s change target) thing ≡ is_at_target target thing
at-changed s change None thing = refl
at-changed s change (Some t) thing = refl

apart-changed : (s : ℕ) (change : TargetView → TargetView) (x y : Option TargetView) → ((u : TargetView) → (change u).stream ≡ u.stream) → is_apart (if_of_stream s change x) (if_of_stream s change y) ≡ is_apart x y
apart-changed s change None y keeps = refl
apart-changed s change (Some f) None keeps = refl
apart-changed s change (Some f) (Some t) keeps =
    rw (stream-kept (f.stream.0 == s) change f keeps, stream-kept (t.stream.0 == s) change t keeps) refl

sound-changed : {B : Type 0} (s : ℕ) (change : TargetView → TargetView) (targets : Four TargetView) (parked : Four B) → ((u : TargetView) → (change u).stream ≡ u.stream) → is_in_reach targets parked ≡ true → is_in_reach (with_target s change targets) parked ≡ true
sound-changed s change targets parked keeps sound =
    let p = and_parts (are_apart targets) (is_at_target targets.a parked.a && (is_at_target targets.b parked.b && (is_at_target targets.c parked.c && is_at_target targets.d parked.d))) sound in
    let f = apart-facts targets p.0 in
    let at = within-facts targets parked p.1 in
    let ab = apart-changed s change targets.a targets.b keeps ∙ f.ab in
    let ac = apart-changed s change targets.a targets.c keeps ∙ f.ac in
    let ad = apart-changed s change targets.a targets.d keeps ∙ f.ad in
    let bc = apart-changed s change targets.b targets.c keeps ∙ f.bc in
    let bd = apart-changed s change targets.b targets.d keeps ∙ f.bd in
    let cd = apart-changed s change targets.c targets.d keeps ∙ f.cd in
    let apart : are_apart (with_target s change targets) ≡ true = rw (ab, ac, ad, bc, bd, cd) refl in
    in_reach (with_target s change targets) parked apart (record {
      a = at-changed s change targets.a parked.a ∙ at.a;
      b = at-changed s change targets.b parked.b ∙ at.b;
      c = at-changed s change targets.c parked.c ∙ at.c;
      d = at-changed s change targets.d parked.d ∙ at.d;
    })

sound-mark : {B : Type 0} (mark : Mark) (view : RowView) (parked : Four B) → is_in_reach view.targets parked ≡ true → is_in_reach (marked mark view).targets parked ≡ true
sound-mark (Shutter time) view parked h = h
sound-mark (PartialResult parts) view parked h = h
sound-mark RequestError view parked h = h
sound-mark ResultError view parked h = h
sound-mark (Announced stream) view parked h = sound-changed stream.0 as_announced view.targets parked (λ u. refl) h
sound-mark (Target stream state) view parked h = sound-changed stream.0 (in_state state) view.targets parked (λ u. refl) h
sound-mark (Sensor place) view parked h = h
sound-mark Stopped view parked h = h

pub sound-marked : {B : Type 0} (mark : Mark) (view new : RowView) (parked : Four B) → is_in_reach view.targets parked ≡ true → new ≡ marked mark view → is_in_reach new.targets parked ≡ true
sound-marked mark view new parked h e = rw e (sound-mark mark view parked h)

-- ---- the rows stay sound

pub sound-set : {X : Type 0} (p : X → Bool) (xs : List X) (i : ℕ) (x : X) → list_all p xs ≡ true → p x ≡ true → list_all p (slice_set xs i x) ≡ true
sound-set p [] i x h new = grind (arith, common_steps)
sound-set p (y ∷ ys) zero x h new = rw new ((and_parts (p y) (list_all p ys) h).1)
sound-set p (y ∷ ys) (suc i) x h new =
    let parts = and_parts (p y) (list_all p ys) h in
    rw (parts.0, sound-set p ys i x parts.1 new) refl

pub sound-push : {X : Type 0} (p : X → Bool) (xs : List X) (x : X) → list_all p xs ≡ true → p x ≡ true → list_all p (xs ++ x ∷ []) ≡ true
sound-push p xs x h new = rw (list_all-append p xs (x ∷ []), h, new) refl
