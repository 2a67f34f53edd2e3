-- What a step makes of its frame's row fits the log with the step's event.
use Rattle.std.proofs.Common.{◌≡◌, ◌≢◌, ℕ, ◌==◌, ◌<◌, Bool, true, false, ◌&&◌, if◌then◌else◌, List, [], ◌∷◌, map, Option, Some, None, refl, sym, ap, ◌∙◌, inl, inr, ◌⊎◌, arith}
use Rattle.std.specs.List.{find, list_any}
use Rattle.std.specs.Option.{option_map}
use Rattle.std.proofs.lemmas.Bool.{and_parts, cases_Bool, eqb-true, false≢true}
use Rattle.std.proofs.lemmas.Bool.Decides.{nat_tests}
use Rattle.cam_types.specs.Four.{four_list}
use Rattle.cam_types.specs.Rows.{is_returned}
use Rattle.cam_types.specs.declared.four.Four.{Four}
use Rattle.cam_types.specs.declared.number.StreamIx.{StreamIx}
use Rattle.cam_types.specs.declared.row.RowView.{RowView}
use Rattle.cam_types.specs.declared.row.SensorPlace.{SensorPlace}
use Rattle.cam_types.specs.declared.row.SensorPlace.TheVariants.{Home, WithFill}
use Rattle.cam_types.specs.declared.row.TargetState.{TargetState}
use Rattle.cam_types.specs.declared.row.TargetState.TheVariants.{Out}
use Rattle.cam_types.specs.declared.row.TargetView.{TargetView}
use Rattle.device_rows.specs.Rows.{exposed, target_at, with_part, fill_begun, fill_ended, filled_after}
use Rattle.device_core.proofs.Targets.{four-mapped}
use Rattle.hal_device_model.proofs.Fits.{RowFits, all_in_place, in_place, is_target}
use Rattle.hal_device_model.proofs.Found.{found_beside}
use Rattle.hal_model.specs.Words.{has_notice, is_back, is_part, stands, targets_of}
use Rattle.hal_model.specs.declared.event.HalEvent.{HalEvent}
use Rattle.hal_model.specs.declared.event.HalEvent.TheVariants.{Shutter, ErrorRequest, ErrorResult, ErrorBuffer, Results}
use Rattle.hal_model.specs.declared.event.HalFence.{HalFence}
use Rattle.hal_model.specs.declared.event.Pack.TheVariants.{Entries}
use Rattle.hal_model.specs.declared.event.Status.{Status}
use Rattle.device_rows.specs.Marks.{as_announced, if_of_stream, in_state, marked, with_target}
use Rattle.device_rows.specs.declared.mark.Mark.TheVariants.{Announced, RequestError, ResultError, Sensor, Stopped, Target}
use Rattle.hal_model.specs.Hal.{gives_back}
use Rattle.basic_lemmas.proofs.Tests.{own-number}
use Rattle.basic_lemmas.proofs.Lists.{found-changed}

-- ---- steps that leave the targets

pub fits_exposed : (n time shown : ℕ) (past : List HalEvent) (row : RowView) → RowFits n past row → RowFits n (Shutter n shown ∷ past) (exposed time row)
fits_exposed n time shown past row f = record {
  shutter = λ x. absurd (false≢true (sym x));
  failed = f.failed;
  result = f.result;
  parts = f.parts;
  named = f.named;
  back = f.back;
  notice = f.notice;
  apart = f.apart;
  place = f.place;
}

above-other : (k j : ℕ) → k < j → (k == j) ≡ false
above-other k j l = grind (arith, nat_tests, l)

pub fits_part : (n k : ℕ) (past : List HalEvent) (row : RowView) → ((j : ℕ) → k < j → stands n (is_part n j) past ≡ false) → RowFits n past row → RowFits n (Results n k Entries [] false ∷ past) (with_part k row)
fits_part n k past row later f = record {
  shutter = f.shutter;
  failed = f.failed;
  result = f.result;
  parts = λ j l. rw (own-number n, above-other k j l) (later j l);
  named = f.named;
  back = λ s t at out. rw (own-number n) (f.back s t at out);
  notice = f.notice;
  apart = f.apart;
  place = f.place;
}

pub fits_request_error : (n : ℕ) (past : List HalEvent) (row : RowView) → RowFits n past row → RowFits n (ErrorRequest n ∷ past) (marked RequestError row)
fits_request_error n past row f = record {
  shutter = f.shutter;
  failed = λ x. absurd (false≢true (sym x));
  result = f.result;
  parts = f.parts;
  named = f.named;
  back = f.back;
  notice = f.notice;
  apart = f.apart;
  place = f.place;
}

pub fits_result_error : (n : ℕ) (past : List HalEvent) (row : RowView) → RowFits n past row → RowFits n (ErrorResult n ∷ past) (marked ResultError row)
fits_result_error n past row f = record {
  shutter = f.shutter;
  failed = f.failed;
  result = λ x. absurd (false≢true (sym x));
  parts = f.parts;
  named = f.named;
  back = f.back;
  notice = f.notice;
  apart = f.apart;
  place = f.place;
}

pub fits_stopped : (n : ℕ) (past : List HalEvent) (row : RowView) → RowFits n past row → RowFits n past (marked Stopped row)
fits_stopped n past row f = record {
  shutter = f.shutter;
  failed = f.failed;
  result = f.result;
  parts = f.parts;
  named = f.named;
  back = f.back;
  notice = f.notice;
  apart = f.apart;
  place = f.place;
}

-- ---- a change of one target

-- what a target was before
pub record Was (s u : ℕ) (change : TargetView → TargetView) (row : RowView) (t : TargetView) : Type 0 where
  pub old : TargetView
  pub at : target_at u row ≡ Some old
  pub is : ((u == s) ≡ true) × (t ≡ change old) ⊎ ((u == s) ≡ false) × (t ≡ old)

pub was : (s u : ℕ) (change : TargetView → TargetView) (row new : RowView) (t : TargetView) → ((x : TargetView) → (change x).stream.0 ≡ x.stream.0) → four_list new.targets ≡ map (λ (x : TargetView). if x.stream.0 == s then change x else x) (four_list row.targets) → target_at u new ≡ Some t → Was s u change row t
was s u change row new t same are at =
    let moved : find (λ (x : TargetView). x.stream.0 == u) (map (λ (x : TargetView). if x.stream.0 == s then change x else x) (four_list row.targets)) ≡ Some t = ap (λ (ts : List TargetView). find (λ (x : TargetView). x.stream.0 == u) ts) (sym are) ∙ at in
    elim (cases_Bool (u == s)) [
      | inl here ↦ (
          let us : u ≡ s = eqb-true u s here in
          let moved' : find (λ (x : TargetView). x.stream.0 == s) (map (λ (x : TargetView). if x.stream.0 == s then change x else x) (four_list row.targets)) ≡ Some t = rw us at moved in
          let found : option_map change (find (λ (x : TargetView). x.stream.0 == s) (four_list row.targets)) ≡ Some t = sym (found-changed (λ (x : TargetView). x.stream.0) change s (four_list row.targets) same) ∙ moved' in
          by-here us here (target_at s row) refl found
          )
      | inr other ↦ record {
        old = t;
        at = sym (found_beside (λ (x : TargetView). x.stream.0) change u s (four_list row.targets) same other) ∙ moved;
        is = inr (other, refl);
      }
    ]
  where
    by-here : u ≡ s → (u == s) ≡ true → (o : Option TargetView) → target_at s row ≡ o → option_map change o ≡ Some t → Was s u change row t
    by-here us here (Some old) at' g = record { old = old; at = rw us at'; is = inl (here, cc) }
    by-here us here None at' g = absurd (cc)

kept-place : (k s : ℕ) (change : TargetView → TargetView) (o : Option TargetView) → ((x : TargetView) → (change x).stream.0 ≡ x.stream.0) → in_place k o ≡ true → in_place k (if_of_stream s change o) ≡ true
kept-place k s change None same h = refl
kept-place k s change (Some t) same h = by (t.stream.0 == s)
  where
    by : (b : Bool) → ((if b then change t else t).stream.0 == k) ≡ true
    by true = ap (λ (i : ℕ). i == k) (same t) ∙ h
    by false = h

pub places_kept : (s : ℕ) (change : TargetView → TargetView) (targets : Four TargetView) → ((x : TargetView) → (change x).stream.0 ≡ x.stream.0) → all_in_place targets ≡ true → all_in_place (with_target s change targets) ≡ true
places_kept s change targets same h =
    let l = and_parts (in_place 0 targets.a && in_place 1 targets.b) (in_place 2 targets.c && in_place 3 targets.d) h in
    let u = and_parts (in_place 0 targets.a) (in_place 1 targets.b) l.0 in
    let v = and_parts (in_place 2 targets.c) (in_place 3 targets.d) l.1 in
    rw (kept-place 0 s change targets.a same u.0, kept-place 1 s change targets.b same u.1, kept-place 2 s change targets.c same v.0, kept-place 3 s change targets.d same v.1) refl

-- a buffer's error is told
pub fits_notice : (n : ℕ) (s : StreamIx) (past : List HalEvent) (row : RowView) → RowFits n past row → RowFits n (ErrorBuffer n (Some s.0) ∷ past) (marked (Announced s) row)
fits_notice n s past row f = record {
  shutter = f.shutter;
  failed = f.failed;
  result = f.result;
  parts = f.parts;
  named = λ r u t at. (let w = before u t at in by-named u t w.old w.is (f.named r u w.old w.at));
  back = λ u t at out. (let w = before u t at in by-back u t w.old w.is (f.back u w.old w.at) out);
  notice = λ u t at out. (let w = before u t at in by-notice u t w.old w.is (f.notice u w.old w.at) out);
  apart = λ u v t t' at at' same. (
      let w = before u t at in
      let w' = before v t' at' in
      f.apart u v w.old w'.old w.at w'.at (sym (kept u t w.old w.is) ∙ (same ∙ kept v t' w'.old w'.is))
      );
  place = places_kept s.0 as_announced row.targets (λ x. refl) f.place;
}
  where
    before : (u : ℕ) (t : TargetView) → target_at u (marked (Announced s) row) ≡ Some t → Was s.0 u as_announced row t
    before u t at = was s.0 u as_announced row (marked (Announced s) row) t (λ x. refl) (four-mapped s.0 as_announced row.targets) at

    kept : (u : ℕ) (t old : TargetView) → ((u == s.0) ≡ true) × (t ≡ as_announced old) ⊎ ((u == s.0) ≡ false) × (t ≡ old) → t.buffer.0 ≡ old.buffer.0
    kept u t old (inl is) = ap (λ (x : TargetView). x.buffer.0) is.1
    kept u t old (inr is) = ap (λ (x : TargetView). x.buffer.0) is.1

    by-named : (u : ℕ) (t old : TargetView) → ((u == s.0) ≡ true) × (t ≡ as_announced old) ⊎ ((u == s.0) ≡ false) × (t ≡ old) → list_any (is_target u old.buffer.0) (targets_of n past) ≡ true → list_any (is_target u t.buffer.0) (targets_of n past) ≡ true
    by-named u t old is g = rw (kept u t old is) g

    by-back : (u : ℕ) (t old : TargetView) → ((u == s.0) ≡ true) × (t ≡ as_announced old) ⊎ ((u == s.0) ≡ false) × (t ≡ old) → (is_returned old.state ≡ false → is_back n old.buffer.0 past ≡ false) → is_returned t.state ≡ false → is_back n t.buffer.0 past ≡ false
    by-back u t old (inl is) g out = rw is.1 (g (rw is.1 at out))
    by-back u t old (inr is) g out = rw is.1 (g (rw is.1 at out))

    turned : (u : ℕ) → (u == s.0) ≡ false → (s.0 == u) ≡ false
    turned u h = grind (arith, nat_tests, h)

    by-notice : (u : ℕ) (t old : TargetView) → ((u == s.0) ≡ true) × (t ≡ as_announced old) ⊎ ((u == s.0) ≡ false) × (t ≡ old) → (old.announced ≡ false → has_notice n (Some u) past ≡ false) → t.announced ≡ false → has_notice n (Some u) (ErrorBuffer n (Some s.0) ∷ past) ≡ false
    by-notice u t old (inl is) g out = absurd (false≢true (sym (rw is.1 at out)))
    by-notice u t old (inr is) g out = rw (own-number n, turned u is.0) (g (rw is.1 at out))

-- a target's buffer comes back, in whatever state
pub fits_back : (n : ℕ) (s : StreamIx) (status : Status) (fence : HalFence) (st : TargetState) (gone : TargetView) (past : List HalEvent) (row : RowView) → is_returned st ≡ true → target_at s.0 row ≡ Some gone → RowFits n past row → RowFits n (gives_back n s.0 gone.buffer.0 status fence ∷ past) (marked (Target s st) row)
fits_back n s status fence st gone past row returned is-gone f = record {
  shutter = f.shutter;
  failed = f.failed;
  result = f.result;
  parts = f.parts;
  named = λ r u t at. (let w = before u t at in rw (kept u t w.old w.is) (f.named r u w.old w.at));
  back = λ u t at out. (let w = before u t at in by-back u t w.old w.at w.is out);
  notice = λ u t at out. (let w = before u t at in by-notice u t w.old w.is (f.notice u w.old w.at) out);
  apart = λ u v t t' at at' same. (
      let w = before u t at in
      let w' = before v t' at' in
      f.apart u v w.old w'.old w.at w'.at (sym (kept u t w.old w.is) ∙ (same ∙ kept v t' w'.old w'.is))
      );
  place = places_kept s.0 (in_state st) row.targets (λ x. refl) f.place;
}
  where
    before : (u : ℕ) (t : TargetView) → target_at u (marked (Target s st) row) ≡ Some t → Was s.0 u (in_state st) row t
    before u t at = was s.0 u (in_state st) row (marked (Target s st) row) t (λ x. refl) (four-mapped s.0 (in_state st) row.targets) at

    kept : (u : ℕ) (t old : TargetView) → ((u == s.0) ≡ true) × (t ≡ in_state st old) ⊎ ((u == s.0) ≡ false) × (t ≡ old) → t.buffer.0 ≡ old.buffer.0
    kept u t old (inl is) = ap (λ (x : TargetView). x.buffer.0) is.1
    kept u t old (inr is) = ap (λ (x : TargetView). x.buffer.0) is.1

    other : (u : ℕ) (old : TargetView) → (u == s.0) ≡ false → target_at u row ≡ Some old → (gone.buffer.0 == old.buffer.0) ≡ false
    other u old no' at = by (gone.buffer.0 == old.buffer.0) refl
      where
        by : (b : Bool) → (gone.buffer.0 == old.buffer.0) ≡ b → (gone.buffer.0 == old.buffer.0) ≡ false
        by true same =
            let us : s.0 ≡ u = f.apart s.0 u gone old is-gone at (eqb-true gone.buffer.0 old.buffer.0 same) in
            absurd (false≢true (sym no' ∙ (ap (λ (i : ℕ). i == s.0) (sym us) ∙ own-number s.0)))
        by false same = same

    by-back : (u : ℕ) (t old : TargetView) → target_at u row ≡ Some old → ((u == s.0) ≡ true) × (t ≡ in_state st old) ⊎ ((u == s.0) ≡ false) × (t ≡ old) → is_returned t.state ≡ false → is_back n t.buffer.0 (gives_back n s.0 gone.buffer.0 status fence ∷ past) ≡ false
    by-back u t old at (inl is) out = absurd (false≢true (sym (rw is.1 at out) ∙ returned))
    by-back u t old at (inr is) out =
        let was' : is_back n old.buffer.0 (gives_back n s.0 gone.buffer.0 status fence ∷ past) ≡ false = rw (own-number n, other u old is.0 at) (f.back u old at (rw is.1 at out)) in
        ap (λ (i : ℕ). is_back n i (gives_back n s.0 gone.buffer.0 status fence ∷ past)) (kept u t old (inr is)) ∙ was'

    by-notice : (u : ℕ) (t old : TargetView) → ((u == s.0) ≡ true) × (t ≡ in_state st old) ⊎ ((u == s.0) ≡ false) × (t ≡ old) → (old.announced ≡ false → has_notice n (Some u) past ≡ false) → t.announced ≡ false → has_notice n (Some u) past ≡ false
    by-notice u t old (inl is) g out = g (rw is.1 at out)
    by-notice u t old (inr is) g out = g (rw is.1 at out)

-- a target that isn't back changes its state, and no event tells of it
pub fits_moved : (n : ℕ) (s : StreamIx) (st : TargetState) (past : List HalEvent) (row : RowView) → ((old : TargetView) → target_at s.0 row ≡ Some old → is_returned old.state ≡ false) → RowFits n past row → RowFits n past (marked (Target s st) row)
fits_moved n s st past row here f = record {
  shutter = f.shutter;
  failed = f.failed;
  result = f.result;
  parts = f.parts;
  named = λ r u t at. (let w = before u t at in rw (kept u t w.old w.is) (f.named r u w.old w.at));
  back = λ u t at out. (let w = before u t at in by-back u t w.old w.at w.is out);
  notice = λ u t at out. (let w = before u t at in by-notice u t w.old w.is (f.notice u w.old w.at) out);
  apart = λ u v t t' at at' same. (
      let w = before u t at in
      let w' = before v t' at' in
      f.apart u v w.old w'.old w.at w'.at (sym (kept u t w.old w.is) ∙ (same ∙ kept v t' w'.old w'.is))
      );
  place = places_kept s.0 (in_state st) row.targets (λ x. refl) f.place;
}
  where
    before : (u : ℕ) (t : TargetView) → target_at u (marked (Target s st) row) ≡ Some t → Was s.0 u (in_state st) row t
    before u t at = was s.0 u (in_state st) row (marked (Target s st) row) t (λ x. refl) (four-mapped s.0 (in_state st) row.targets) at

    kept : (u : ℕ) (t old : TargetView) → ((u == s.0) ≡ true) × (t ≡ in_state st old) ⊎ ((u == s.0) ≡ false) × (t ≡ old) → t.buffer.0 ≡ old.buffer.0
    kept u t old (inl is) = ap (λ (x : TargetView). x.buffer.0) is.1
    kept u t old (inr is) = ap (λ (x : TargetView). x.buffer.0) is.1

    by-back : (u : ℕ) (t old : TargetView) → target_at u row ≡ Some old → ((u == s.0) ≡ true) × (t ≡ in_state st old) ⊎ ((u == s.0) ≡ false) × (t ≡ old) → is_returned t.state ≡ false → is_back n t.buffer.0 past ≡ false
    by-back u t old at (inl is) out =
        let us : u ≡ s.0 = eqb-true u s.0 is.0 in
        rw is.1 (f.back u old at (here old (ap (λ (i : ℕ). target_at i row) (sym us) ∙ at)))
    by-back u t old at (inr is) out = rw is.1 (f.back u old at (rw is.1 at out))

    by-notice : (u : ℕ) (t old : TargetView) → ((u == s.0) ≡ true) × (t ≡ in_state st old) ⊎ ((u == s.0) ≡ false) × (t ≡ old) → (old.announced ≡ false → has_notice n (Some u) past ≡ false) → t.announced ≡ false → has_notice n (Some u) past ≡ false
    by-notice u t old (inl is) g out = g (rw is.1 at out)
    by-notice u t old (inr is) g out = g (rw is.1 at out)

pub fits_sensor : (n : ℕ) (place : SensorPlace) (past : List HalEvent) (row : RowView) → RowFits n past row → RowFits n past (marked (Sensor place) row)
fits_sensor n place past row f = record {
  shutter = f.shutter;
  failed = f.failed;
  result = f.result;
  parts = f.parts;
  named = f.named;
  back = f.back;
  notice = f.notice;
  apart = f.apart;
  place = f.place;
}

-- a fill, from its begin to its end
pub fits_filled : (n : ℕ) (s : StreamIx) (past : List HalEvent) (row : RowView) → ((old : TargetView) → target_at s.0 row ≡ Some old → is_returned old.state ≡ false) → RowFits n past row → RowFits n past (fill_ended s (fill_begun s row))
fits_filled n s past row here f =
    let out = fits_moved n s Out past row here f in
    let begun = fits_sensor n WithFill past (marked (Target s Out) row) out in
    fits_sensor n Home past (marked (Target s (filled_after (target_at s.0 (fill_begun s row)))) (fill_begun s row))
    (fits_moved n s (filled_after (target_at s.0 (fill_begun s row))) past (fill_begun s row) out-there begun)
  where
    out-there : (old : TargetView) → target_at s.0 (fill_begun s row) ≡ Some old → is_returned old.state ≡ false
    out-there old at = by old (was s.0 s.0 (in_state Out) row (fill_begun s row) old (λ x. refl) (four-mapped s.0 (in_state Out) row.targets) at)
      where
        by : (t : TargetView) → Was s.0 s.0 (in_state Out) row t → is_returned t.state ≡ false
        by t w = by-is t w.old w.is
          where
            by-is : (t' old' : TargetView) → ((s.0 == s.0) ≡ true) × (t' ≡ in_state Out old') ⊎ ((s.0 == s.0) ≡ false) × (t' ≡ old') → is_returned t'.state ≡ false
            by-is t' old' (inl is) = rw is.1 refl
            by-is t' old' (inr is) = absurd (false≢true (sym is.0 ∙ own-number s.0))
