-- What the log says of a request whose row stands: nothing that the row hasn't noted.
use Rattle.std.proofs.Common.{◌≡◌, ℕ, ◌==◌, ◌<◌, Bool, true, false, ◌&&◌, List, ◌∷◌, Option, Some, None, is_some, refl, sym}
use Rattle.std.specs.List.{list_any}
use Rattle.std.proofs.lemmas.Bool.{false≢true}
use Rattle.cam_types.specs.Rows.{is_returned}
use Rattle.cam_types.specs.declared.four.Four.{Four}
use Rattle.cam_types.specs.declared.row.RowView.{RowView}
use Rattle.cam_types.specs.declared.row.TargetView.{TargetView}
use Rattle.device_rows.specs.Rows.{row_at, target_at}
use Rattle.hal_model.specs.Words.{has_notice, has_shutter, is_back, is_error_result, is_failed, is_part, is_refused, stands, targets_of}
use Rattle.hal_model.specs.declared.event.HalError.{HalError}
use Rattle.hal_model.specs.declared.event.HalEvent.{HalEvent}
use Rattle.hal_model.specs.declared.event.HalEvent.TheVariants.{RequestBegin, RequestError}
use Rattle.hal_model.specs.declared.event.HalTarget.{HalTarget}
use Rattle.hal_device_model.proofs.Apart.{no_begin, no_buffer, no_notice, no_part, no_refusal, no_request_error, no_result_error, no_shutter, speaks}
use Rattle.basic_lemmas.proofs.Tests.{own-number}

abbrev pub is_target : ℕ → ℕ → HalTarget → Bool
is_target s b h = (h.stream == s) && (h.buffer == b)

-- the target of stream s stands at its place
abbrev pub in_place : ℕ → Option TargetView → Bool
in_place s (Some t) = t.stream.0 == s
in_place s None = true

abbrev pub all_in_place : Four TargetView → Bool
all_in_place targets = (in_place 0 targets.a && in_place 1 targets.b) && (in_place 2 targets.c && in_place 3 targets.d)

pub record RowFits (n : ℕ) (past : List HalEvent) (row : RowView) : Type 0 where
  pub shutter : is_some row.shutter ≡ false → has_shutter n past ≡ false
  pub failed : row.request_error ≡ false → is_failed n past ≡ false
  pub result : row.result_error ≡ false → stands n (is_error_result n) past ≡ false
  pub parts : (j : ℕ) → row.parts < j → stands n (is_part n j) past ≡ false
  pub named : is_refused n past ≡ false → (s : ℕ) (t : TargetView) → target_at s row ≡ Some t → list_any (is_target s t.buffer.0) (targets_of n past) ≡ true
  pub back : (s : ℕ) (t : TargetView) → target_at s row ≡ Some t → is_returned t.state ≡ false → is_back n t.buffer.0 past ≡ false
  pub notice : (s : ℕ) (t : TargetView) → target_at s row ≡ Some t → t.announced ≡ false → has_notice n (Some s) past ≡ false
  pub apart : (s u : ℕ) (t v : TargetView) → target_at s row ≡ Some t → target_at u row ≡ Some v → t.buffer.0 ≡ v.buffer.0 → s ≡ u
  pub place : all_in_place row.targets ≡ true

abbrev pub Fits : List HalEvent → List RowView → Type 0
Fits past rows = (n : ℕ) (row : RowView) → row_at n rows ≡ Some row → RowFits n past row

-- ---- an event that isn't of the request

pub fits_beside : (n : ℕ) (e : HalEvent) (past : List HalEvent) (row : RowView) → speaks n e ≡ false → RowFits n past row → RowFits n (e ∷ past) row
fits_beside n e past row h f =
    let b = no_begin n e h in
    record {
      shutter = λ x. rw (b, no_shutter n e h) (f.shutter x);
      failed = λ x. rw (b, no_request_error n e h) (f.failed x);
      result = λ x. rw (b, no_result_error n e h) (f.result x);
      parts = λ j l. rw (b, no_part n j e h) (f.parts j l);
      named = λ r s t at. rw b (f.named (rw (b, no_refusal n e h) at r) s t at);
      back = λ s t at out. rw (b, no_buffer n t.buffer.0 e h) (f.back s t at out);
      notice = λ s t at out. rw (b, no_notice n (Some s) e h) (f.notice s t at out);
      apart = f.apart;
      place = f.place;
    }

-- ---- the number is begun again, and refused

pub fits_again : (n : ℕ) (error : HalError) (same : Bool) (targets : List HalTarget) (a b : Bool) (past : List HalEvent) (row : RowView) → RowFits n past row → RowFits n (RequestError n error ∷ RequestBegin n same targets a b ∷ past) row
fits_again n error same targets a b past row f = record {
  shutter = λ x. rw (own-number n) refl;
  failed = λ x. rw (own-number n) refl;
  result = λ x. rw (own-number n) refl;
  parts = λ j l. rw (own-number n) refl;
  named = λ r s t at. absurd (false≢true (sym (rw (own-number n) at r)));
  back = λ s t at out. rw (own-number n) refl;
  notice = λ s t at out. rw (own-number n) refl;
  apart = f.apart;
  place = f.place;
}
