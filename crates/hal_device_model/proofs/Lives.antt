-- A request whose row stands is live, where the framework keeps frame numbers.
use Rattle.std.proofs.Common.{◌≡◌, ℕ, ◌==◌, Bool, true, false, ◌&&◌, ◌||◌, not, if◌then◌else◌, List, [], ◌∷◌, Option, Some, None, is_some, refl, sym, ap, ◌∙◌, inl, inr}
use Rattle.std.specs.List.{list_all, list_any}
use Rattle.std.proofs.lemmas.Bool.{and_parts, cases_Bool, eqb-true, false≢true}
use Rattle.cam_types.specs.Rows.{awaits_metadata}
use Rattle.cam_types.specs.declared.row.RowView.{RowView}
use Rattle.device_rows.specs.Rows.{without}
use Rattle.hal_device_model.proofs.Apart.{no_begin, no_refusal, no_request_error, no_result_error, speaks}
use Rattle.hal_device_model.proofs.Fits.{is_target}
use Rattle.hal_device_model.proofs.Found.{Each, found_left}
use Rattle.hal_device_model.specs.Calls.{settled}
use Rattle.device_rows.specs.Ready.{is_retire_ready}
use Rattle.device_core.specs.Stored.{frame_number}
use Rattle.hal_model.specs.Words.{accepts, begins, is_accepted, is_all_back, is_back, is_begun, is_complete, is_done, is_ended, is_error_request, is_error_result, is_failed, is_last_part, is_live, is_metadata_ended, is_passed, is_point, is_refused, is_unannounced, is_whole, refuses, targets_of}
use Rattle.hal_model.specs.declared.event.HalEvent.{HalEvent}
use Rattle.hal_model.specs.declared.event.HalEvent.TheVariants.{RequestBegin, RequestOk, Results}
use Rattle.hal_model.specs.declared.event.HalTarget.{HalTarget}
use Rattle.hal_model.specs.declared.event.Pack.TheVariants.{Entries, Empty, Absent}
use Rattle.basic_lemmas.proofs.Tests.{own-number, or-right}

pub record RowLives (n : ℕ) (past : List HalEvent) (row : RowView) : Type 0 where
  pub begun : is_begun n past ≡ true
  pub accepted : list_any (accepts n) past ≡ true
  pub unrefused : is_refused n past ≡ false
  pub going : is_passed 3 n past ≡ false
  pub awaits : awaits_metadata row ≡ true → is_metadata_ended 3 n past ≡ false
  pub dark : is_some row.shutter ≡ false → row.request_error ≡ false → awaits_metadata row ≡ true

-- ---- what is live

not-done : (complete x passed : Bool) → complete ≡ false → passed ≡ false → ((complete && x) || passed) ≡ false
not-done complete x passed h g = rw (h, g) refl

live-by : (n : ℕ) (past : List HalEvent) (row : RowView) → RowLives n past row → is_ended 3 n past ≡ false → is_live 3 n past ≡ true
live-by n past row l open' =
    let complete : is_complete 3 n past ≡ false = off (is_accepted n past) (is_ended 3 n past) open' in
    let done : is_done 3 n past ≡ false = not-done (is_complete 3 n past) (not (is_unannounced n past) && (is_failed n past || is_whole 3 n past)) (is_passed 3 n past) complete l.going in
    both (is_begun n past) (is_refused n past) (is_done 3 n past) l.begun l.unrefused done
  where
    off : (a b : Bool) → b ≡ false → (a && b) ≡ false
    off true b h = h
    off false b h = refl

    both : (a b c : Bool) → a ≡ true → b ≡ false → c ≡ false → (a && (not b && not c)) ≡ true
    both a b c h g k = rw (h, g, k) refl

pub awaiting_live : (n : ℕ) (past : List HalEvent) (row : RowView) → RowLives n past row → awaits_metadata row ≡ true → is_live 3 n past ≡ true
awaiting_live n past row l h = live-by n past row l (by (is_metadata_ended 3 n past) (is_all_back n past) (l.awaits h))
  where
    by : (a b : Bool) → a ≡ false → (a && b) ≡ false
    by a b h' = rw h' refl

out-of-all : (s b n : ℕ) (past : List HalEvent) (targets : List HalTarget) → list_any (is_target s b) targets ≡ true → is_back n b past ≡ false → list_all (λ t. is_back n t.buffer past) targets ≡ false
out-of-all s b n past [] h out = absurd (false≢true h)
out-of-all s b n past (t ∷ targets) h out =
    elim (cases_Bool (is_target s b t)) [
      | inl here ↦ (
          let buffer : t.buffer ≡ b = eqb-true t.buffer b (and_parts (t.stream == s) (t.buffer == b) here).1 in
          let away : is_back n t.buffer past ≡ false = ap (λ (i : ℕ). is_back n i past) buffer ∙ out in
          rw away refl
          )
      | inr other ↦ last (is_back n t.buffer past) (list_all (λ u. is_back n u.buffer past) targets) (out-of-all s b n past targets (rw other at h) out)
    ]
  where
    last : (x y : Bool) → y ≡ false → (x && y) ≡ false
    last true y g = g
    last false y g = refl

pub holding_live : (n s b : ℕ) (past : List HalEvent) (row : RowView) → RowLives n past row → list_any (is_target s b) (targets_of n past) ≡ true → is_back n b past ≡ false → is_live 3 n past ≡ true
holding_live n s b past row l named out = live-by n past row l (by (is_metadata_ended 3 n past) (is_all_back n past) (out-of-all s b n past (targets_of n past) named out))
  where
    by : (a b' : Bool) → b' ≡ false → (a && b') ≡ false
    by true b' h = h
    by false b' h = refl

-- ---- an event that isn't of the request

no_last : (n : ℕ) (e : HalEvent) → speaks n e ≡ false → is_last_part 3 n e ≡ false
no_last n (Results m j Entries buffers input) h = rw h refl
no_last n (Results m j Empty buffers input) h = refl
no_last n (Results m j Absent buffers input) h = refl
no_last n _ h = refl

pub lives_beside : (n : ℕ) (e : HalEvent) (past : List HalEvent) (row : RowView) → speaks n e ≡ false → is_point e ≡ false → RowLives n past row → RowLives n (e ∷ past) row
lives_beside n e past row h point l =
    let b = no_begin n e h in
    record {
      begun = or-right (begins n e) (is_begun n past) l.begun;
      accepted = or-right (accepts n e) (list_any (accepts n) past) l.accepted;
      unrefused = rw (b, no_refusal n e h) l.unrefused;
      going = rw (b, point) l.going;
      awaits = λ x. rw (b, no_last n e h, no_result_error n e h, no_request_error n e h) (l.awaits x);
      dark = l.dark;
    }

-- ---- an event of the request, by which its metadata goes on

-- the event is a callback of the request that ends none of its metadata
pub record Goes (n : ℕ) (e : HalEvent) : Type 0 where
  pub begins : begins n e ≡ false
  pub refuses : refuses n e ≡ false
  pub point : is_point e ≡ false
  pub last : is_last_part 3 n e ≡ false
  pub result : is_error_result n e ≡ false
  pub request : is_error_request n e ≡ false

pub lives_on : (n : ℕ) (e : HalEvent) (past : List HalEvent) (row new : RowView) → Goes n e → (awaits_metadata new ≡ true → awaits_metadata row ≡ true) → (is_some new.shutter ≡ false → new.request_error ≡ false → awaits_metadata new ≡ true) → RowLives n past row → RowLives n (e ∷ past) new
lives_on n e past row new g awaits dark l = record {
  begun = or-right (begins n e) (is_begun n past) l.begun;
  accepted = or-right (accepts n e) (list_any (accepts n) past) l.accepted;
  unrefused = rw (g.begins, g.refuses) l.unrefused;
  going = rw (g.begins, g.point) l.going;
  awaits = λ x. rw (g.begins, g.last, g.result, g.request) (l.awaits (awaits x));
  dark = dark;
}

-- or one that ends it: the row awaits none any or-right
pub lives_ended : (n : ℕ) (e : HalEvent) (past : List HalEvent) (row new : RowView) → begins n e ≡ false → refuses n e ≡ false → is_point e ≡ false → awaits_metadata new ≡ false → (is_some new.shutter ≡ false → new.request_error ≡ false → awaits_metadata new ≡ true) → RowLives n past row → RowLives n (e ∷ past) new
lives_ended n e past row new b r p ended dark l = record {
  begun = or-right (begins n e) (is_begun n past) l.begun;
  accepted = or-right (accepts n e) (list_any (accepts n) past) l.accepted;
  unrefused = rw (b, r) l.unrefused;
  going = rw (b, p) l.going;
  awaits = λ x. absurd (false≢true (sym ended ∙ x));
  dark = dark;
}

-- a row that is marked without an event
pub lives_moved : (n : ℕ) (past : List HalEvent) (row new : RowView) → awaits_metadata new ≡ awaits_metadata row → new.request_error ≡ row.request_error → (is_some new.shutter ≡ false → is_some row.shutter ≡ false) → RowLives n past row → RowLives n past new
lives_moved n past row new awaits error shutter l = record {
  begun = l.begun;
  accepted = l.accepted;
  unrefused = l.unrefused;
  going = l.going;
  awaits = λ x. l.awaits (sym awaits ∙ x);
  dark = λ d x. awaits ∙ l.dark (shutter d) (sym error ∙ x);
}

-- ---- a request that is accepted

pub lives_fresh : (n : ℕ) (same : Bool) (targets : List HalTarget) (past : List HalEvent) (row : RowView) → awaits_metadata row ≡ true → RowLives n (RequestOk n ∷ RequestBegin n same targets false false ∷ past) row
lives_fresh n same targets past row awaits = record {
  begun = rw (own-number n) refl;
  accepted = rw (own-number n) refl;
  unrefused = rw (own-number n) refl;
  going = rw (own-number n) refl;
  awaits = λ x. rw (own-number n) refl;
  dark = λ d x. awaits;
}

-- ---- all rows

pub each_settled : (P : ℕ → RowView → Type 0) (n : ℕ) (rows : List RowView) → Each P rows → Each P (settled n rows)
each_settled P n rows h = by (is_retire_ready rows n)
  where
    by : (b : Bool) → Each P (if b then without n rows else rows)
    by true = λ m row at. h m row (found_left frame_number m n rows row at)
    by false = h
