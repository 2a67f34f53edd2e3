-- While no frame is open and each buffer is in the pool, the next item can be sent.
use Rattle.std.proofs.Common.{◌≡◌, ℕ, Bool, true, false, ◌||◌, not, List, [], ◌∷◌, Option, Some, None, refl, sym, ◌∙◌, is_some, slice_get}
use Rattle.std.specs.List.{list_any, list_all}
use Rattle.std.proofs.lemmas.Bool.{and_parts, false≢true}
use Rattle.cam_types.specs.declared.reply.Made.{Made}
use Rattle.cam_types.specs.declared.script.Script.{Script}
use Rattle.trace_model.specs.declared.entry.Entry.{Entry}
use Rattle.trace_model.specs.declared.entry.Sent.{Sent}
use Rattle.trace_model.specs.Configuration.{buffers_of, made, numbers_of, streams}
use Rattle.trace_model.specs.Legal.{IsLegal}
use Rattle.trace_model.specs.Open.{is_quiet}
use Rattle.trace_model.specs.Place.{Pool, all_in_pool, is_at, place}
use Rattle.trace_model.specs.Queue.{next}
use Rattle.cam_types.specs.declared.request.Queued.{Queued}
use Rattle.trace_model.specs.Send.{has_capacity, has_room, least_in_pool, least_target, least_targets, may_go, may_repeat, send_due, send_with, target_with, targets_in_order, with_target}
use Rattle.trace_model.specs.Stopping.{is_stopping}
use Rattle.state_facts.proofs.Quiet.{none-open, none-out}
use Rattle.state_facts.proofs.Served.{IsAble, able-room, is_served, offered, serves, some_of}
use Rattle.basic_lemmas.proofs.Lists.{all-where, all-at, any-found}

module _ (script : Script) (past : List Entry) (able : IsAble script.profile) (legal : IsLegal script past) (quiet : is_quiet past ≡ true) (home : all_in_pool past ≡ true) where
  room : (s : ℕ) → serves script past s ≡ true → has_room script past s ≡ true
  room s h = rw (none-out script past s legal quiet) (able-room script.profile (slice_get (streams script past) s) able (and_parts (offered (slice_get (streams script past) s)) (some_of (buffers_of past s)) h).0)

  some_there : (p : ℕ → Bool) (xs : List ℕ) → list_all p xs ≡ true → some_of xs ≡ true → list_any p xs ≡ true
  some_there p [] all some = absurd (false≢true some)
  some_there p (x ∷ xs) all some = rw ((and_parts (p x) (list_all p xs) all).0) refl

  by_made : (s : ℕ) (o : Option Made) → slice_get (made past) s ≡ o → some_of (numbers_of o) ≡ true → list_any (λ b. is_at (place b past) Pool) (numbers_of o) ≡ true
  by_made s None at some = absurd (false≢true some)
  by_made s (Some m) at some = some_there (λ b. is_at (place b past) Pool) (numbers_of (Some m)) (all-at (λ m. list_all (λ b. is_at (place b past) Pool) (numbers_of (Some m))) (made past) s m home at) some

  pool_some : (s : ℕ) → serves script past s ≡ true → is_some (least_in_pool past s) ≡ true
  pool_some s h = sym (any-found (λ b. is_at (place b past) Pool) (buffers_of past s)) ∙ by_made s (slice_get (made past) s) refl (and_parts (offered (slice_get (streams script past) s)) (some_of (buffers_of past s)) h).1

  target_some : (s : ℕ) (o : Option ℕ) → is_some o ≡ true → is_some (target_with past s o) ≡ true
  target_some s None h = absurd (false≢true h)
  target_some s (Some b) h = refl

  both_some : (o : Option Sent) (q : Option (List Sent)) → is_some o ≡ true → is_some q ≡ true → is_some (with_target o q) ≡ true
  both_some None q h k = absurd (false≢true h)
  both_some (Some t) None h k = absurd (false≢true k)
  both_some (Some t) (Some ts) h k = refl

  targets_some : (xs : List ℕ) → list_all (serves script past) xs ≡ true → is_some (least_targets past xs) ≡ true
  targets_some [] all = refl
  targets_some (s ∷ xs) all =
      let parts = and_parts (serves script past s) (list_all (serves script past) xs) all in
      both_some (least_target past s) (least_targets past xs) (target_some s (least_in_pool past s) (pool_some s parts.0)) (targets_some xs parts.1)

  with_some : (w : Queued) (o : Option (List Sent)) → is_some o ≡ true → is_some (send_with script past w o) ≡ true
  with_some w None h = absurd (false≢true h)
  with_some w (Some ts) h = refl

  pub send-goes : (w : Queued) → next script past ≡ Some w → is_served script past w.item ≡ true → is_stopping past ≡ false → (not w.repeating || may_repeat script past) ≡ true → is_some (send_due script past) ≡ true
  send-goes w at served' on repeats =
      let served = (and_parts (list_all (serves script past) (targets_in_order w.item)) (some_of (targets_in_order w.item)) served').0 in
      let rooms : list_all (has_room script past) (targets_in_order w.item) ≡ true = all-where (serves script past) (has_room script past) (targets_in_order w.item) (λ s h. room s h) served in
      let capacity : has_capacity script past (targets_in_order w.item) ≡ true = rw (none-open script past legal quiet, able.depth) rooms in
      let may : may_go script past w ≡ true = rw (on, capacity) repeats in
      rw (at, may) (with_some w (least_targets past (targets_in_order w.item)) (targets_some (targets_in_order w.item) served))
