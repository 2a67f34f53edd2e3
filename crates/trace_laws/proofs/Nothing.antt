-- What is due of a frame that has a request error.
use Rattle.std.proofs.Common.{◌≡◌, ℕ, ◌+◌, ◌==◌, Bool, true, false, not, ◌&&◌, List, [], ◌∷◌, ◌++◌, Option, Some, None, refl}
use Rattle.std.specs.Prelude.{if◌then◌else◌}
use Rattle.std.specs.List.{list_any}
use Rattle.std.proofs.lemmas.Bool.Decides.{Decides-eqb}
use Rattle.cam_types.specs.declared.script.Script.{Script}
use Rattle.trace_model.specs.declared.entry.Entry.{Entry}
use Rattle.trace_model.specs.declared.entry.Entry.TheVariants.{Partial, Filled, Early}
use Rattle.trace_model.specs.declared.entry.Sent.{Sent}
use Rattle.trace_model.specs.Allowed.{IsAllowed}
use Rattle.trace_model.specs.Entry.{is_error_request}
use Rattle.trace_model.specs.Faults.{buffer_fault, request_fault}
use Rattle.trace_model.specs.Fence.{is_passed}
use Rattle.trace_model.specs.Filled.{early_due, early_of, filled_due, filled_of, is_sound, lets_pass, may_deliver}
use Rattle.trace_model.specs.Frames.{each_earlier, has_error_request, has_shutter, shutter_time, target_of}
use Rattle.trace_model.specs.Legal.{IsLegal}
use Rattle.trace_model.specs.Open.{has_error_buffer}
use Rattle.trace_model.specs.Partial.{may_have_partial, partial_count, partial_of, partial_due}
use Rattle.trace_model.specs.Place.{is_at_device_by}
use Rattle.trace_laws.specs.Good.{is_good_of}
use Rattle.basic_lemmas.proofs.Tests.{not-so, or-right}

-- ---- tests

first : (b c d : Bool) → b ≡ true → ((not b && c) && d) ≡ false
first b c d e = rw e refl

second : (a b c : Bool) → b ≡ true → (a && (not b && c)) ≡ false
second true b c e = rw e refl
second false b c e = refl

middle : (a b s c : Bool) → s ≡ false → ((a && (b && s)) && c) ≡ false
middle true true s c e = rw e refl
middle true false s c e = refl
middle false b s c e = refl

last : (a b : Bool) → b ≡ false → (a && b) ≡ false
last true b e = e
last false b e = refl

unless : (b : Bool) (x : Option Entry) → b ≡ false → (if b then x else None) ≡ None
unless b x e = rw e refl

-- ---- what is due

no-part : (script : Script) (past : List Entry) (n k : ℕ) (time : Option ℕ) → has_error_request n past ≡ true → partial_of script past n k time ≡ None
no-part script past n k None has = refl
no-part script past n k (Some time) has = unless (may_have_partial script past n k) _ (first (has_error_request n past) _ _ has)

undelivered : (script : Script) (past : List Entry) (n s : ℕ) (t : Sent) → has_error_request n past ≡ true → may_deliver script past n s t ≡ false
undelivered script past n s t has =
    let unsound : is_sound script past n s ≡ false = second (not (request_fault script n) && not (buffer_fault script n s)) (has_error_request n past) (not (has_error_buffer n s past)) has in
    middle (is_at_device_by n s t.buffer.0 past) (has_shutter n past) (is_sound script past n s) (is_passed t.fence past && each_earlier n (lets_pass past s) past) unsound

no-buffer : (script : Script) (past : List Entry) (n s : ℕ) (t : Option Sent) → has_error_request n past ≡ true → filled_of script past n s t ≡ None
no-buffer script past n s None has = refl
no-buffer script past n s (Some t) has = unless (may_deliver script past n s t) _ (undelivered script past n s t has)

no-early : (script : Script) (past : List Entry) (n s : ℕ) (t : Option Sent) → has_error_request n past ≡ true → early_of script past n s t ≡ None
no-early script past n s None has = refl
no-early script past n s (Some t) has = unless (script.early && may_deliver script past n s t) _ (last script.early (may_deliver script past n s t) (undelivered script past n s t has))

-- ---- what may come

clash : (x : Option Entry) (e : Entry) → x ≡ None → x ≡ Some e → ⊥
clash x e none some = absurd (cc)

with-error : (m n : ℕ) (past : List Entry) → (m == n) ≡ true → has_error_request n past ≡ true → has_error_request m past ≡ true
with-error m n past same has = let e : m ≡ n = (Decides-eqb m n).0 same in rw e has

pub not_good : (script : Script) (past : List Entry) (e : Entry) (n : ℕ) → IsAllowed script past e → has_error_request n past ≡ true → is_good_of n e ≡ false
not_good script past (Partial m k part) n ok has =
    not-so (m.0 == n) (λ same. clash (partial_due script past m.0) (Partial m k part) (no-part script past m.0 (partial_count m.0 past + 1) (shutter_time m.0 past) (with-error m.0 n past same has)) ok)
not_good script past (Filled m s b f digest) n ok has =
    not-so (m.0 == n) (λ same. clash (filled_due script past m.0 s.0) (Filled m s b f digest) (no-buffer script past m.0 s.0 (target_of m.0 s.0 past) (with-error m.0 n past same has)) ok)
not_good script past (Early m s b d) n ok has =
    not-so (m.0 == n) (λ same. clash (early_due script past m.0 s.0) (Early m s b d) (no-early script past m.0 s.0 (target_of m.0 s.0 past) (with-error m.0 n past same has)) ok)
not_good script past _ n ok has = refl

-- ---- all that comes later

still : (n : ℕ) (later past : List Entry) → has_error_request n past ≡ true → has_error_request n (later ++ past) ≡ true
still n [] past has = has
still n (e ∷ later) past has = or-right (is_error_request n e) (has_error_request n (later ++ past)) (still n later past has)

pub nothing_good : (script : Script) (past later : List Entry) (n : ℕ) → IsLegal script (later ++ past) → has_error_request n past ≡ true → list_any (is_good_of n) later ≡ false
nothing_good script past [] n legal has = refl
nothing_good script past (e ∷ later) n legal has =
    rw (not_good script (later ++ past) e n legal.0 (still n later past has)) (nothing_good script past later n legal.1 has)
