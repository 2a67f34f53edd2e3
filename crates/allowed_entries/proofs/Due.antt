-- An entry that is due is allowed.
use Rattle.std.proofs.Common.{◌≡◌, ℕ, List, Option, Some, None, refl}
use Rattle.cam_types.specs.declared.script.Script.{Script}
use Rattle.trace_model.specs.declared.entry.Entry.{Entry}
use Rattle.trace_model.specs.declared.entry.Entry.TheVariants.{ErrorDevice, Early, Late}
use Rattle.trace_model.specs.Allowed.{IsAllowed}
use Rattle.trace_model.specs.Calls.{next_command}
use Rattle.trace_model.specs.Client.{begin_due, call_due}
use Rattle.trace_model.specs.Errors.{error_buffer_due, error_device_due, may_fail_buffer, may_fail_device}
use Rattle.trace_model.specs.Fence.{is_late}
use Rattle.trace_model.specs.Filled.{late_of}
use Rattle.trace_model.specs.Picture.{digest_of}
use Rattle.run_model.proofs.Legal.{begin_shape, by_failing, by_test, call_shape}

pub begin-allowed : (script : Script) (past : List Entry) (e : Entry) → begin_due script past ≡ Some e → IsAllowed script past e
begin-allowed script past e h =
    begin_shape (λ d. begin_due script past ≡ Some d → IsAllowed script past d) past (next_command script past) e h (λ c k. k) h

pub call-allowed : (script : Script) (past : List Entry) (e : Entry) → call_due script past ≡ Some e → IsAllowed script past e
call-allowed script past e h =
    call_shape (λ d. call_due script past ≡ Some d → IsAllowed script past d) script past (next_command script past) e h (λ c k. k) h

late-shape : (P : Entry → Type 0) (script : Script) (past : List Entry) (d : ℕ) (o : Option Entry) (e : Entry) → late_of script past d o ≡ Some e → ((digest : List ℕ) → P (Late (record { 0 = d }) digest)) → P e
late-shape P script past d None e h each = absurd (cc)
late-shape P script past d (Some (Early n s b f)) e h each =
    by_failing P (is_late d past) (Late (record { 0 = d }) (digest_of script past n.0 s.0)) e h (each (digest_of script past n.0 s.0))
late-shape P script past d (Some _) e h each = absurd (cc)

pub error-allowed : (script : Script) (past : List Entry) (n s : ℕ) (e : Entry) → error_buffer_due script past n s ≡ Some e → IsAllowed script past e
error-allowed script past n s e h = by_test (IsAllowed script past) (may_fail_buffer script past n s) _ e h (λ t. rw t refl)

pub device-allowed : (script : Script) (past : List Entry) (e : Entry) → error_device_due script past ≡ Some e → IsAllowed script past e
device-allowed script past e h = by_test (IsAllowed script past) (may_fail_device script past) ErrorDevice e h (λ t. rw t refl)
