-- An entry is allowed exactly where it meets each of its conditions.
use Rattle.std.proofs.Common.{◌≡◌, ◌↔◌, Bool, not, List, [], ◌∷◌, None, IsTrue, refl, find, inl, inr}
use Rattle.std.specs.List.{list_all}
use Rattle.std.proofs.lemmas.Bool.{cases_Bool, false≢true}
use Rattle.cam_types.specs.declared.script.Script.{Script}
use Rattle.trace_model.specs.declared.entry.Entry.{Entry}
use Rattle.trace_model.specs.declared.entry.Entry.TheVariants.{Begin, Call, Send, Dropped, Shutter, Partial, Filled, Failed, ErrorRequest, ErrorResult, ErrorBuffer, ErrorDevice, Release, Signal, Early, Late}
use Rattle.trace_model.specs.Allowed.{IsAllowed}
use Rattle.rule_conditions.specs.Conditions.{conditions_of, first_failed, holds}
use Rattle.rule_conditions.proofs.ClientLaws.{begin_meets, call_meets, release_meets, signal_meets}
use Rattle.rule_conditions.proofs.ErrorLaws.{buffer_error_meets, device_error_meets, request_error_meets, result_error_meets}
use Rattle.rule_conditions.proofs.ResultLaws.{partial_meets, shutter_meets}
use Rattle.rule_conditions.proofs.ReturnLaws.{early_meets, failed_meets, filled_meets, late_meets}
use Rattle.rule_conditions.proofs.SendLaws.{drop_meets, send_meets}
use Rattle.rule_conditions.proofs.Tests.{by_test}

pub meets : (script : Script) (past : List Entry) (e : Entry) → IsTrue (list_all (holds script past e) (conditions_of e)) ↔ IsAllowed script past e
meets script past (Begin word) = begin_meets script past word
meets script past (Call i word reply) = call_meets script past i word reply
meets script past (Send n r i same targets) =
    by_test _ _ (send_meets script past n.0 r.0 i same targets) (λ h. h, λ h. h)
meets script past (Dropped n r i) = drop_meets script past n r i
meets script past (Shutter n time) = shutter_meets script past n time
meets script past (Partial n k part) = partial_meets script past n k part
meets script past (Filled n s b f digest) = filled_meets script past n s b f digest
meets script past (Failed n s b f) = failed_meets past n s b f
meets script past (ErrorRequest n) = request_error_meets script past n
meets script past (ErrorResult n) = result_error_meets script past n
meets script past (ErrorBuffer n s) = buffer_error_meets script past n s
meets script past ErrorDevice = device_error_meets script past
meets script past (Release b f) = release_meets past b f
meets script past (Signal f) = signal_meets past f
meets script past (Early n s b d) = early_meets script past n s b d
meets script past (Late d digest) = late_meets script past d digest

none_fails : {X : Type 0} (p : X → Bool) (xs : List X) → IsTrue (list_all p xs) ↔ (find (λ x. not (p x)) xs ≡ None)
none_fails p [] = (λ _. refl, λ _. refl)
none_fails p (x ∷ xs) =
    elim (cases_Bool (p x)) [
      | inl yes' ↦ rw yes' (none_fails p xs)
      | inr no' ↦ rw no' (λ h. absurd (false≢true h), λ e. absurd (cc))
    ]

pub none_failed : (script : Script) (past : List Entry) (e : Entry) → (first_failed script past e ≡ None) ↔ IsAllowed script past e
none_failed script past e =
    (λ h. (meets script past e).0 ((none_fails (holds script past e) (conditions_of e)).1 h), λ a. (none_fails (holds script past e) (conditions_of e)).0 ((meets script past e).1 a))
