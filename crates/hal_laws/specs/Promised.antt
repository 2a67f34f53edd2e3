use Rattle.std.specs.Prelude.{◌≡◌, ◌≤◌, ℕ, ◌==◌, ◌+◌, Bool, false, true, ◌&&◌, not, List, [], ◌∷◌, count_by, if◌then◌else◌}
use Rattle.std.specs.List.{list_all, list_any}
use Rattle.hal_model.specs.declared.event.HalEvent.{HalEvent}
use Rattle.hal_model.specs.declared.event.HalEvent.TheVariants.{Results}
use Rattle.hal_model.specs.declared.event.Pack.TheVariants.{Entries}
use Rattle.hal_model.specs.Callbacks.{has_sound_part, is_end_error, is_overtaken}
use Rattle.hal_model.specs.Rules.{known, report}
use Rattle.hal_model.specs.Words.{begins, frames, has_later, is_accepted, is_failed, is_filled, is_live, is_number, is_out, is_outstanding, stands, targets_of}

-- What a log with an empty report means to a user, whoever wrote the framework and the device. k is the device's
-- partial result count; each is said of what stands since the device was opened.

abbrev pub KeepsRules : ℕ → List HalEvent → Type 0
KeepsRules k log = report k log ≡ []

-- ---- a buffer is in one place (camera3.h, camera3_capture_request.output_buffers)

-- the request has buffer b at the device
abbrev pub holds : ℕ → ℕ → List HalEvent → ℕ → Bool
holds k b past n = is_live k n past && list_any (λ t. (t.buffer == b) && is_out n past t) (targets_of n past)

-- one request has it at most
abbrev pub OneHolder : ℕ → List HalEvent → Type 0
OneHolder k log = KeepsRules k log → (b : ℕ) → count_by (holds k b (known k log)) (frames (known k log)) ≤ 1

-- ---- buffers come back once (camera3.h, process_capture_result)

-- how often the event gives back buffer b for request n
abbrev pub given_back : ℕ → ℕ → HalEvent → ℕ
given_back n b (Results m _ _ buffers _) = if m == n then count_by (λ r. is_number b r.buffer) buffers else 0
given_back n b _ = 0

-- how often it came back since the request's begin
abbrev pub back_count : ℕ → ℕ → List HalEvent → ℕ
back_count n b [] = 0
back_count n b (e ∷ past) = if begins n e then 0 else given_back n b e + back_count n b past

-- none comes back twice
abbrev pub NoneTwice : ℕ → List HalEvent → Type 0
NoneTwice k log = KeepsRules k log → (n b : ℕ) → back_count n b (known k log) ≤ 1

-- each buffer of an accepted request that isn't outstanding came back once
abbrev pub EachOnce : ℕ → List HalEvent → Type 0
EachOnce k log =
    KeepsRules k log → (n : ℕ) → is_accepted n (known k log) ≡ true → is_outstanding k n (known k log) ≡ false →
    list_all (λ t. back_count n t.buffer (known k log) == 1) (targets_of n (known k log)) ≡ true

-- ---- a request that failed whole brings nothing good (camera3.h, camera3_error_msg_code, ERROR_REQUEST)

abbrev pub brings_good : HalEvent → Bool
brings_good (Results _ _ Entries _ _) = true
brings_good (Results _ _ _ buffers _) = list_any is_filled buffers
brings_good _ = false

-- metadata or an ok buffer of a request that failed whole
abbrev pub is_good_of_failed : HalEvent → List HalEvent → Bool
is_good_of_failed (Results n j pack buffers input) past =
    brings_good (Results n j pack buffers input) && is_failed n past
is_good_of_failed _ past = false

abbrev pub NothingGoodFails : ℕ → HalEvent → List HalEvent → Type 0
NothingGoodFails k e log = KeepsRules k (e ∷ log) → is_good_of_failed e (known k log) ≡ false

-- ---- what comes in order (camera3.h, process_capture_result)

-- an ok buffer behind one of a later request for the same stream
abbrev pub is_late_buffer : HalEvent → List HalEvent → Bool
is_late_buffer (Results n _ _ buffers _) past = list_any (is_overtaken n past) buffers
is_late_buffer _ past = false

-- the last part of a request's metadata behind that of a later request, where no error of its metadata stands
abbrev pub is_late_metadata : ℕ → HalEvent → List HalEvent → Bool
is_late_metadata k (Results n j Entries _ _) past =
    ((j == k) && not (stands n (is_end_error n) past)) && has_later (has_sound_part k) n past
is_late_metadata k _ past = false

abbrev pub BuffersInOrder : ℕ → HalEvent → List HalEvent → Type 0
BuffersInOrder k e log = KeepsRules k (e ∷ log) → is_late_buffer e (known k log) ≡ false

abbrev pub MetadataInOrder : ℕ → HalEvent → List HalEvent → Type 0
MetadataInOrder k e log = KeepsRules k (e ∷ log) → is_late_metadata k e (known k log) ≡ false
