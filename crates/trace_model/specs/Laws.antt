use Rattle.std.specs.Prelude.{◌≡◌, ℕ, ◌==◌, ◌+◌, Bool, true, false, ◌&&◌, ◌||◌, not, List, [], ◌∷◌, nat_le, nat_lt, count_by, IsTrue, if◌then◌else◌}
use Rattle.std.specs.List.{list_any, list_all}
use Rattle.cam_types.specs.Four.{four_list}
use Rattle.cam_types.specs.declared.reply.Reply.TheVariants.{Configured}
use Rattle.cam_types.specs.declared.script.Script.{Script}
use Rattle.trace_model.specs.declared.entry.Entry.{Entry}
use Rattle.trace_model.specs.declared.entry.Entry.TheVariants.{Call, Send, Shutter, Partial, Filled, Failed, ErrorResult, Release, Signal, Early, Late}
use Rattle.trace_model.specs.Complete.{device_fences, released}
use Rattle.trace_model.specs.Configuration.{is_buffer}
use Rattle.trace_model.specs.Entry.{takes, is_part, is_error_request, is_error_result, returns_target, signals, releases_fence, is_early_with, is_late_with}
use Rattle.trace_model.specs.Fence.{early_fence_of, is_there}
use Rattle.trace_model.specs.Frames.{frames, targets_of, has_error_request}
use Rattle.trace_model.specs.Open.{has_part, has_error_result}
use Rattle.trace_model.specs.Place.{Pool, Device, place, is_at}
use Rattle.trace_model.specs.Queue.{submitted}

-- What the definitions imply, in the words of a user of the contract. The first, third and fourth hold of each legal
-- trace, the others of each complete one.

-- ---- conservation of buffers (camera3.h, process_capture_result: every buffer is returned, errors or not)

abbrev pub sends_buffer : ℕ → Entry → Bool
sends_buffer b (Send _ _ _ _ targets) = list_any (λ t. t.buffer.0 == b) (four_list targets)
sends_buffer b _ = false

abbrev pub returns_buffer : ℕ → Entry → Bool
returns_buffer b (Filled _ _ c _ _) = c.0 == b
returns_buffer b (Failed _ _ c _) = c.0 == b
returns_buffer b (Early _ _ c _) = c.0 == b
returns_buffer b _ = false

-- a buffer is sent once more than it is returned where it is the configuration's and at the device, else as often
abbrev pub ConservesBuffers : List Entry → Type 0
ConservesBuffers past =
    (b : ℕ) →
    count_by (sends_buffer b) past ≡
    count_by (returns_buffer b) past + (if is_buffer past b && is_at (place b past) Device then 1 else 0)

-- ---- each request ends once (camera3.h, S6 and process_capture_result)

abbrev pub ends_metadata : ℕ → Entry → Bool
ends_metadata n e = is_part n 3 e || (is_error_result n e || is_error_request n e)

-- each item of an accepted once or burst is sent or dropped once; a sent frame has one end of its metadata and one
-- return of each buffer
pub record EndsOnce (script : Script) (past : List Entry) : Type 0 where
  pub items : IsTrue (list_all (λ w. count_by (takes w.request.0 w.index) past == 1) (submitted script past))
  pub metadata : IsTrue (list_all (λ n. count_by (ends_metadata n) past == 1) (frames past))
  pub buffers : IsTrue
      (list_all (λ n. list_all (λ t. count_by (returns_target n t.stream.0) past == 1) (targets_of n past))
      (frames past))

-- ---- shutters rise (camera3.h, camera3_shutter_msg)

abbrev pub is_before : ℕ → ℕ → Entry → Bool
is_before n time (Shutter m t) = nat_lt m.0 n && nat_lt t time
is_before n time _ = true

-- each shutter has a greater frame and a later time than all before it
abbrev pub rises : List Entry → Bool
rises [] = true
rises (Shutter n time ∷ past) = list_all (is_before n.0 time) past && rises past
rises (_ ∷ past) = rises past

-- ---- deliveries in order (camera3.h, process_capture_result: first in, first out for each stream)

-- the entries since the last accepted configuration have only good buffers of smaller frames for stream s, filled or
-- early
abbrev pub delivers_below : ℕ → ℕ → List Entry → Bool
delivers_below n s [] = true
delivers_below n s (Filled m t _ _ _ ∷ past) = (not (t.0 == s) || nat_lt m.0 n) && delivers_below n s past
delivers_below n s (Early m t _ _ ∷ past) = (not (t.0 == s) || nat_lt m.0 n) && delivers_below n s past
delivers_below n s (Call _ _ (Configured _) ∷ past) = true
delivers_below n s (_ ∷ past) = delivers_below n s past

abbrev pub delivers_in_order : List Entry → Bool
delivers_in_order [] = true
delivers_in_order (Filled n s _ _ _ ∷ past) = delivers_below n.0 s.0 past && delivers_in_order past
delivers_in_order (Early n s _ _ ∷ past) = delivers_below n.0 s.0 past && delivers_in_order past
delivers_in_order (_ ∷ past) = delivers_in_order past

-- the entry ends the metadata of a frame by its last part or a result error
abbrev pub ends_result_of : ℕ → Entry → Bool
ends_result_of n e = is_part n 3 e || is_error_result n e

abbrev pub ends_below : ℕ → Entry → Bool
ends_below n (Partial m k _) = not (k == 3) || nat_lt m.0 n
ends_below n (ErrorResult m) = nat_lt m.0 n
ends_below n _ = true

abbrev pub ends_in_order : List Entry → Bool
ends_in_order [] = true
ends_in_order (Partial n k _ ∷ past) = (not (k == 3) || list_all (ends_below n.0) past) && ends_in_order past
ends_in_order (ErrorResult n ∷ past) = list_all (ends_below n.0) past && ends_in_order past
ends_in_order (_ ∷ past) = ends_in_order past

-- ---- partials count up (camera3.h, camera3_capture_result.partial_result)

-- the entry is no part of frame n under another number than 1 to 3
abbrev pub is_numbered : ℕ → Entry → Bool
is_numbered n (Partial m k _) = not (m.0 == n) || (nat_lt 0 k && nat_le k 3)
is_numbered n _ = true

-- each part has a number from 1 to 3, stands once, and only after those before it
abbrev pub counts_up : ℕ → List Entry → Bool
counts_up n past =
    list_all (is_numbered n) past
    && ((not (has_part n 2 past) || has_part n 1 past) && ((not (has_part n 3 past) || has_part n 2 past)
    && list_all (λ k. nat_lt (count_by (is_part n k) past) 2) (1 ∷ (2 ∷ (3 ∷ [])))))

abbrev pub is_whole_or_failed : ℕ → List Entry → Bool
is_whole_or_failed n past =
    if has_part n 3 past then not (has_error_result n past || has_error_request n past)
    else (has_error_result n past || has_error_request n past)

-- the parts of a sent frame are 1 to k, and k is 3 exactly where it has no result error and no request error
pub record CountsUp (past : List Entry) : Type 0 where
  pub in_order : IsTrue (list_all (λ n. counts_up n past) (frames past))
  pub last : IsTrue (list_all (λ n. is_whole_or_failed n past) (frames past))

-- ---- fences released and signalled once, the signal later

abbrev pub signals_after_release : List Entry → Bool
signals_after_release [] = true
signals_after_release (Signal f ∷ past) = list_any (releases_fence f.0) past && signals_after_release past
signals_after_release (_ ∷ past) = signals_after_release past

-- and those of the device: one that is signalled was given before
abbrev pub late_after_early : List Entry → Bool
late_after_early [] = true
late_after_early (Late d _ ∷ past) = list_any (is_early_with d.0) past && late_after_early past
late_after_early (_ ∷ past) = late_after_early past

-- a buffer that came back early is released only after its device fence was signalled
abbrev pub releases_what_is_there : List Entry → Bool
releases_what_is_there [] = true
releases_what_is_there (Release b _ ∷ past) = is_there (early_fence_of b.0 past) past && releases_what_is_there past
releases_what_is_there (_ ∷ past) = releases_what_is_there past

-- the buffers that came back early
abbrev pub early_buffers : List Entry → List ℕ
early_buffers [] = []
early_buffers (Early _ _ b _ ∷ past) = b.0 ∷ early_buffers past
early_buffers (_ ∷ past) = early_buffers past

-- each fence is released once, and signalled once, later; each device fence is given once and signalled once, later,
-- the buffer is released after that alone, and in the end each is home
pub record FencesOnce (past : List Entry) : Type 0 where
  pub released_once : IsTrue (list_all (λ f. count_by (releases_fence f) past == 1) (released past))
  pub signalled_once : IsTrue (list_all (λ f. count_by (signals f) past == 1) (released past))
  pub later : IsTrue (signals_after_release past)
  pub early_once : IsTrue (list_all (λ d. count_by (is_early_with d) past == 1) (device_fences past))
  pub late_once : IsTrue (list_all (λ d. count_by (is_late_with d) past == 1) (device_fences past))
  pub late_later : IsTrue (late_after_early past)
  pub released_later : IsTrue (releases_what_is_there past)
  pub home : IsTrue (list_all (λ b. is_at (place b past) Pool) (early_buffers past))
