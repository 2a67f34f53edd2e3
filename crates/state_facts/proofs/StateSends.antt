-- The sends and drops that are due are read from the state.
use Rattle.std.proofs.Common.{◌≡◌, ℕ, ◌==◌, Bool, true, false, ◌&&◌, ◌||◌, not, List, [], ◌∷◌, Option, Some, None, refl, ap, ◌∙◌, nat_lt, length, slice_get, if◌then◌else◌}
use Rattle.std.specs.List.{list_any, list_all}
use Rattle.cam_types.specs.Four.{four_list}
use Rattle.cam_types.specs.declared.four.Four.{Four}
use Rattle.cam_types.specs.declared.script.Script.{Script}
use Rattle.trace_model.specs.declared.entry.Entry.{Entry}
use Rattle.trace_model.specs.declared.entry.Sent.{Sent}
use Rattle.trace_model.specs.Configuration.{buffers_of, streams}
use Rattle.cam_types.specs.Profile.{max_buffers_of}
use Rattle.trace_model.specs.Drop.{drop_due, drop_of}
use Rattle.trace_model.specs.Fence.{fence_of, is_same_fence}
use Rattle.trace_model.specs.Legal.{IsLegal}
use Rattle.trace_model.specs.Numbers.{next_number}
use Rattle.trace_model.specs.Place.{Pool, is_at, place}
use Rattle.trace_model.specs.Printable.{is_filled}
use Rattle.trace_model.specs.Queue.{first_in, next, queued}
use Rattle.cam_types.specs.declared.request.Queued.{Queued}
use Rattle.cam_types.specs.declared.request.WaitingItem.{WaitingItem}
use Rattle.trace_model.specs.Send.{are_streams, fits_next, has_room, is_same_bool, least_in_pool, least_target, least_targets, mark_of, may_go, may_repeat, may_send, send_due, send_next, send_with, takes_from_pool, target_with, targets_in_order, with_target}
use Rattle.trace_model.specs.Stopping.{is_stopping}
use Rattle.trace_laws.proofs.Own.{stream-buffer}
use Rattle.state_facts.specs.Homes.{fence_in, homes, least_in, place_in}
use Rattle.state_facts.proofs.BufferReadings.{at_device_is, fence_is, least_is, place_is}
use Rattle.state_facts.proofs.Readings.{next_is}
use Rattle.state_facts.proofs.OpenRows.{count_reads}
use Rattle.state_facts.specs.States.{drop_in, drop_with, fits_in, has_room_in, may_go_in, may_send_in, send_in, send_next_in, send_of, state, takes_in, target_in, targets_in}
use Rattle.basic_lemmas.proofs.Lists.{all-agree, found-listed}

-- ---- targets

takes-by : (a p q : Bool) (f g : Bool) → p ≡ q → (a ≡ true → f ≡ g) → (a && (p && f)) ≡ (a && (q && g))
takes-by true p q f g x y = rw (x, y refl) refl
takes-by false p q f g x y = refl

takes-is : (script : Script) (past : List Entry) (t : Sent) → IsLegal script past → takes_from_pool past t ≡ takes_in (state script past) t
takes-is script past t legal =
    takes-by (list_any (λ b. b == t.buffer.0) (buffers_of past t.stream.0)) (is_at (place t.buffer.0 past) Pool) (is_at (place_in (homes past) t.buffer.0) Pool) (is_same_fence t.fence (fence_of t.buffer.0 past)) (is_same_fence t.fence (fence_in (homes past) t.buffer.0))
    (ap (λ p. is_at p Pool) (place_is script past t.buffer.0 legal))
    (λ own. ap (λ f. is_same_fence t.fence f) (fence_is script past t.buffer.0 legal (stream-buffer past t.stream.0 t.buffer.0 own)))

target-by : (script : Script) (past : List Entry) (s : ℕ) (o : Option ℕ) → IsLegal script past → least_in_pool past s ≡ o → target_with past s o ≡ target_in (state script past) s o
target-by script past s None legal at = refl
target-by script past s (Some b) legal at =
    let own = stream-buffer past s b (found-listed (λ c. is_at (place c past) Pool) (buffers_of past s) b at) in
    ap (λ f. Some (record { stream = record { 0 = s }; buffer = record { 0 = b }; fence = f })) (fence_is script past b legal own)

target-is : (script : Script) (past : List Entry) (s : ℕ) → IsLegal script past → least_target past s ≡ target_in (state script past) s (least_in (homes past) s)
target-is script past s legal = target-by script past s (least_in_pool past s) legal refl ∙ ap (λ (o : Option ℕ). target_in (state script past) s o) (least_is script past s legal)

targets-are : (script : Script) (past : List Entry) (streams : List ℕ) → IsLegal script past → least_targets past streams ≡ targets_in (state script past) streams
targets-are script past [] legal = refl
targets-are script past (s ∷ streams) legal =
    ap (λ (t : Option Sent). with_target t (least_targets past streams)) (target-is script past s legal)
    ∙ ap (λ (ts : Option (List Sent)). with_target (target_in (state script past) s (least_in (homes past) s)) ts) (targets-are script past streams legal)

-- ---- whether an item may go

room-is : (script : Script) (past : List Entry) (s : ℕ) → IsLegal script past → has_room script past s ≡ has_room_in script (state script past) s
room-is script past s legal = ap (λ n. nat_lt n (max_buffers_of script.profile (slice_get (streams script past) s))) (at_device_is script past s legal)

go-is : (script : Script) (past : List Entry) (w : Queued) → IsLegal script past → may_go script past w ≡ may_go_in script (state script past) w
go-is script past w legal =
    ap (λ n. not (is_stopping past) && ((nat_lt n script.profile.depth && list_all (has_room script past) (targets_in_order w.item)) && (not w.repeating || may_repeat script past))) (count_reads script past legal)
    ∙ ap (λ b. not (is_stopping past) && ((nat_lt (length (state script past).rows) script.profile.depth && b) && (not w.repeating || may_repeat script past))) (all-agree (has_room script past) (has_room_in script (state script past)) (targets_in_order w.item) (λ s. room-is script past s legal))

-- ---- sends

fits-is : (script : Script) (past : List Entry) (o : Option Queued) (n r i : ℕ) (same : Bool) (targets : Four Sent) → IsLegal script past → fits_next script past o n r i same targets ≡ fits_in script (state script past) o n r i same targets
fits-is script past None n r i same targets legal = refl
fits-is script past (Some w) n r i same targets legal =
    let name = (n == next_number past) && ((r == w.request.0) && (i == w.index)) in
    let streams = are_streams (four_list targets) (targets_in_order w.item) in
    let mark = is_same_bool same (mark_of script past w.item.settings) in
    ap (λ b. name && (b && ((streams && (is_filled targets && list_all (takes_from_pool past) (four_list targets))) && mark))) (go-is script past w legal)
    ∙ ap (λ b. name && (may_go_in script (state script past) w && ((streams && (is_filled targets && b)) && mark))) (all-agree (takes_from_pool past) (takes_in (state script past)) (four_list targets) (λ t. takes-is script past t legal))

pub may_send_is : (script : Script) (past : List Entry) (n r i : ℕ) (same : Bool) (targets : Four Sent) → IsLegal script past → may_send script past n r i same targets ≡ may_send_in script (state script past) n r i same targets
may_send_is script past n r i same targets legal =
    fits-is script past (next script past) n r i same targets legal ∙ ap (λ (o : Option Queued). fits_in script (state script past) o n r i same targets) (next_is script past)

send-by : (a b : Bool) (x y : Option Entry) → a ≡ b → x ≡ y → (if a then x else None) ≡ (if b then y else None)
send-by a b x y h k = rw (h, k) refl

send-with : (script : Script) (past : List Entry) (w : Queued) (o : Option (List Sent)) → send_with script past w o ≡ send_of (state script past) w o
send-with script past w None = refl
send-with script past w (Some targets) = refl

send-next : (script : Script) (past : List Entry) (o : Option Queued) → IsLegal script past → send_next script past o ≡ send_next_in script (state script past) o
send-next script past None legal = refl
send-next script past (Some w) legal =
    send-by _ _ _ _ (go-is script past w legal) (send-with script past w (least_targets past (targets_in_order w.item)) ∙ ap (λ (o : Option (List Sent)). send_of (state script past) w o) (targets-are script past (targets_in_order w.item) legal))

pub send_is : (script : Script) (past : List Entry) → IsLegal script past → send_due script past ≡ send_in script (state script past)
send_is script past legal = send-next script past (next script past) legal ∙ ap (λ (o : Option Queued). send_next_in script (state script past) o) (next_is script past)

-- ---- drops

drop-with : (past : List Entry) (o : Option WaitingItem) → drop_of past o ≡ drop_with (next_number past) o
drop-with past (Some w) = refl
drop-with past None = refl

pub drop_is : (script : Script) (past : List Entry) → drop_due script past ≡ drop_in (state script past)
drop_is script past = ap (λ (o : Option Entry). if is_stopping past then o else None) (drop-with past (first_in (queued script past)))
