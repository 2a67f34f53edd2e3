-- A send and a drop are allowed where they meet their conditions.
use Rattle.std.proofs.Common.{◌≡◌, ◌↔◌, ℕ, ◌==◌, ◌+◌, Bool, true, false, ◌&&◌, ◌||◌, not, List, [], ◌∷◌, Option, Some, None, IsTrue, refl, sym, ap, arith}
use Rattle.std.specs.Prelude.{nat_lt}
use Rattle.std.specs.List.{list_all}
use Rattle.std.proofs.lemmas.Bool.{and_parts, false≢true}
use Rattle.std.proofs.lemmas.Bool.Decides.{Decides-and, Decides-eqb, Decides-like, nat_tests}
use Rattle.cam_types.specs.Four.{four_list}
use Rattle.cam_types.specs.Limits.{repeating_ahead}
use Rattle.cam_types.specs.declared.four.Four.{Four}
use Rattle.cam_types.specs.declared.number.FrameNo.{FrameNo}
use Rattle.cam_types.specs.declared.number.RequestId.{RequestId}
use Rattle.cam_types.specs.declared.request.Queued.{Queued}
use Rattle.cam_types.specs.declared.request.WaitingItem.{WaitingItem}
use Rattle.cam_types.specs.declared.script.Script.{Script}
use Rattle.trace_model.specs.declared.entry.Entry.{Entry}
use Rattle.trace_model.specs.declared.entry.Entry.TheVariants.{Dropped}
use Rattle.trace_model.specs.declared.entry.Sent.{Sent}
use Rattle.trace_model.specs.Calls.{begun}
use Rattle.trace_model.specs.Drop.{drop_due, drop_of}
use Rattle.trace_model.specs.Numbers.{next_number}
use Rattle.trace_model.specs.Open.{open_count}
use Rattle.trace_model.specs.Printable.{is_filled}
use Rattle.trace_model.specs.Queue.{next, queued, first_in}
use Rattle.trace_model.specs.Send.{are_streams, awaited, fits_next, has_room, holds_back, is_same_bool, mark_of, may_send, repeated_since_call, takes_from_pool, targets_in_order}
use Rattle.trace_model.specs.Stopping.{is_stopping}
use Rattle.rule_conditions.specs.Sends.{are_of_item, drop_conditions, drop_holds, has_its_fence, is_first_item, is_from_pool, is_next_item, of_next, send_conditions, send_holds}
use Rattle.rule_conditions.proofs.Tests.{by_test, where_tests}

all_taken : (past : List Entry) (ts : List Sent) → list_all (takes_from_pool past) ts ≡ (list_all (is_from_pool past) ts && list_all (has_its_fence past) ts)
all_taken past [] = refl
all_taken past (t ∷ ts) = let ih = all_taken past ts in grind arith

-- what holds of the streams holds of the targets that are for them
room_same : (q : ℕ → Bool) (ts : List Sent) (ss : List ℕ) → are_streams ts ss ≡ true → list_all (λ t. q t.stream.0) ts ≡ list_all q ss
room_same q [] [] h = refl
room_same q [] (s ∷ ss) h = absurd (cc)
room_same q (t ∷ ts) [] h = absurd (cc)
room_same q (t ∷ ts) (s ∷ ss) h =
    let ih = room_same q ts ss (grind arith) in
    let here : t.stream.0 ≡ s = grind (arith, nat_tests) in
    rw (here, ih) refl

send_tests : (number item stops pool fence taken filled streams depth room asked repeats held ahead mark : Bool) → taken ≡ (pool && fence) → (streams ≡ true → room ≡ asked) → (number && (item && (not stops && (pool && (fence && ((filled && streams) && (depth && (room && ((not repeats || not held) && ((not repeats || ahead) && (mark && true))))))))))) ≡ ((number && item) && ((not stops && ((depth && asked) && (not repeats || (not held && ahead)))) && ((streams && (filled && taken)) && mark)))
send_tests false item stops pool fence taken filled streams depth room asked repeats held ahead mark t r = refl
send_tests true false stops pool fence taken filled streams depth room asked repeats held ahead mark t r = refl
send_tests true true true pool fence taken filled streams depth room asked repeats held ahead mark t r = refl
send_tests true true false pool fence taken filled streams depth room asked repeats held ahead mark t r = grind arith

abbrev meets_next : Script → List Entry → Option Queued → ℕ → ℕ → ℕ → Bool → Four Sent → Bool
meets_next script past o n r i same targets =
    (n == next_number past)
    && (is_next_item o r i
    && (not (is_stopping past)
    && (list_all (is_from_pool past) (four_list targets)
    && (list_all (has_its_fence past) (four_list targets)
    && (of_next o (are_of_item targets)
    && (nat_lt (open_count past) script.profile.depth
    && (list_all (λ t. has_room script past t.stream.0) (four_list targets)
    && (of_next o (λ next. not next.repeating || not (holds_back (begun past)))
    && (of_next o (λ next. not next.repeating || nat_lt (repeated_since_call script past) (repeating_ahead + awaited script past))
    && (of_next o (λ next. is_same_bool same (mark_of script past next.item.settings)) && true))))))))))

no_next : (number stops pool fence depth room : Bool) → (number && (false && (not stops && (pool && (fence && (true && (depth && (room && (true && (true && (true && true))))))))))) ≡ false
no_next true stops pool fence depth room = refl
no_next false stops pool fence depth room = refl

fits : (script : Script) (past : List Entry) (o : Option Queued) (n r i : ℕ) (same : Bool) (targets : Four Sent) → meets_next script past o n r i same targets ≡ fits_next script past o n r i same targets
fits script past None n r i same targets =
    no_next (n == next_number past) (is_stopping past) (list_all (is_from_pool past) (four_list targets)) (list_all (has_its_fence past) (four_list targets)) (nat_lt (open_count past) script.profile.depth) (list_all (λ t. has_room script past t.stream.0) (four_list targets))
fits script past (Some q) n r i same targets =
    send_tests (n == next_number past) ((r == q.request.0) && (i == q.index)) (is_stopping past) (list_all (is_from_pool past) (four_list targets)) (list_all (has_its_fence past) (four_list targets)) (list_all (takes_from_pool past) (four_list targets)) (is_filled targets) (are_streams (four_list targets) (targets_in_order q.item)) (nat_lt (open_count past) script.profile.depth) (list_all (λ t. has_room script past t.stream.0) (four_list targets)) (list_all (has_room script past) (targets_in_order q.item)) q.repeating (holds_back (begun past)) (nat_lt (repeated_since_call script past) (repeating_ahead + awaited script past)) (is_same_bool same (mark_of script past q.item.settings)) (all_taken past (four_list targets)) (room_same (has_room script past) (four_list targets) (targets_in_order q.item))

pub send_meets : (script : Script) (past : List Entry) (n r i : ℕ) (same : Bool) (targets : Four Sent) → list_all (λ c. send_holds c script past n r i same targets) send_conditions ≡ may_send script past n r i same targets
send_meets script past n r i same targets = fits script past (next script past) n r i same targets

-- ---- drops

drop_same : (a : ℕ) (r : RequestId) (i : ℕ) (n : FrameNo) (q : RequestId) (j : ℕ) → n.0 ≡ a → q.0 ≡ r.0 → j ≡ i → Dropped (record { 0 = a }) r i ≡ Dropped n q j
drop_same a r i n q j x y z =
    let k : Dropped (record { 0 = a }) (record { 0 = r.0 }) i ≡ Dropped (record { 0 = n.0 }) (record { 0 = q.0 }) j = rw (x, y, z) refl in k

frame_number : (a : ℕ) (n : FrameNo) → record { 0 = a } ≡ n → n.0 ≡ a
frame_number a n e = sym (ap (λ (z : FrameNo). z.0) e)

request_number : (a r : RequestId) → a ≡ r → r.0 ≡ a.0
request_number a r e = sym (ap (λ (z : RequestId). z.0) e)

drop_named : (past : List Entry) (o : Option WaitingItem) (n : FrameNo) (r : RequestId) (i : ℕ) → IsTrue ((n.0 == next_number past) && is_first_item o r.0 i) ↔ (drop_of past o ≡ Some (Dropped n r i))
drop_named past None n r i =
    (λ h. absurd (false≢true (and_parts (n.0 == next_number past) false h).1), λ e. absurd (cc))
drop_named past (Some w) n r i =
    Decides-like _ (λ h. ap Some (drop_same (next_number past) w.request w.index n r i h.0 h.1.0 h.1.1)) (λ e. (frame_number (next_number past) n (cc), (request_number w.request r (cc), sym (cc)))) (Decides-and _ _ (Decides-eqb n.0 (next_number past)) (Decides-and _ _ (Decides-eqb r.0 w.request.0) (Decides-eqb i w.index)))

drop_bools : (stops number item : Bool) → (stops && (number && (item && true))) ≡ (stops && (number && item))
drop_bools stops number item = grind arith

pub drop_meets : (script : Script) (past : List Entry) (n : FrameNo) (r : RequestId) (i : ℕ) → IsTrue (list_all (λ c. drop_holds c script past n.0 r.0 i) drop_conditions) ↔ (drop_due script past ≡ Some (Dropped n r i))
drop_meets script past n r i =
    by_test _ _ (drop_bools (is_stopping past) (n.0 == next_number past) (is_first_item (first_in (queued script past)) r.0 i)) (where_tests (is_stopping past) _ _ _ (drop_named past (first_in (queued script past)) n r i))
