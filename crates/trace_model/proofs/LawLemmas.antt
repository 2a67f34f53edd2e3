-- Lemmas for the laws in `src/laws.rt`.
use Rattle.std.proofs.Common.{◌≡◌, ℕ, ◌==◌, ◌+◌, ◌<◌, ◌≤◌, Bool, true, false, ◌&&◌, ◌||◌, not, List, Option, Some, None, refl, sym, ap, ◌∙◌, arith, find, inl, inr, nat_le}
use Rattle.std.specs.List.{list_any, list_all}
use Rattle.std.proofs.lemmas.Bool.{cases_Bool, false≢true, and_parts}
use Rattle.std.proofs.lemmas.Bool.Decides.{nat_tests}
use Rattle.cam_types.specs.Four.{four_list}
use Rattle.cam_types.specs.declared.four.Four.{Four}
use Rattle.cam_types.specs.declared.number.BufferId.{BufferId}
use Rattle.cam_types.specs.declared.number.FenceNo.{FenceNo}
use Rattle.cam_types.specs.declared.number.FrameNo.{FrameNo}
use Rattle.cam_types.specs.declared.number.StreamIx.{StreamIx}
use Rattle.cam_types.specs.declared.partial_result.PartialResult.{PartialResult}
use Rattle.cam_types.specs.declared.script.Command.{Command}
use Rattle.cam_types.specs.declared.script.Command.TheVariants.{Configure, Once, Burst, Repeat, Stop, Wait, Await, Flush, Close, Disconnect}
use Rattle.cam_types.specs.declared.script.Word.{Word}
use Rattle.cam_types.specs.declared.script.Script.{Script}
use Rattle.trace_model.specs.declared.entry.Entry.{Entry}
use Rattle.trace_model.specs.declared.entry.Entry.TheVariants.{Begin, Send, Partial, Filled, Failed, Release, Early}
use Rattle.trace_model.specs.declared.entry.Sent.{Sent}
use Rattle.trace_model.specs.Allowed.{IsAllowed}
use Rattle.trace_model.specs.Entry.{names}
use Rattle.trace_model.specs.Frames.{frames, each_earlier, has_error_request, shutter_time, target_of}
use Rattle.trace_model.specs.Laws.{returns_buffer}
use Rattle.trace_model.specs.Place.{Pool, Device, place, place_after, is_at, sends_with, is_at_device_by, last_naming}
use Rattle.trace_model.specs.Queue.{next}
use Rattle.cam_types.specs.declared.request.Queued.{Queued}
use Rattle.trace_model.specs.Client.{begin_of}
use Rattle.trace_model.specs.Configuration.{buffers_of}
use Rattle.trace_model.specs.Faults.{request_fault, result_fault}
use Rattle.trace_model.specs.Filled.{filled_due, filled_of, may_deliver}
use Rattle.trace_model.specs.Open.{has_error_result, is_metadata_ended}
use Rattle.trace_model.specs.Partial.{partial_due, partial_of, partial_count, may_have_partial}
use Rattle.trace_model.specs.Fence.{fence_of, is_same_fence}
use Rattle.trace_model.specs.Numbers.{next_number}
use Rattle.trace_model.specs.Printable.{is_filled, is_waiting_word}
use Rattle.trace_model.specs.Release.{release_due}
use Rattle.trace_model.specs.Send.{may_send, may_go, fits_next, is_same_bool, mark_of, takes_from_pool, are_streams, targets_in_order}
use Rattle.trace_model.specs.Shutter.{shutter_due, may_expose}
use Rattle.trace_model.specs.Stopping.{is_stopping}
use Rattle.basic_lemmas.proofs.Lists.{find-none, both-pass, any-never}

-- ---- sends

same-mark : (a b m : Bool) → is_same_bool a m ≡ true → is_same_bool b m ≡ true → a ≡ b
same-mark true true m h k = refl
same-mark true false true h k = absurd (false≢true k)
same-mark true false false h k = absurd (false≢true h)
same-mark false true true h k = absurd (false≢true h)
same-mark false true false h k = absurd (false≢true k)
same-mark false false m h k = refl

-- what it means that an item is sent
pub record Goes (script : Script) (past : List Entry) (w : Queued) (n r i : ℕ) (same : Bool) (targets : Four Sent) : Type 0 where
  pub number : n ≡ next_number past
  pub request : r ≡ w.request.0
  pub index : i ≡ w.index
  pub now : may_go script past w ≡ true
  pub streams : are_streams (four_list targets) (targets_in_order w.item) ≡ true
  pub filled : is_filled targets ≡ true
  pub pool : list_all (takes_from_pool past) (four_list targets) ≡ true
  pub mark : is_same_bool same (mark_of script past w.item.settings) ≡ true

pub goes : (script : Script) (past : List Entry) (w : Queued) (n r i : ℕ) (same : Bool) (targets : Four Sent) → fits_next script past (Some w) n r i same targets ≡ true → Goes script past w n r i same targets
goes script past w n r i same targets h =
    let name = (n == next_number past) && ((r == w.request.0) && (i == w.index)) in
    let pool = is_filled targets && list_all (takes_from_pool past) (four_list targets) in
    let mark = is_same_bool same (mark_of script past w.item.settings) in
    let buffers = are_streams (four_list targets) (targets_in_order w.item) && pool in
    let first = and_parts name (may_go script past w && (buffers && mark)) h in
    let second = and_parts (may_go script past w) (buffers && mark) first.1 in
    let third = and_parts buffers mark second.1 in
    let fourth = and_parts (are_streams (four_list targets) (targets_in_order w.item)) pool third.0 in
    let fifth = and_parts (is_filled targets) (list_all (takes_from_pool past) (four_list targets)) fourth.1 in
    let named : name ≡ true = first.0 in
    record {
      number = grind (arith, nat_tests, named);
      request = grind (arith, nat_tests, named);
      index = grind (arith, nat_tests, named);
      now = second.0;
      streams = fourth.0;
      filled = fifth.0;
      pool = fifth.1;
      mark = third.1;
    }

fits-one : (script : Script) (past : List Entry) (o : Option Queued) (n m r q i j : ℕ) (same mark : Bool) (targets others : Four Sent) → fits_next script past o n r i same targets ≡ true → fits_next script past o m q j mark others ≡ true → (n ≡ m) × (r ≡ q) × (i ≡ j) × (same ≡ mark)
fits-one script past None n m r q i j same mark targets others h k = absurd (false≢true h)
fits-one script past (Some w) n m r q i j same mark targets others h k =
    let a = goes script past w n r i same targets h in
    let b = goes script past w m q j mark others k in (
      a.number ∙ sym b.number,
      a.request ∙ sym b.request,
      a.index ∙ sym b.index,
      same-mark same mark (mark_of script past w.item.settings) a.mark b.mark,
    )

pub one-send : (script : Script) (past : List Entry) (n m r q i j : ℕ) (same mark : Bool) (targets others : Four Sent) → may_send script past n r i same targets ≡ true → may_send script past m q j mark others ≡ true → (n ≡ m) × (r ≡ q) × (i ≡ j) × (same ≡ mark)
one-send script past = fits-one script past (next script past)

-- ---- shutters

no-exposure : (script : Script) (past : List Entry) (n : ℕ) → is_stopping past ≡ true → may_expose script past n ≡ false
no-exposure script past n h = rw h refl

pub no-shutter : (script : Script) (past : List Entry) → is_stopping past ≡ true → shutter_due script past ≡ None
no-shutter script past h =
    let none : find (may_expose script past) (frames past) ≡ None = find-none (may_expose script past) (frames past) (λ n. no-exposure script past n h) in
    rw none refl

-- ---- a buffer at the device

at-device-after : (n s b : ℕ) (o : Option Entry) → sends_with n s b o ≡ true → place_after o ≡ Device
at-device-after n s b None h = absurd (false≢true h)
at-device-after n s b (Some (Send m r i same targets)) h = refl
at-device-after n s b (Some _) h = absurd (false≢true h)

pub at-device : (n s b : ℕ) (past : List Entry) → is_at_device_by n s b past ≡ true → place b past ≡ Device
at-device n s b past h = at-device-after n s b (last_naming b past) h

not-in-pool : (b : ℕ) (past : List Entry) (t : Sent) → place b past ≡ Device → takes_from_pool past t ≡ true → (t.buffer.0 == b) ≡ true → false ≡ true
not-in-pool b past t at h k =
    let named = list_any (λ c. c == t.buffer.0) (buffers_of past t.stream.0) in
    let fence = is_same_fence t.fence (fence_of t.buffer.0 past) in
    let parts = and_parts named (is_at (place t.buffer.0 past) Pool && fence) h in
    let home = and_parts (is_at (place t.buffer.0 past) Pool) fence parts.1 in
    let same : t.buffer.0 ≡ b = grind (arith, nat_tests) in
    let at' : place t.buffer.0 past ≡ Device = rw same at in
    let h' : is_at Device Pool ≡ true = ap (λ p. is_at p Pool) (sym at') ∙ home.0 in
    h'

fits-in-pool : (script : Script) (past : List Entry) (o : Option Queued) (n r i : ℕ) (same : Bool) (targets : Four Sent) → fits_next script past o n r i same targets ≡ true → list_all (takes_from_pool past) (four_list targets) ≡ true
fits-in-pool script past None n r i same targets h = absurd (false≢true h)
fits-in-pool script past (Some w) n r i same targets h = (goes script past w n r i same targets h).pool

pub sends-from-pool : (script : Script) (past : List Entry) (n r i : ℕ) (same : Bool) (targets : Four Sent) → may_send script past n r i same targets ≡ true → list_all (takes_from_pool past) (four_list targets) ≡ true
sends-from-pool script past = fits-in-pool script past (next script past)

not-released : (b : ℕ) (past : List Entry) (e : Entry) → place b past ≡ Device → release_due past b ≡ Some e → ⊥
not-released b past e at h = let none : release_due past b ≡ None = rw at refl in absurd (cc)

pub until-returned : (script : Script) (past : List Entry) (e : Entry) (n s b : ℕ) → is_at_device_by n s b past ≡ true → IsAllowed script past e → names b e ≡ true → returns_buffer b e ≡ true
until-returned script past (Send m r i same targets) n s b at may named =
    let home = sends-from-pool script past m.0 r.0 i same targets may in
    let device = at-device n s b past at in
    let both = both-pass (takes_from_pool past) (λ t. t.buffer.0 == b) (λ _. false) (four_list targets) (λ t h k. not-in-pool b past t device h k) home named in
    absurd (false≢true (sym (any-never {X = Sent} (λ _. false) (four_list targets) (λ _. refl)) ∙ both))
until-returned script past (Filled m t c f d) n s b at may named = named
until-returned script past (Failed m t c f) n s b at may named = named
until-returned script past (Early m t c d) n s b at may named = named
until-returned script past (Release c f) n s b at may named =
    let device = at-device n s b past at in
    let same : c.0 ≡ b = grind (arith, nat_tests) in
    let device' : place c.0 past ≡ Device = rw same device in
    absurd (not-released c.0 past (Release c f) device' may)
until-returned script past _ n s b at may named = absurd (false≢true named)

-- ---- shapes of lines

-- what begins is a word that waits
pub begins-waiting : (past : List Entry) (o : Option Command) (word : Word) → begin_of past o ≡ Some (Begin word) → is_waiting_word word ≡ true
begins-waiting past None word h = absurd (cc)
begins-waiting past (Some (Configure specs)) word h = grind arith
begins-waiting past (Some (Once item)) word h = absurd (cc)
begins-waiting past (Some (Burst items)) word h = absurd (cc)
begins-waiting past (Some (Repeat items)) word h = absurd (cc)
begins-waiting past (Some Stop) word h = absurd (cc)
begins-waiting past (Some Wait) word h = grind arith
begins-waiting past (Some (Await k)) word h = grind arith
begins-waiting past (Some Flush) word h = grind arith
begins-waiting past (Some Close) word h = grind arith
begins-waiting past (Some Disconnect) word h = grind arith

part-shape : (script : Script) (past : List Entry) (m j : ℕ) (o : Option ℕ) (n : FrameNo) (k : ℕ) (part : PartialResult) → partial_of script past m j o ≡ Some (Partial n k part) → (k ≡ j) × (j ≤ 3)
part-shape script past m j None n k part h = absurd (cc)
part-shape script past m j (Some time) n k part h =
    elim (cases_Bool (may_have_partial script past m j)) [
      | inl may ↦ (
          let h' = rw may at h in
          let same : j ≡ k = cc in
          let first = not (has_error_request m past) && (not (has_error_result m past) && not (request_fault script m)) in
          let last = not (j == 3) || (not (result_fault script m) && each_earlier m (λ f. is_metadata_ended f past) past) in
          let parts = and_parts first (nat_le j 3 && last) may in
          let bound = and_parts (nat_le j 3) last parts.1 in
          let bound' : nat_le j 3 ≡ true = bound.0 in
          (sym same, grind (arith, nat_tests, bound'))
          )
      | inr no' ↦ (let h' = rw no' at h in absurd (cc))
    ]

pub parts-shape : (script : Script) (past : List Entry) (n : FrameNo) (k : ℕ) (part : PartialResult) → partial_due script past n.0 ≡ Some (Partial n k part) → (0 < k) × (k ≤ 3)
parts-shape script past n k part h =
    let shape = part-shape script past n.0 (partial_count n.0 past + 1) (shutter_time n.0 past) n k part h in
    (omega (arith, shape.0), omega (arith, shape.0, shape.1))

filled-shape : (script : Script) (past : List Entry) (m t : ℕ) (o : Option Sent) (n : FrameNo) (s : StreamIx) (b : BufferId) (fence : Option FenceNo) (digest : List ℕ) → filled_of script past m t o ≡ Some (Filled n s b fence digest) → fence ≡ None
filled-shape script past m t None n s b fence digest h = absurd (cc)
filled-shape script past m t (Some target) n s b fence digest h =
    elim (cases_Bool (may_deliver script past m t target)) [
      | inl may ↦ (let h' = rw may at h in cc)
      | inr no' ↦ (let h' = rw no' at h in absurd (cc))
    ]

pub filled-has-no-fence : (script : Script) (past : List Entry) (n : FrameNo) (s : StreamIx) (b : BufferId) (fence : Option FenceNo) (digest : List ℕ) → filled_due script past n.0 s.0 ≡ Some (Filled n s b fence digest) → fence ≡ None
filled-has-no-fence script past n s b fence digest h = filled-shape script past n.0 s.0 (target_of n.0 s.0 past) n s b fence digest h
