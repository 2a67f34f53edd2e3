-- A buffer that came back early is the client's, with its device fence, until the fence is signalled.
use Rattle.std.proofs.Common.{◌≡◌, ℕ, ◌==◌, true, false, ◌&&◌, List, [], ◌∷◌, Some, refl, sym, ap, ◌∙◌, inl, inr, find}
use Rattle.std.specs.List.{list_all, list_any}
use Rattle.std.proofs.lemmas.Bool.{and_parts, cases_Bool, eqb-true, false≢true, or_parts}
use Rattle.cam_types.specs.Four.{four_list}
use Rattle.cam_types.specs.declared.number.BufferId.{BufferId}
use Rattle.cam_types.specs.declared.number.DeviceFenceNo.{DeviceFenceNo}
use Rattle.cam_types.specs.declared.number.FrameNo.{FrameNo}
use Rattle.cam_types.specs.declared.number.StreamIx.{StreamIx}
use Rattle.cam_types.specs.declared.script.Script.{Script}
use Rattle.trace_model.specs.declared.entry.Entry.{Entry}
use Rattle.trace_model.specs.declared.entry.Entry.TheVariants.{Send, Filled, Failed, Release, Early, Late}
use Rattle.trace_model.specs.declared.entry.Sent.{Sent}
use Rattle.trace_model.specs.Configuration.{buffers_of, is_buffer}
use Rattle.trace_model.specs.Entry.{is_early_with, names}
use Rattle.trace_model.specs.Fence.{early_fence_after, early_fence_of, fence_of, is_late, is_same_fence, is_there}
use Rattle.trace_model.specs.Frames.{target_of}
use Rattle.trace_model.specs.Legal.{IsLegal}
use Rattle.trace_model.specs.Place.{Pool, Device, Client, is_at, last_naming, place, place_after}
use Rattle.trace_model.specs.Send.{takes_from_pool}
use Rattle.trace_model.proofs.LawLemmas.{sends-from-pool}
use Rattle.trace_laws.proofs.Shapes.{early-from-device, early-is, failed-from-device, filled-from-device, release-there}
use Rattle.trace_laws.proofs.Early.{given}
use Rattle.trace_laws.proofs.BufferSends.{not-the-next, send-number}
use Rattle.state_facts.specs.Homes.{held_in, homes}
use Rattle.state_facts.proofs.Own.{out-own}
use Rattle.state_facts.proofs.BufferReadings.{held_is}
use Rattle.basic_lemmas.proofs.Lists.{found-passes}
use Rattle.basic_lemmas.proofs.Tests.{own-number}

-- the last entry of the buffer is its early return, and it is the target with which the frame was sent
pub record Lent (past : List Entry) (n : FrameNo) (s : StreamIx) (b : BufferId) (f : DeviceFenceNo) : Type 0 where
  pub last : last_naming b.0 past ≡ Some (Early n s b f)
  pub target : Sent
  pub found : target_of n.0 s.0 past ≡ Some target
  pub buffer : target.buffer ≡ b

-- ---- what the client has is neither at the device nor in the pool

not-device : (past : List Entry) (c b : BufferId) (n : FrameNo) (s : StreamIx) (f : DeviceFenceNo) → last_naming b.0 past ≡ Some (Early n s b f) → place c.0 past ≡ Device → (c.0 == b.0) ≡ false
not-device past c b n s f last at = elim (cases_Bool (c.0 == b.0)) [
  | inl here ↦ (
      let same : c.0 ≡ b.0 = eqb-true c.0 b.0 here in
      let at' : place b.0 past ≡ Device = rw same at at in
      let wrong : Client ≡ Device = sym (ap place_after last) ∙ at' in
      absurd (cc)
      )
  | inr other ↦ other
]

not-taken : (past : List Entry) (b : BufferId) (n : FrameNo) (s : StreamIx) (f : DeviceFenceNo) (ts : List Sent) → last_naming b.0 past ≡ Some (Early n s b f) → list_all (takes_from_pool past) ts ≡ true → list_any (λ t. t.buffer.0 == b.0) ts ≡ false
not-taken past b n s f [] last all = refl
not-taken past b n s f (t ∷ ts) last all =
    let parts = and_parts (takes_from_pool past t) (list_all (takes_from_pool past) ts) all in
    elim (cases_Bool (t.buffer.0 == b.0)) [
      | inl here ↦ (
          let same : t.buffer.0 ≡ b.0 = eqb-true t.buffer.0 b.0 here in
          let both = and_parts (list_any (λ c. c == t.buffer.0) (buffers_of past t.stream.0)) (is_at (place t.buffer.0 past) Pool && is_same_fence t.fence (fence_of t.buffer.0 past)) parts.0 in
          let home = (and_parts (is_at (place t.buffer.0 past) Pool) (is_same_fence t.fence (fence_of t.buffer.0 past)) both.1).0 in
          let home' : is_at (place b.0 past) Pool ≡ true = rw same at home in
          let wrong : false ≡ true = sym (ap (λ o. is_at (place_after o) Pool) last) ∙ home' in
          absurd (false≢true wrong)
          )
      | inr other ↦ rw other (not-taken past b n s f ts last parts.1)
    ]

-- nor is it released
not-released : (past : List Entry) (c b : BufferId) (n : FrameNo) (s : StreamIx) (f : DeviceFenceNo) → last_naming b.0 past ≡ Some (Early n s b f) → is_late f.0 past ≡ false → is_there (early_fence_of c.0 past) past ≡ true → (c.0 == b.0) ≡ false
not-released past c b n s f last early there = elim (cases_Bool (c.0 == b.0)) [
  | inl here ↦ (
      let same : c.0 ≡ b.0 = eqb-true c.0 b.0 here in
      let there' : is_there (early_fence_of b.0 past) past ≡ true = rw same at there in
      let late : is_late f.0 past ≡ true = sym (ap (λ o. is_there (early_fence_after o) past) last) ∙ there' in
      absurd (false≢true (sym early ∙ late))
      )
  | inr other ↦ other
]

-- ---- so it stays

early-self : (past : List Entry) (m : FrameNo) (t : StreamIx) (c : BufferId) (g : DeviceFenceNo) (u : Sent) → target_of m.0 t.0 past ≡ Some u → u.buffer ≡ c → Lent (Early m t c g ∷ past) m t c g
early-self past m t c g u at same = record { last = rw (own-number c.0) refl; target = u; found = at; buffer = same }

as-found : (past : List Entry) (e : Entry) (m n : FrameNo) (t s : StreamIx) (c b : BufferId) (g f : DeviceFenceNo) → Early m t c g ≡ Early n s b f → Lent (e ∷ past) m t c g → Lent (e ∷ past) n s b f
as-found past e m n t s c b g f same lent =
    let a : m ≡ n = cc in
    let x : t ≡ s = cc in
    let y : c ≡ b = cc in
    let z : g ≡ f = cc in
    rw (a, x, y, z) at lent

still-lent : (past : List Entry) (e : Entry) (n : FrameNo) (s : StreamIx) (b : BufferId) (f : DeviceFenceNo) → Lent past n s b f → names b.0 e ≡ false → target_of n.0 s.0 (e ∷ past) ≡ target_of n.0 s.0 past → Lent (e ∷ past) n s b f
still-lent past e n s b f lent other same = record { last = rw other (lent.last); target = lent.target; found = same ∙ lent.found; buffer = lent.buffer }

pub same-fence : (past : List Entry) (d : ℕ) (n : FrameNo) (s : StreamIx) (b : BufferId) (f : DeviceFenceNo) → find (is_early_with d) past ≡ Some (Early n s b f) → f.0 ≡ d
same-fence past d n s b f found = eqb-true f.0 d (found-passes (is_early_with d) past (Early n s b f) found)

pub lent-until : (script : Script) (past : List Entry) (d : ℕ) (n : FrameNo) (s : StreamIx) (b : BufferId) (f : DeviceFenceNo) → IsLegal script past → find (is_early_with d) past ≡ Some (Early n s b f) → is_late d past ≡ false → Lent past n s b f
lent-until script [] d n s b f legal found early = absurd (cc)
lent-until script (Early m t c g ∷ past) d n s b f legal found early = elim (cases_Bool (g.0 == d)) [
  | inl here ↦ (
      let found' = rw here at found in
      let same : Early m t c g ≡ Early n s b f = cc in
      let is = early-is script past m t c g legal.0 in
      as-found past (Early m t c g) m n t s c b g f same (early-self past m t c g is.0 is.1 is.3)
      )
  | inr no' ↦ (
      let found' = rw no' at found in
      let lent = lent-until script past d n s b f legal.1 found' early in
      still-lent past (Early m t c g) n s b f lent (not-device past c b n s f lent.last (early-from-device script past m t c g legal.0)) refl
      )
]
lent-until script (Filled m t c g x ∷ past) d n s b f legal found early =
    let lent = lent-until script past d n s b f legal.1 found early in
    still-lent past (Filled m t c g x) n s b f lent (not-device past c b n s f lent.last (filled-from-device script past m t c g x legal.0)) refl
lent-until script (Failed m t c g ∷ past) d n s b f legal found early =
    let lent = lent-until script past d n s b f legal.1 found early in
    still-lent past (Failed m t c g) n s b f lent (not-device past c b n s f lent.last (failed-from-device past m t c g legal.0)) refl
lent-until script (Release c g ∷ past) d n s b f legal found early =
    let lent = lent-until script past d n s b f legal.1 found early in
    let early' : is_late f.0 past ≡ false = rw (same-fence past d n s b f found) early in
    still-lent past (Release c g) n s b f lent (not-released past c b n s f lent.last early' (release-there past c g legal.0)) refl
lent-until script (Send m r i same targets ∷ past) d n s b f legal found early =
    let lent = lent-until script past d n s b f legal.1 found early in
    let sent = (given script past d n s b f legal.1 found).sent in
    let apart = not-the-next script past m.0 n.0 legal.1 (send-number script past m.0 r.0 i same targets legal.0) sent in
    still-lent past (Send m r i same targets) n s b f lent (not-taken past b n s f (four_list targets) lent.last (sends-from-pool script past m.0 r.0 i same targets legal.0)) (rw apart refl)
lent-until script (Late g x ∷ past) d n s b f legal found early =
    let parts = or_parts (g.0 == d) (is_late d past) early in
    still-lent past (Late g x) n s b f (lent-until script past d n s b f legal.1 found parts.1) refl refl
lent-until script (e ∷ past) d n s b f legal found early =
    still-lent past e n s b f (lent-until script past d n s b f legal.1 found early) refl refl

-- ---- and its device fence is read from the buffers

pub lent-held : (script : Script) (past : List Entry) (n : FrameNo) (s : StreamIx) (b : BufferId) (f : DeviceFenceNo) → IsLegal script past → Lent past n s b f → held_in (homes past) b.0 ≡ Some f
lent-held script past n s b f legal lent =
    let out : is_at (place b.0 past) Pool ≡ false = ap (λ o. is_at (place_after o) Pool) lent.last in
    let own : is_buffer past b.0 ≡ true = out-own script past b.0 legal out in
    sym (held_is script past b.0 legal own) ∙ ap early_fence_after lent.last
