-- The bound on device fences, and what becomes of a buffer that came back early.
use Rattle.std.proofs.Common.{◌≡◌, ℕ, ◌==◌, ◌≤◌, true, false, ◌&&◌, List, [], ◌∷◌, Some, refl, sym, ap, ◌∙◌, arith, inl, inr, find}
use Rattle.std.specs.List.{list_any}
use Rattle.std.proofs.lemmas.Bool.{cases_Bool, false≢true, and_parts}
use Rattle.std.proofs.lemmas.Bool.Decides.{nat_tests}
use Rattle.cam_types.specs.Four.{four_list}
use Rattle.cam_types.specs.declared.number.BufferId.{BufferId}
use Rattle.cam_types.specs.declared.number.DeviceFenceNo.{DeviceFenceNo}
use Rattle.cam_types.specs.declared.number.FrameNo.{FrameNo}
use Rattle.cam_types.specs.declared.number.StreamIx.{StreamIx}
use Rattle.cam_types.specs.declared.script.Script.{Script}
use Rattle.trace_model.specs.declared.entry.Entry.{Entry}
use Rattle.trace_model.specs.declared.entry.Entry.TheVariants.{Call, Send, Filled, Failed, Release, Early, Late}
use Rattle.trace_model.specs.declared.entry.Sent.{Sent}
use Rattle.trace_model.specs.Allowed.{IsAllowed}
use Rattle.trace_model.specs.Configuration.{buffers_of}
use Rattle.trace_model.specs.Entry.{is_early, is_early_with, names}
use Rattle.trace_model.specs.Fence.{early_fence_after, early_fence_of, fence_of, is_late, is_same_fence, is_there}
use Rattle.trace_model.specs.Filled.{early_due}
use Rattle.trace_model.specs.Legal.{IsLegal}
use Rattle.trace_model.specs.Numbers.{next_early}
use Rattle.trace_model.specs.Place.{Pool, Device, Client, is_at, last_naming, place, place_after}
use Rattle.trace_model.specs.Send.{takes_from_pool}
use Rattle.trace_model.proofs.LawLemmas.{sends-from-pool}
use Rattle.trace_laws.specs.Bounds.{early_bound}
use Rattle.trace_laws.proofs.Lent.{GivesBack, HeldBefore, ends_and_lent, has, held_lent, lent}
use Rattle.trace_model.specs.Summary.{is_send}
use Rattle.trace_laws.proofs.FrameLemmas.{frames_bounded}
use Rattle.trace_laws.proofs.Printed.{one-of-all}
use Rattle.trace_laws.proofs.Shapes.{early-at-device, early-from-device, filled-from-device, failed-from-device, release-there}
use Rattle.trace_laws.proofs.StreamLemmas.{IsOwn, at-device-own, kept-own}
use Rattle.trace_laws.proofs.Conserved.{place_named}
use Rattle.basic_lemmas.proofs.Lists.{found-passes}
use Rattle.basic_lemmas.proofs.Tests.{or-second, own-number}

-- after an entry other than a send that names it a buffer isn't at the device
device_before : (script : Script) → HeldBefore script is_early (λ p. is_at p Device)
device_before script past e b legal sent named h = absurd (false≢true (sym (elsewhere e sent) ∙ (sym (ap (λ p. is_at p Device) (place_named b e past named)) ∙ h)))
  where
    elsewhere : (e : Entry) → is_send e ≡ false → is_at (place_after (Some e)) Device ≡ false
    elsewhere (Send n r i same targets) sent = absurd (cc)
    elsewhere _ sent = refl

gives_back : (script : Script) → GivesBack script is_early
gives_back script = record { sends = λ n r i same targets. refl; gives = given }
  where
    given : (past : List Entry) (e : Entry) → IsLegal script (e ∷ past) → is_early e ≡ true → (b : ℕ) × (names b e ≡ true) × (has b (lent is_early past) ≡ true)
    given past (Early n s b d) legal h = (b.0, own-number b.0, held_lent script is_early (λ p. is_at p Device) past b.0 refl (device_before script) legal.1 (rw (early-from-device script past n s b d legal.0) refl))
    given past _ legal h = absurd (false≢true h)

pub earlies_bounded : (script : Script) (past : List Entry) → IsLegal script past → next_early past ≤ early_bound script
earlies_bounded script past legal =
    let sum = ends_and_lent script is_early past (gives_back script) legal in
    let few = frames_bounded script past legal in
    omega (arith, sum, few)

-- ---- what came back early and isn't signalled stays with the client

pub record Pending (past : List Entry) (n : FrameNo) (s : StreamIx) (b : BufferId) (f : DeviceFenceNo) : Type 0 where
  pub named : last_naming b.0 past ≡ Some (Early n s b f)
  pub own : IsOwn past s.0 b.0

at-client : (past : List Entry) (n : FrameNo) (s : StreamIx) (b : BufferId) (f : DeviceFenceNo) → Pending past n s b f → place b.0 past ≡ Client
at-client past n s b f p = rw (p.named) refl

out-of-pool : (past : List Entry) (n : FrameNo) (s : StreamIx) (b : BufferId) (f : DeviceFenceNo) → Pending past n s b f → is_at (place b.0 past) Pool ≡ false
out-of-pool past n s b f p = rw (p.named) refl

apart : (past : List Entry) (c b : ℕ) → place c past ≡ Device → place b past ≡ Client → (c == b) ≡ false
apart past c b device client =
    elim (cases_Bool (c == b)) [
      | inl here ↦ (let same : c ≡ b = grind (arith, nat_tests, here) in let device' : place b past ≡ Device = rw same at device in let wrong : Client ≡ Device = sym client ∙ device' in absurd (cc))
      | inr no' ↦ no'
    ]

not-taken : (past : List Entry) (b : ℕ) (t : Sent) → place b past ≡ Client → takes_from_pool past t ≡ true → (t.buffer.0 == b) ≡ true → ⊥
not-taken past b t client takes here =
    let fence = is_same_fence t.fence (fence_of t.buffer.0 past) in
    let home = (and_parts (is_at (place t.buffer.0 past) Pool) fence (and_parts (list_any (λ c. c == t.buffer.0) (buffers_of past t.stream.0)) (is_at (place t.buffer.0 past) Pool && fence) takes).1).0 in
    let same : t.buffer.0 ≡ b = grind (arith, nat_tests, here) in
    let client' : place t.buffer.0 past ≡ Client = rw same client in
    let home' : is_at Client Pool ≡ true = ap (λ p. is_at p Pool) (sym client') ∙ home in
    absurd (false≢true home')

later : (past : List Entry) (e : Entry) (n : FrameNo) (s : StreamIx) (b : BufferId) (f : DeviceFenceNo) → names b.0 e ≡ false → IsOwn (e ∷ past) s.0 b.0 → Pending past n s b f → Pending (e ∷ past) n s b f
later past e n s b f other own p = record { named = rw other (p.named); own = own }

as-new : (script : Script) (past : List Entry) (e : Entry) (n : FrameNo) (s : StreamIx) (b : BufferId) (f : DeviceFenceNo) → e ≡ Early n s b f → IsAllowed script past e → early_due script past n.0 s.0 ≡ Some (Early n s b f)
as-new script past e n s b f is may = rw is at may

new-named : (past : List Entry) (e : Entry) (n : FrameNo) (s : StreamIx) (b : BufferId) (f : DeviceFenceNo) → e ≡ Early n s b f → last_naming b.0 (e ∷ past) ≡ Some (Early n s b f)
new-named past e n s b f is = rw is (now n s b f past)
  where
    now : (n : FrameNo) (s : StreamIx) (b : BufferId) (f : DeviceFenceNo) (past : List Entry) → last_naming b.0 (Early n s b f ∷ past) ≡ Some (Early n s b f)
    now n s b f past = let here : (b.0 == b.0) ≡ true = grind (arith, nat_tests) in rw here refl

there-late : (past : List Entry) (b d : ℕ) (n : FrameNo) (s : StreamIx) (c : BufferId) (f : DeviceFenceNo) → last_naming b past ≡ Some (Early n s c f) → f.0 ≡ d → is_there (early_fence_of b past) past ≡ true → is_late d past ≡ true
there-late past b d n s c f named same h = let h' : is_there (early_fence_after (Some (Early n s c f))) past ≡ true = rw named at h in rw same at h'

pub pending : (script : Script) (past : List Entry) (d : ℕ) (n : FrameNo) (s : StreamIx) (b : BufferId) (f : DeviceFenceNo) → IsLegal script past → find (is_early_with d) past ≡ Some (Early n s b f) → is_late d past ≡ false → Pending past n s b f
pending script [] d n s b f legal found late = absurd (cc)
pending script (Early m t c g ∷ past) d n s b f legal found late =
    elim (cases_Bool (g.0 == d)) [
      | inl here ↦ (
          let found' = rw here at found in
          let same : Early m t c g ≡ Early n s b f = cc in
          let may = as-new script past (Early m t c g) n s b f same legal.0 in
          record {
            named = new-named past (Early m t c g) n s b f same;
            own = at-device-own script past n.0 s.0 b.0 legal.1 (early-at-device script past n s b f may);
          }
          )
      | inr no' ↦ (
          let found' = rw no' at found in
          let p = pending script past d n s b f legal.1 found' late in
          later past (Early m t c g) n s b f (apart past c.0 b.0 (early-from-device script past m t c g legal.0) (at-client past n s b f p)) (p.own) p
          )
    ]
pending script (Send m r i same targets ∷ past) d n s b f legal found late =
    let p = pending script past d n s b f legal.1 found late in
    elim (cases_Bool (names b.0 (Send m r i same targets))) [
      | inl named ↦ absurd (one-of-all ⊥ (takes_from_pool past) (λ t. t.buffer.0 == b.0) (four_list targets) (λ t. not-taken past b.0 t (at-client past n s b f p)) (sends-from-pool script past m.0 r.0 i same targets legal.0) named)
      | inr other ↦ later past (Send m r i same targets) n s b f other (p.own) p
    ]
pending script (Filled m t c g x ∷ past) d n s b f legal found late =
    let p = pending script past d n s b f legal.1 found late in
    later past (Filled m t c g x) n s b f (apart past c.0 b.0 (filled-from-device script past m t c g x legal.0) (at-client past n s b f p)) (p.own) p
pending script (Failed m t c g ∷ past) d n s b f legal found late =
    let p = pending script past d n s b f legal.1 found late in
    later past (Failed m t c g) n s b f (apart past c.0 b.0 (failed-from-device past m t c g legal.0) (at-client past n s b f p)) (p.own) p
pending script (Release c g ∷ past) d n s b f legal found late =
    let p = pending script past d n s b f legal.1 found late in
    elim (cases_Bool (c.0 == b.0)) [
      | inl named ↦ (
          let same : c.0 ≡ b.0 = grind (arith, nat_tests, named) in
          let there = release-there past c g legal.0 in
          let there' : is_there (early_fence_of b.0 past) past ≡ true = rw same at there in
          let given = found-passes (is_early_with d) past (Early n s b f) found in
          let given' : (f.0 == d) ≡ true = given in
          let own' : f.0 ≡ d = grind (arith, nat_tests, given') in
          absurd (false≢true (sym late ∙ there-late past b.0 d n s b f (p.named) own' there'))
          )
      | inr other ↦ later past (Release c g) n s b f other (p.own) p
    ]
pending script (Late g x ∷ past) d n s b f legal found late =
    let p = pending script past d n s b f legal.1 found (or-second (g.0 == d) (is_late d past) late) in
    later past (Late g x) n s b f refl (p.own) p
pending script (Call i w r ∷ past) d n s b f legal found late =
    let p = pending script past d n s b f legal.1 found late in
    later past (Call i w r) n s b f refl (kept-own script past i w r s.0 b.0 legal.0 (out-of-pool past n s b f p) (p.own)) p
pending script (e ∷ past) d n s b f legal found late =
    let p = pending script past d n s b f legal.1 found late in
    later past e n s b f refl (p.own) p
