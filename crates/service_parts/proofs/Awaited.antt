-- A buffer that came back early stays with the client, with its device fence, until the fence is signalled.
use Rattle.std.proofs.Common.{◌≡◌, ℕ, ◌==◌, true, false, ◌&&◌, List, [], ◌∷◌, Option, Some, refl, sym, ap, ◌∙◌, inl, inr, find}
use Rattle.std.specs.List.{list_any}
use Rattle.std.proofs.lemmas.Bool.{and_parts, cases_Bool, eq-eqb, eqb-true, false≢true}
use Rattle.cam_types.specs.declared.number.BufferId.{BufferId}
use Rattle.cam_types.specs.declared.number.DeviceFenceNo.{DeviceFenceNo}
use Rattle.cam_types.specs.declared.number.FrameNo.{FrameNo}
use Rattle.cam_types.specs.declared.number.StreamIx.{StreamIx}
use Rattle.cam_types.specs.declared.script.Script.{Script}
use Rattle.trace_model.specs.declared.entry.Entry.{Entry}
use Rattle.trace_model.specs.declared.entry.Entry.TheVariants.{Early, Send}
use Rattle.trace_model.specs.declared.entry.Sent.{Sent}
use Rattle.trace_model.specs.Allowed.{IsAllowed}
use Rattle.trace_model.specs.Entry.{is_early_with}
use Rattle.trace_model.specs.Fence.{early_fence_after, is_late}
use Rattle.trace_model.specs.Frames.{target_of}
use Rattle.trace_model.specs.Legal.{IsLegal}
use Rattle.trace_model.specs.Open.{early_fences, is_settled}
use Rattle.trace_model.specs.Place.{Client, is_at, place_after}
use Rattle.trace_laws.proofs.EarlyLemmas.{Pending, pending}
use Rattle.trace_laws.proofs.Early.{found-early, given, settled-late}
use Rattle.trace_laws.proofs.Own.{stream-buffer}
use Rattle.trace_laws.proofs.Returns.{early-back}
use Rattle.trace_laws.proofs.BufferSends.{holds, not-the-next, out-target, send-number}
use Rattle.state_facts.specs.Homes.{homes}
use Rattle.state_facts.proofs.BufferReadings.{held_is, late_is, place_is}
use Rattle.trace_laws.specs.Settled.{has_fence}
use Rattle.trace_laws.proofs.Settled.{fence-frame}
use Rattle.state_facts.proofs.Settled.{fence-given}
use Rattle.run_model.specs.Rows.{is_early_return}
use Rattle.service_parts.specs.Facts.{IsAwaited}

-- ---- the buffer is its target's

early-target : (script : Script) (past : List Entry) (e : Entry) (n : FrameNo) (s : StreamIx) (b : BufferId) (f : DeviceFenceNo) → IsLegal script past → e ≡ Early n s b f → IsAllowed script past e → holds b.0 (target_of n.0 s.0 past) ≡ true
early-target script past e n s b f legal is may =
    let may' : IsAllowed script past (Early n s b f) = rw is at may in
    out-target script past n.0 s.0 b.0 legal (early-back script past n s b f may').out

pub found_target : (script : Script) (past : List Entry) (d : ℕ) (n : FrameNo) (s : StreamIx) (b : BufferId) (f : DeviceFenceNo) → IsLegal script past → find (is_early_with d) past ≡ Some (Early n s b f) → holds b.0 (target_of n.0 s.0 past) ≡ true
found_target script [] d n s b f legal found = absurd (cc)
found_target script (Early m t c g ∷ past) d n s b f legal found = elim (cases_Bool (g.0 == d)) [
  | inl here ↦ (
      let found' = rw here at found in
      let same : Early m t c g ≡ Early n s b f = cc in
      early-target script past (Early m t c g) n s b f legal.1 same legal.0
      )
  | inr other ↦ (let found' = rw other at found in found_target script past d n s b f legal.1 found')
]
found_target script (Send m r i same targets ∷ past) d n s b f legal found =
    let ih = found_target script past d n s b f legal.1 found in
    let sent = (given script past d n s b f legal.1 found).sent in
    let apart = not-the-next script past m.0 n.0 legal.1 (send-number script past m.0 r.0 i same targets legal.0) sent in
    rw apart ih
found_target script (e ∷ past) d n s b f legal found = found_target script past d n s b f legal.1 found

-- ---- its device fence

some-fence : (n s : ℕ) (past : List Entry) → list_any (is_early_return n s) past ≡ true → (d : ℕ) × (has_fence d (early_fences n s past) ≡ true)
some-fence n s [] any = absurd (false≢true any)
some-fence n s (Early m t b f ∷ past) any = elim (cases_Bool ((m.0 == n) && (t.0 == s))) [
  | inl own ↦ (let here = eq-eqb f.0 f.0 refl in (f.0, rw (own, here) refl))
  | inr other ↦ (let any' = rw other at any in let ih = some-fence n s past any' in (ih.0, rw other (ih.1)))
]
some-fence n s (e ∷ past) any = some-fence n s past any

-- ---- so the client has it

awaited-by : (script : Script) (past : List Entry) (n : FrameNo) (s : StreamIx) (b : BufferId) (f : DeviceFenceNo) → IsLegal script past → Pending past n s b f → is_late f.0 past ≡ false → IsAwaited (homes past) b.0 f
awaited-by script past n s b f legal p late = record {
  place = ap (λ p. is_at p Client) (sym (place_is script past b.0 legal)) ∙ ap (λ (o : Option Entry). is_at (place_after o) Client) p.named;
  fence = sym (held_is script past b.0 legal (stream-buffer past s.0 b.0 p.own)) ∙ ap (λ (o : Option Entry). early_fence_after o) p.named;
  awaited = sym (late_is script past f.0 legal) ∙ late;
}

pub early_awaited : (script : Script) (past : List Entry) (n s : ℕ) (t : Sent) → IsLegal script past → target_of n s past ≡ Some t → list_any (is_early_return n s) past ≡ true → is_settled n s past ≡ false → (d : DeviceFenceNo) × IsAwaited (homes past) t.buffer.0 d
early_awaited script past n s t legal at early unsettled =
    let has = some-fence n s past early in
    let d : ℕ = has.0 in
    let found = found-early past d (fence-given n s d past has.1) in
    by d found.0 found.1 found.2 found.3 found.4 found.5 (fence-frame script past d found.0 found.1 found.2 found.3 n s legal found.4 has.1)
  where
    by : (d : ℕ) (k : FrameNo) (u : StreamIx) (b : BufferId) (f : DeviceFenceNo) → find (is_early_with d) past ≡ Some (Early k u b f) → f.0 ≡ d → ((k.0 == n) && (u.0 == s)) ≡ true → (g : DeviceFenceNo) × IsAwaited (homes past) t.buffer.0 g
    by d k u b f found same own =
        let parts = and_parts (k.0 == n) (u.0 == s) own in
        let frame' : k.0 ≡ n = eqb-true k.0 n parts.0 in
        let stream : u.0 ≡ s = eqb-true u.0 s parts.1 in
        let open_ : is_settled k.0 u.0 past ≡ false = ap (λ (i : ℕ). is_settled i u.0 past) frame' ∙ (ap (λ (i : ℕ). is_settled n i past) stream ∙ unsettled) in
        let late : is_late f.0 past ≡ false = sym (settled-late past k.0 u.0 f.0 (given script past d k u b f legal found)) ∙ open_ in
        let late' : is_late d past ≡ false = ap (λ (i : ℕ). is_late i past) (sym same) ∙ late in
        let its : holds b.0 (target_of k.0 u.0 past) ≡ true = found_target script past d k u b f legal found in
        let at' : target_of k.0 u.0 past ≡ Some t = ap (λ (i : ℕ). target_of i u.0 past) frame' ∙ (ap (λ (i : ℕ). target_of n i past) stream ∙ at) in
        let buffer : t.buffer.0 ≡ b.0 = eqb-true t.buffer.0 b.0 (sym (ap (λ (o : Option Sent). holds b.0 o) at') ∙ its) in
        (f, rw buffer (awaited-by script past k u b f legal (pending script past d k u b f legal found late') late))
