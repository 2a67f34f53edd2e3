-- With which buffers the device is done, entry by entry.
use Rattle.std.proofs.Common.{◌≡◌, ℕ, ◌==◌, ◌<◌, Bool, true, false, ◌&&◌, ◌||◌, List, [], ◌∷◌, Some, refl, sym, ◌∙◌, arith, inl, inr, find, ◌≤◌, count_by, nat_lt, if◌then◌else◌}
use Rattle.std.specs.List.{list_any}
use Rattle.std.proofs.lemmas.Bool.{and_parts, cases_Bool, eqb-true, false≢true, or_right, ne_eqb}
use Rattle.std.proofs.lemmas.Bool.Decides.{nat_tests}
use Rattle.cam_types.specs.declared.number.BufferId.{BufferId}
use Rattle.cam_types.specs.declared.number.DeviceFenceNo.{DeviceFenceNo}
use Rattle.cam_types.specs.declared.number.FrameNo.{FrameNo}
use Rattle.cam_types.specs.declared.number.StreamIx.{StreamIx}
use Rattle.cam_types.specs.declared.script.Script.{Script}
use Rattle.trace_model.specs.declared.entry.Entry.{Entry}
use Rattle.trace_model.specs.declared.entry.Entry.TheVariants.{Early, Late, Filled, Failed}
use Rattle.trace_model.specs.Entry.{brings, is_early, is_early_with, is_late_with}
use Rattle.trace_model.specs.Fence.{is_late}
use Rattle.trace_model.specs.Filled.{early_due, late_due}
use Rattle.trace_model.specs.Legal.{IsLegal}
use Rattle.trace_model.specs.Numbers.{next_early}
use Rattle.trace_model.specs.Open.{early_fences, is_settled}
use Rattle.trace_laws.proofs.Shapes.{early-is, late-is}
use Rattle.basic_lemmas.proofs.Counts.{count-one, some-counted}
use Rattle.basic_lemmas.proofs.Lists.{any-behind, any-where, any-or, found-any}
use Rattle.trace_laws.proofs.Early.{given-below}
use Rattle.basic_lemmas.proofs.Tests.{or-again, one-below}
use Rattle.trace_laws.specs.Settled.{has_fence, gives, settles}

pub late-low : (script : Script) (past : List Entry) (d : DeviceFenceNo) (x : List ℕ) → IsLegal script past → late_due script past d.0 ≡ Some (Late d x) → d.0 < next_early past
late-low script past d x legal may =
    let is = late-is script past d x may in
    let any = found-any (is_early_with d.0) past (Early is.0 is.1 is.2 is.3) is.4 in
    one-below (count_by (is_early_with d.0) past) d.0 (next_early past) (some-counted (is_early_with d.0) past any) (given-below script past d.0 legal)

-- a device fence that wasn't given isn't signalled
pub not-late : (script : Script) (past : List Entry) (d : ℕ) → IsLegal script past → next_early past ≤ d → is_late d past ≡ false
not-late script [] d legal above = refl
not-late script (Early n s b g ∷ past) d legal above =
    let more = count-one is_early (Early n s b g) past refl in
    not-late script past d legal.1 (omega (arith, above, more))
not-late script (Late g x ∷ past) d legal above =
    let low = late-low script past g x legal.1 legal.0 in
    rw (ne_eqb g.0 d (λ at. absurd (omega (arith, low, above, at)))) (not-late script past d legal.1 above)
not-late script (e ∷ past) d legal above = not-late script past d legal.1 above

pub fences-more : (p : ℕ → Bool) (n s : ℕ) (e : Entry) (past : List Entry) → list_any p (early_fences n s past) ≡ true → list_any p (early_fences n s (e ∷ past)) ≡ true
fences-more p n s (Early m t b d) past h =
    elim (cases_Bool ((m.0 == n) && (t.0 == s))) [
      | inl own ↦ rw own (or_right (p d.0) (list_any p (early_fences n s past)) h)
      | inr other ↦ rw other h
    ]
fences-more p n s e past h = h

pub settled-stays : (n s : ℕ) (e : Entry) (past : List Entry) → is_settled n s past ≡ true → is_settled n s (e ∷ past) ≡ true
settled-stays n s e past h =
    elim (cases_Bool (list_any (brings n s) past)) [
      | inl back ↦ or-left (list_any (brings n s) (e ∷ past)) (list_any (λ d. is_late d (e ∷ past)) (early_fences n s (e ∷ past))) (any-behind (brings n s) e past back)
      | inr no' ↦ (
          let h' : list_any (λ d. is_late d past) (early_fences n s past) ≡ true = rw no' at h in
          let more = any-where (λ d. is_late d past) (λ d. is_late d (e ∷ past)) (early_fences n s past) (λ d late. any-behind (is_late_with d) e past late) h' in
          or_right (list_any (brings n s) (e ∷ past)) (list_any (λ d. is_late d (e ∷ past)) (early_fences n s (e ∷ past))) (fences-more (λ d. is_late d (e ∷ past)) n s e past more)
          )
    ]
  where
    or-left : (a b : Bool) → a ≡ true → (a || b) ≡ true
    or-left true b h = refl
    or-left false b h = absurd (false≢true h)

pub settled-early : (script : Script) (past : List Entry) (n : FrameNo) (s : StreamIx) (b : BufferId) (d : DeviceFenceNo) (m u : ℕ) → IsLegal script past → early_due script past n.0 s.0 ≡ Some (Early n s b d) → is_settled m u (Early n s b d ∷ past) ≡ is_settled m u past
settled-early script past n s b d m u legal may =
    let number = (early-is script past n s b d may).4 in
    let new : is_late d.0 past ≡ false = not-late script past d.0 legal (omega (arith, number)) in
    elim (cases_Bool ((n.0 == m) && (s.0 == u))) [
      | inl own ↦ rw (own, new) refl
      | inr other ↦ rw other refl
    ]

pub settled-signalled : (g : DeviceFenceNo) (x : List ℕ) (past : List Entry) (m u : ℕ) → is_settled m u (Late g x ∷ past) ≡ (has_fence g.0 (early_fences m u past) || is_settled m u past)
settled-signalled g x past m u =
    rw (any-or (λ d. g.0 == d) (λ d. is_late d past) (early_fences m u past)) (turned (list_any (brings m u) past) (has_fence g.0 (early_fences m u past)) (list_any (λ d. is_late d past) (early_fences m u past)))
  where
    turned : (a b c : Bool) → (a || (b || c)) ≡ (b || (a || c))
    turned true true c = refl
    turned true false c = refl
    turned false b c = refl

pub fences-low : (script : Script) (past : List Entry) (g m u : ℕ) → IsLegal script past → has_fence g (early_fences m u past) ≡ true → g < next_early past
fences-low script [] g m u legal h = absurd (false≢true h)
fences-low script (Early k t c d ∷ past) g m u legal h =
    let number = (early-is script past k t c d legal.0).4 in
    let next = count-one is_early (Early k t c d) past refl in
    elim (cases_Bool ((k.0 == m) && (t.0 == u))) [
      | inl own ↦ (
          let h' = rw own at h in
          elim (cases_Bool (g == d.0)) [
            | inl here ↦ (let same = eqb-true g d.0 here in omega (arith, same, number, next))
            | inr no' ↦ (let h'' = rw no' at h' in let ih = fences-low script past g m u legal.1 h'' in omega (arith, ih, next))
          ]
          )
      | inr other ↦ (let h' = rw other at h in let ih = fences-low script past g m u legal.1 h' in omega (arith, ih, next))
    ]
fences-low script (e ∷ past) g m u legal h = fences-low script past g m u legal.1 h

-- the early return with a device fence is of the frame and stream that have it
pub fence-frame : (script : Script) (past : List Entry) (g : ℕ) (n : FrameNo) (s : StreamIx) (b : BufferId) (f : DeviceFenceNo) (m u : ℕ) → IsLegal script past → find (is_early_with g) past ≡ Some (Early n s b f) → has_fence g (early_fences m u past) ≡ true → ((n.0 == m) && (s.0 == u)) ≡ true
fence-frame script [] g n s b f m u legal found h = absurd (false≢true h)
fence-frame script (Early k t c d ∷ past) g n s b f m u legal found h =
    let number = (early-is script past k t c d legal.0).4 in
    elim (cases_Bool (d.0 == g)) [
      | inl here ↦ (
          let found' = rw here at found in
          let same : Early k t c d ≡ Early n s b f = cc in
          let parts = early-parts k n t s c b d f same in
          elim (cases_Bool ((k.0 == m) && (t.0 == u))) [
            | inl own ↦ rw (← parts.0, ← parts.1) own
            | inr other ↦ (
                let h' = rw other at h in
                let low = fences-low script past g m u legal.1 h' in
                let at = eqb-true d.0 g here in
                absurd (omega (arith, low, at, number))
                )
          ]
          )
      | inr no' ↦ (
          let found' = rw no' at found in
          let no'' : (g == d.0) ≡ false = turn g d.0 no' in
          elim (cases_Bool ((k.0 == m) && (t.0 == u))) [
            | inl own ↦ (let h' = rw (own, no'') at h in fence-frame script past g n s b f m u legal.1 found' h')
            | inr other ↦ (let h' = rw other at h in fence-frame script past g n s b f m u legal.1 found' h')
          ]
          )
    ]
  where
    early-parts : (k n : FrameNo) (t s : StreamIx) (c b : BufferId) (d f : DeviceFenceNo) → Early k t c d ≡ Early n s b f → (k ≡ n) × (t ≡ s)
    early-parts k n t s c b d f h = (cc, cc)

    turn : (g d : ℕ) → (d == g) ≡ false → (g == d) ≡ false
    turn g d h = grind (arith, nat_tests, h)
fence-frame script (e ∷ past) g n s b f m u legal found h = fence-frame script past g n s b f m u legal.1 found h

pub not-its : (script : Script) (past : List Entry) (g : ℕ) (n : FrameNo) (s : StreamIx) (b : BufferId) (f : DeviceFenceNo) (m u : ℕ) → IsLegal script past → find (is_early_with g) past ≡ Some (Early n s b f) → (n.0 == m) ≡ false → has_fence g (early_fences m u past) ≡ false
not-its script past g n s b f m u legal found other =
    elim (cases_Bool (has_fence g (early_fences m u past))) [
      | inl has ↦ (let own = (and_parts (n.0 == m) (s.0 == u) (fence-frame script past g n s b f m u legal found has)).0 in absurd (false≢true (sym other ∙ own)))
      | inr no' ↦ no'
    ]

pub given-noted : (e : Entry) (past : List Entry) (n s : ℕ) → early_fences n s (e ∷ past) ≡ gives n s e (early_fences n s past)
given-noted (Early m t b d) past n s = refl
given-noted _ past n s = refl

pub settled-noted : (script : Script) (past : List Entry) (e : Entry) (n s : ℕ) → IsLegal script (e ∷ past) → is_settled n s (e ∷ past) ≡ (settles n s e (early_fences n s past) || is_settled n s past)
settled-noted script past (Early m t b d) n s legal = settled-early script past m t b d n s legal.1 legal.0
settled-noted script past (Late d x) n s legal = settled-signalled d x past n s
settled-noted script past (Filled m t b f d) n s legal = or-again (brings n s (Filled m t b f d)) (list_any (brings n s) past) (list_any (λ d. is_late d past) (early_fences n s past))
settled-noted script past (Failed m t b f) n s legal = or-again (brings n s (Failed m t b f)) (list_any (brings n s) past) (list_any (λ d. is_late d past) (early_fences n s past))
settled-noted script past _ n s legal = refl
