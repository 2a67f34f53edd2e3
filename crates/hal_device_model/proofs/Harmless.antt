-- The events of the device break none of the rules.
use Rattle.std.proofs.Common.{◌≡◌, ℕ, ◌==◌, Bool, true, false, ◌&&◌, ◌||◌, not, nat_lt, nat_le, if◌then◌else◌, List, [], ◌∷◌, find, Option, Some, None, refl, ap, ◌∙◌, inl, inr}
use Rattle.std.specs.List.{list_any}
use Rattle.std.proofs.lemmas.Bool.{and_parts, cases_Bool, eqb-true, false≢true}
use Rattle.hal_device_model.specs.Log.{acquire_fence_of, fence_from, fence_in}
use Rattle.hal_device_model.proofs.Fits.{is_target}
use Rattle.hal_device_model.specs.Law.{breaks_one}
use Rattle.hal_model.specs.Callbacks.{astray, has_own_fence, is_fence_of, is_for, is_some_listed, is_wrongly_fenced}
use Rattle.hal_model.specs.Words.{is_absent, ends_close, has_notice, has_shutter, is_back, is_begun, is_done, is_error_result, is_failed, is_live, is_number, is_part, is_refused, stands, targets_of}
use Rattle.hal_model.specs.declared.event.HalEvent.{HalEvent}
use Rattle.hal_model.specs.declared.event.HalEvent.TheVariants.{Shutter, ErrorRequest, ErrorResult, ErrorBuffer, ErrorDevice, Results}
use Rattle.hal_model.specs.declared.event.HalFence.{HalFence}
use Rattle.hal_model.specs.declared.event.HalFence.TheVariants.{Absent as NoFence}
use Rattle.hal_model.specs.declared.event.HalTarget.{HalTarget}
use Rattle.hal_model.specs.declared.event.Pack.TheVariants.{Entries}
use Rattle.hal_model.specs.declared.event.Returned.{Returned}
use Rattle.hal_model.specs.declared.event.Status.{Status}
use Rattle.hal_model.specs.declared.event.Status.TheVariants.{Filled as Okay, Failed as Faulty}
use Rattle.hal_model.specs.Hal.{gives_back}
use Rattle.basic_lemmas.proofs.Tests.{own-number, or-neither, equal-turned}

-- ---- tests

off : (l x : Bool) → x ≡ false → (l && x) ≡ false
off true x h = h
off false x h = refl

off-where : (l x : Bool) → (l ≡ true → x ≡ false) → (l && x) ≡ false
off-where true x h = h refl
off-where false x h = refl

-- a live request isn't refused
unrefused : (n : ℕ) (past : List HalEvent) → is_live 3 n past ≡ true → is_refused n past ≡ false
unrefused n past h =
    let rest = (and_parts (is_begun n past) (not (is_refused n past) && not (is_done 3 n past)) h).1 in
    by (is_refused n past) refl (and_parts (not (is_refused n past)) (not (is_done 3 n past)) rest).0
  where
    by : (b : Bool) → is_refused n past ≡ b → not b ≡ true → is_refused n past ≡ false
    by true is g = absurd (false≢true g)
    by false is g = is

-- ---- callbacks without a buffer

pub harmless_shutter : (n time : ℕ) (past : List HalEvent) → has_shutter n past ≡ false → is_failed n past ≡ false → list_any ends_close past ≡ false → breaks_one (Shutter n time) past ≡ false
harmless_shutter n time past dark sound going =
    or-neither (is_live 3 n past && has_shutter n past) _ (off (is_live 3 n past) (has_shutter n past) dark)
    (or-neither (is_live 3 n past && is_failed n past) _ (off (is_live 3 n past) (is_failed n past) sound)
    (or-neither (list_any ends_close past) false going refl))

pub harmless_part : (n k : ℕ) (past : List HalEvent) → (nat_lt 0 k && nat_le k 3) ≡ true → stands n (is_part n k) past ≡ false → is_failed n past ≡ false → list_any ends_close past ≡ false → breaks_one (Results n k Entries [] false) past ≡ false
harmless_part n k past number fresh sound going =
    let l = is_live 3 n past in
    let q = nat_lt 0 k && nat_le k 3 in
    or-neither (not q) _ (rw number refl)
    (or-neither (l && (q && stands n (is_part n k) past)) _ (off l (q && stands n (is_part n k) past) (off q (stands n (is_part n k) past) fresh))
    (or-neither (l && is_failed n past) _ (off l (is_failed n past) sound)
    (or-neither (l && false) _ (off l false refl)
    (or-neither (l && false) _ (off l false refl)
    (or-neither (l && false) _ (off l false refl)
    (or-neither (list_any ends_close past) false going refl))))))

pub harmless_request_error : (n : ℕ) (past : List HalEvent) → is_failed n past ≡ false → list_any ends_close past ≡ false → breaks_one (ErrorRequest n) past ≡ false
harmless_request_error n past sound going =
    let l = is_live 3 n past in
    or-neither (l && is_failed n past) _ (off l (is_failed n past) sound)
    (or-neither (list_any ends_close past) false going refl)

pub harmless_result_error : (n : ℕ) (past : List HalEvent) → is_failed n past ≡ false → stands n (is_error_result n) past ≡ false → list_any ends_close past ≡ false → breaks_one (ErrorResult n) past ≡ false
harmless_result_error n past sound untold going =
    let l = is_live 3 n past in
    or-neither (l && stands n (is_error_result n) past) _ (off l (stands n (is_error_result n) past) untold)
    (or-neither (l && is_failed n past) _ (off l (is_failed n past) sound)
    (or-neither (list_any ends_close past) false going refl))

pub harmless_device_error : (past : List HalEvent) → list_any ends_close past ≡ false → breaks_one ErrorDevice past ≡ false
harmless_device_error past going = or-neither (list_any ends_close past) false going refl

-- ---- buffers

abbrev returned : ℕ → ℕ → Status → HalFence → Returned
returned s b status fence = record { stream = Some s; buffer = Some b; status = status; release = fence; acquire = false }

some-for : (s b : ℕ) (targets : List HalTarget) → list_any (is_target s b) targets ≡ true → list_any (is_for (Some s)) targets ≡ true
some-for s b [] h = absurd (false≢true h)
some-for s b (x ∷ targets) h =
    elim (cases_Bool (x.stream == s)) [
      | inl here ↦ rw here refl
      | inr other ↦ rw other (some-for s b targets (rw other at h))
    ]

pub harmless_buffer_error : (n s b : ℕ) (past : List HalEvent) → (is_refused n past ≡ false → list_any (is_target s b) (targets_of n past) ≡ true) → has_notice n (Some s) past ≡ false → is_failed n past ≡ false → list_any ends_close past ≡ false → breaks_one (ErrorBuffer n (Some s)) past ≡ false
harmless_buffer_error n s b past named untold sound going =
    let l = is_live 3 n past in
    let own = list_any (is_for (Some s)) (targets_of n past) in
    or-neither (l && (own && has_notice n (Some s) past)) _ (off l (own && has_notice n (Some s) past) (off own (has_notice n (Some s) past) untold))
    (or-neither (l && is_failed n past) _ (off l (is_failed n past) sound)
    (or-neither (l && not own) _ (off-where l (not own) (λ live. rw (some-for s b (targets_of n past) (named (unrefused n past live))) refl))
    (or-neither (list_any ends_close past) false going refl)))

-- the target is at the device
at-device : (s b n : ℕ) (past : List HalEvent) (targets : List HalTarget) → list_any (is_target s b) targets ≡ true → is_back n b past ≡ false → list_any (λ t. (is_number t.stream (Some s) && is_number t.buffer (Some b)) && not (is_back n t.buffer past)) targets ≡ true
at-device s b n past [] h out = absurd (false≢true h)
at-device s b n past (x ∷ targets) h out =
    elim (cases_Bool (is_target s b x)) [
      | inl here ↦ (
          let parts = and_parts (x.stream == s) (x.buffer == b) here in
          let stream : (s == x.stream) ≡ true = equal-turned s x.stream ∙ parts.0 in
          let buffer : (b == x.buffer) ≡ true = equal-turned b x.buffer ∙ parts.1 in
          let is : x.buffer ≡ b = eqb-true x.buffer b parts.1 in
          let out' : is_back n x.buffer past ≡ false = ap (λ (i : ℕ). is_back n i past) is ∙ out in
          rw (stream, buffer, out') refl
          )
      | inr other ↦ (
          let h' = rw other at h in
          let rest = at-device s b n past targets h' out in
          by ((is_number x.stream (Some s) && is_number x.buffer (Some b)) && not (is_back n x.buffer past)) rest
          )
    ]
  where
    by : (p : Bool) → list_any (λ (t : HalTarget). (is_number t.stream (Some s) && is_number t.buffer (Some b)) && not (is_back n t.buffer past)) targets ≡ true → (p || list_any (λ (t : HalTarget). (is_number t.stream (Some s) && is_number t.buffer (Some b)) && not (is_back n t.buffer past)) targets) ≡ true
    by true rest = refl
    by false rest = rest

pub harmless_good : (n s b : ℕ) (past : List HalEvent) → (is_refused n past ≡ false → list_any (is_target s b) (targets_of n past) ≡ true) → is_back n b past ≡ false → has_notice n (Some s) past ≡ false → is_failed n past ≡ false → list_any ends_close past ≡ false → breaks_one (gives_back n s b Okay NoFence) past ≡ false
harmless_good n s b past named out untold sound going =
    let l = is_live 3 n past in
    let astray' = is_some_listed (astray n past [] (returned s b Okay NoFence ∷ [])) in
    or-neither (l && astray') _ (off-where l astray' (λ live. rw (at-device s b n past (targets_of n past) (named (unrefused n past live)) out) refl))
    (or-neither (l && ((is_failed n past || has_notice n (Some s) past) || false)) _ (off l ((is_failed n past || has_notice n (Some s) past) || false) (rw (sound, untold) refl))
    (or-neither (l && false) _ (off l false refl)
    (or-neither (list_any ends_close past) false going refl)))

-- ---- the fence of a failed buffer

own-fence : (fence : Option ℕ) → is_fence_of (fence_from fence) fence ≡ true
own-fence (Some f) = own-number f
own-fence None = refl

-- it is none, or that of the target
fenced : (b : ℕ) (targets : List HalTarget) → (o : Option HalTarget) → find (λ t. t.buffer == b) targets ≡ o → (is_absent (fence_in o) || list_any (λ t. is_number t.buffer (Some b) && is_fence_of (fence_in o) t.fence) targets) ≡ true
fenced b targets None at = refl
fenced b targets (Some t) at = by (is_absent (fence_from t.fence)) (found targets at)
  where
    by : (x : Bool) → list_any (λ u. is_number u.buffer (Some b) && is_fence_of (fence_from t.fence) u.fence) targets ≡ true → (x || list_any (λ u. is_number u.buffer (Some b) && is_fence_of (fence_from t.fence) u.fence) targets) ≡ true
    by true h = refl
    by false h = h

    found : (us : List HalTarget) → find (λ u. u.buffer == b) us ≡ Some t → list_any (λ u. is_number u.buffer (Some b) && is_fence_of (fence_from t.fence) u.fence) us ≡ true
    found [] h = absurd (cc)
    found (u ∷ us) h =
        elim (cases_Bool (u.buffer == b)) [
          | inl here ↦ (
              let h' = rw here at h in
              let is : u ≡ t = cc in
              let number : (b == u.buffer) ≡ true = equal-turned b u.buffer ∙ here in
              let own : is_fence_of (fence_from t.fence) u.fence ≡ true = ap (λ (x : HalTarget). is_fence_of (fence_from t.fence) x.fence) is ∙ own-fence t.fence in
              rw (number, own) refl
              )
          | inr other ↦ (
              let h' = rw other at h in
              more (is_number u.buffer (Some b) && is_fence_of (fence_from t.fence) u.fence) (found us h')
              )
        ]
      where
        more : (x : Bool) → list_any (λ v. is_number v.buffer (Some b) && is_fence_of (fence_from t.fence) v.fence) us ≡ true → (x || list_any (λ v. is_number v.buffer (Some b) && is_fence_of (fence_from t.fence) v.fence) us) ≡ true
        more true g = refl
        more false g = g

pub harmless_failed : (n s b : ℕ) (past : List HalEvent) (waits : Bool) → (is_refused n past ≡ false → list_any (is_target s b) (targets_of n past) ≡ true) → is_back n b past ≡ false → list_any ends_close past ≡ false → breaks_one (gives_back n s b Faulty (if waits then acquire_fence_of n b past else NoFence)) past ≡ false
harmless_failed n s b past waits named out going =
    let l = is_live 3 n past in
    let r = returned s b Faulty (if waits then acquire_fence_of n b past else NoFence) in
    let astray' = is_some_listed (astray n past [] (r ∷ [])) in
    or-neither (l && astray') _ (off-where l astray' (λ live. rw (at-device s b n past (targets_of n past) (named (unrefused n past live)) out) refl))
    (or-neither (l && false) _ (off l false refl)
    (or-neither (l && (is_wrongly_fenced n past r || false)) _ (off l (is_wrongly_fenced n past r || false) (by-fence waits))
    (or-neither (list_any ends_close past) false going refl)))
  where
    turn : (x y : Bool) → (x || y) ≡ true → ((not x && not y) || false) ≡ false
    turn true y h = refl
    turn false true h = refl
    turn false false h = absurd (false≢true h)

    by-fence : (w : Bool) → (is_wrongly_fenced n past (returned s b Faulty (if w then acquire_fence_of n b past else NoFence)) || false) ≡ false
    by-fence true = turn (is_absent (acquire_fence_of n b past)) (has_own_fence n past (returned s b Faulty (acquire_fence_of n b past))) (fenced b (targets_of n past) (find (λ t. t.buffer == b) (targets_of n past)) refl)
    by-fence false = refl
