-- The pictures that the client has after each move are what the move makes of those before it.
use Rattle.std.proofs.Common.{◌≡◌, ℕ, ◌==◌, ◌+◌, ◌-◌, ◌<◌, ◌≤◌, Bool, true, false, List, [], ◌∷◌, Option, Some, None, refl, sym, ap, ◌∙◌, arith, inl, inr, find, map, nat_le, slice_get, if◌then◌else◌}
use Rattle.std.specs.Prelude.{count_by, slice_index_or, slice_set}
use Rattle.std.specs.List.{list_all, list_any}
use Rattle.std.specs.Option.{option_and_then}
use Rattle.std.proofs.lemmas.Bool.{and_parts, cases_Bool, cases_lt, eq-eqb, eqb-true, false≢true, le-leb}
use Rattle.std.proofs.lemmas.Bool.Decides.{nat_tests}
use Rattle.std.proofs.lemmas.List.{get_or_past}
use Rattle.std.proofs.lemmas.List.FromFn.{get_or-map-range_with_len, length-map-range_with_len}
use Rattle.basic_lemmas.proofs.Counts.{some-counted}
use Rattle.basic_lemmas.proofs.Lists.{any-behind, found-any, map-same}
use Rattle.basic_lemmas.proofs.Ranges.{map-all, set-one}
use Rattle.cam_types.specs.Four.{four_list}
use Rattle.cam_types.specs.declared.item.Settings.{Settings}
use Rattle.cam_types.specs.declared.number.BufferId.{BufferId}
use Rattle.cam_types.specs.declared.number.DeviceFenceNo.{DeviceFenceNo}
use Rattle.cam_types.specs.declared.number.FrameNo.{FrameNo}
use Rattle.cam_types.specs.declared.number.StreamIx.{StreamIx}
use Rattle.cam_types.specs.declared.reply.Reply.TheVariants.{Configured}
use Rattle.cam_types.specs.declared.row.RowView.{RowView}
use Rattle.cam_types.specs.declared.row.TargetView.{TargetView}
use Rattle.cam_types.specs.declared.script.Script.{Script}
use Rattle.cam_types.specs.declared.stream.StreamSpec.{StreamSpec}
use Rattle.trace_model.specs.declared.entry.Entry.{Entry}
use Rattle.trace_model.specs.declared.entry.Entry.TheVariants.{Call, Send, Filled, Failed, Release, Early, Late}
use Rattle.trace_model.specs.declared.entry.Sent.{Sent}
use Rattle.trace_model.specs.Configuration.{made, made_count, streams}
use Rattle.trace_model.specs.Entry.{is_early_with, names, returns_target}
use Rattle.trace_model.specs.Fence.{is_late}
use Rattle.trace_model.specs.Frames.{is_sent, settings_of, target_of, targets_of}
use Rattle.trace_model.specs.Legal.{IsLegal}
use Rattle.trace_model.specs.Numbers.{next_early}
use Rattle.trace_model.specs.Open.{early_fences, is_open, is_settled}
use Rattle.trace_model.specs.Place.{Pool, Device, Client, is_at, is_at_device_by, last_naming, place, place_after}
use Rattle.trace_laws.proofs.Shapes.{early-from-device, early-is, failed-from-device, filled-from-device, late-is, release-is}
use Rattle.run_model.specs.declared.step.Move.{Move}
use Rattle.run_model.specs.declared.step.StepName.{StepName}
use Rattle.run_model.specs.declared.step.StepName.TheVariants.{Finish}
use Rattle.run_model.specs.History.{trace_of}
use Rattle.run_model.specs.Rows.{row_of, rows}
use Rattle.run_model.specs.Run.{IsRun}
use Rattle.run_model.proofs.Legal.{runs_legally}
use Rattle.state_facts.specs.Homes.{count_in, first_buffer, numbers, put_all}
use Rattle.state_facts.proofs.Made.{buffer-within}
use Rattle.state_facts.proofs.Own.{at-client, out-own, unnamed}
use Rattle.state_facts.proofs.Ranges.{set-all}
use Rattle.trace_laws.proofs.Early.{given, given-below, open-until-late}
use Rattle.trace_laws.proofs.Once.{out-not-returned, returned-sent, settled-returned}
use Rattle.trace_laws.proofs.Returns.{filled-back}
use Rattle.trace_laws.proofs.BufferSends.{out-sent}
use Rattle.device_rows.specs.Rows.{target_at, target_in}
use Rattle.state_facts.proofs.Accepted.{settings-kept}
use Rattle.trace_laws.specs.Settled.{has_fence}
use Rattle.trace_laws.proofs.Done.{closed-is}
use Rattle.trace_laws.proofs.Frames.{sent-once}
use Rattle.trace_laws.proofs.Printed.{one-of-all}
use Rattle.trace_laws.proofs.Settled.{fence-frame, not-late}
use Rattle.run_rows.proofs.Fours.{view-found}
use Rattle.run_rows.proofs.Jobs.{FinishedBy, move-behind}
use Rattle.service_parts.specs.After.{picture_by, picture_in, pictures_with, showing_target}
use Rattle.service_parts.specs.Moves.{settings_at}
use Rattle.service_parts.specs.Parts.{Parts, parts}
use Rattle.service_parts.specs.Pictures.{client_picture, picture_after, picture_of, picture_on, pictures}
use Rattle.service_parts.proofs.Ends.{with_move}
use Rattle.service_parts.proofs.Lent.{lent-until, same-fence}
use Rattle.run_rows.proofs.Returned.{own-stream}
use Rattle.run_rows.proofs.WorkJobs.{open-found}
use Rattle.state_facts.proofs.BufferSteps.{away-low, targets-low}
use Rattle.state_facts.proofs.BufferReadings.{in-pool}
use Rattle.basic_lemmas.proofs.Tests.{own-number, one-below}

-- ---- the picture of a frame whose buffer came back stays the same

found-also : (p q : Entry → Bool) (past : List Entry) (e : Entry) → find p past ≡ Some e → q e ≡ true → list_any q past ≡ true
found-also p q [] e found is = absurd (cc)
found-also p q (x ∷ past) e found is = elim (cases_Bool (p x)) [
  | inl here ↦ (
      let found' = rw here at found in
      let same : x ≡ e = cc in
      let is' : q x ≡ true = ap q same ∙ is in
      rw is' refl
      )
  | inr no' ↦ (let found' = rw no' at found in any-behind q x past (found-also p q past e found' is))
]

back-sent : (script : Script) (past : List Entry) (b n s : ℕ) (e : Entry) → IsLegal script past → last_naming b past ≡ Some e → returns_target n s e ≡ true → is_sent n past ≡ true
back-sent script past b n s e legal last is = returned-sent script past n s legal (found-also (names b) (returns_target n s) past e last is)

picture-kept : (script : Script) (past : List Entry) (e : Entry) (n s : ℕ) → IsLegal script (e ∷ past) → is_sent n past ≡ true → streams script (e ∷ past) ≡ streams script past → picture_of script (e ∷ past) n s ≡ picture_of script past n s
picture-kept script past e n s legal sent same =
    ap (λ (specs : List StreamSpec). picture_on (slice_get specs s) (settings_of script (e ∷ past) n) n) same
    ∙ ap (λ (x : Settings). picture_on (slice_get (streams script past) s) x n) (settings-kept script past e n legal sent (sent-once script past e n legal.1 legal.0 sent))

-- the entry signals no device fence of a buffer that it doesn't name
abbrev IsSilentOf : List Entry → Entry → ℕ → Type 0
IsSilentOf past e b = (m : FrameNo) (u : StreamIx) (a : BufferId) (g : DeviceFenceNo) → last_naming b past ≡ Some (Early m u a g) → is_late g.0 (e ∷ past) ≡ is_late g.0 past

after-kept : (script : Script) (past : List Entry) (e : Entry) (b : ℕ) (o : Option Entry) → IsLegal script (e ∷ past) → last_naming b past ≡ o → streams script (e ∷ past) ≡ streams script past → IsSilentOf past e b → picture_after script (e ∷ past) o ≡ picture_after script past o
after-kept script past e b (Some (Filled n s c f d)) legal last same silent =
    ap (λ (x : List ℕ). Some x) (picture-kept script past e n.0 s.0 legal (back-sent script past b n.0 s.0 (Filled n s c f d) legal.1 last (own-stream n.0 s.0)) same)
after-kept script past e b (Some (Early n s c d)) legal last same silent =
    by (is_late d.0 (e ∷ past)) (is_late d.0 past) (picture_of script (e ∷ past) n.0 s.0) (picture_of script past n.0 s.0) (silent n s c d last)
    (picture-kept script past e n.0 s.0 legal (back-sent script past b n.0 s.0 (Early n s c d) legal.1 last (own-stream n.0 s.0)) same)
  where
    by : (h k : Bool) (x y : List ℕ) → h ≡ k → x ≡ y → (if h then Some x else None) ≡ (if k then Some y else None)
    by h k x y l r = rw (l, r) refl
after-kept script past e b _ legal last same silent = refl

-- ---- an entry that names one buffer, those of targets, or none

named : (script : Script) (past : List Entry) (e : Entry) (c : ℕ) (v : Option (List ℕ)) → IsLegal script (e ∷ past) → streams script (e ∷ past) ≡ streams script past → ((b : ℕ) → (c == b) ≡ false → IsSilentOf past e b) → first_buffer past ≤ c → ((b : ℕ) → names b e ≡ (c == b)) → picture_after script (e ∷ past) (Some e) ≡ v → map (λ b. client_picture script (e ∷ past) b) (numbers past) ≡ slice_set (pictures script past) (c - first_buffer past) v
named script past e c v legal same silent low h is =
    map-same (λ b. client_picture script (e ∷ past) b) (λ b. if c == b then v else client_picture script past b) (numbers past) each
    ∙ set-one (λ b. client_picture script past b) v c (first_buffer past) (count_in (made past)) low
  where
    each : (b : ℕ) → client_picture script (e ∷ past) b ≡ (if c == b then v else client_picture script past b)
    each b = elim (cases_Bool (c == b)) [
      | inl here ↦ (let own : names b e ≡ true = h b ∙ here in rw (own, here) is)
      | inr other ↦ (let off : names b e ≡ false = h b ∙ other in rw (off, other) (after-kept script past e b (last_naming b past) legal refl same (silent b other)))
    ]

sent-away : (script : Script) (past : List Entry) (e : Entry) (targets : List Sent) → IsLegal script (e ∷ past) → streams script (e ∷ past) ≡ streams script past → ((b : ℕ) → IsSilentOf past e b) → list_all (λ t. nat_le (first_buffer past) t.buffer.0) targets ≡ true → ((b : ℕ) → names b e ≡ list_any (λ t. t.buffer.0 == b) targets) → picture_after script (e ∷ past) (Some e) ≡ None → map (λ b. client_picture script (e ∷ past) b) (numbers past) ≡ put_all (first_buffer past) None targets (pictures script past)
sent-away script past e targets legal same silent low h is =
    map-same (λ b. client_picture script (e ∷ past) b) (λ b. if list_any (λ t. t.buffer.0 == b) targets then None else client_picture script past b) (numbers past) each
    ∙ set-all (λ b. client_picture script past b) None (first_buffer past) (count_in (made past)) targets low
  where
    each : (b : ℕ) → client_picture script (e ∷ past) b ≡ (if list_any (λ t. t.buffer.0 == b) targets then None else client_picture script past b)
    each b = elim (cases_Bool (list_any (λ t. t.buffer.0 == b) targets)) [
      | inl here ↦ (let own : names b e ≡ true = h b ∙ here in rw (own, here) is)
      | inr other ↦ (let off : names b e ≡ false = h b ∙ other in rw (off, other) (after-kept script past e b (last_naming b past) legal refl same (silent b)))
    ]

unnamed-kept : (script : Script) (past : List Entry) (e : Entry) → IsLegal script (e ∷ past) → streams script (e ∷ past) ≡ streams script past → ((b : ℕ) → IsSilentOf past e b) → ((b : ℕ) → names b e ≡ false) → map (λ b. client_picture script (e ∷ past) b) (numbers past) ≡ pictures script past
unnamed-kept script past e legal same silent h = map-same (λ b. client_picture script (e ∷ past) b) (λ b. client_picture script past b) (numbers past) (λ b. rw (h b) (after-kept script past e b (last_naming b past) legal refl same (silent b)))

-- ---- numbers and frames of the buffers that are named

-- a frame with a buffer at the device is open
open-out : (script : Script) (past : List Entry) (n s b : ℕ) (t : Sent) → IsLegal script past → is_at_device_by n s b past ≡ true → target_of n s past ≡ Some t → is_open n past ≡ true
open-out script past n s b t legal out found = elim (cases_Bool (is_open n past)) [
  | inl open_ ↦ open_
  | inr closed ↦ (
      let has = found-any (λ (u : Sent). u.stream.0 == s) (targets_of n past) t found in
      let settled = one-of-all (is_settled n s past ≡ true) (λ (u : Sent). is_settled n u.stream.0 past) (λ (u : Sent). u.stream.0 == s) (targets_of n past) (λ u all here. ap (λ (i : ℕ). is_settled n i past) (sym (eqb-true u.stream.0 s here)) ∙ all) (closed-is past n (out-sent past n s b out) closed).1 has in
      absurd (false≢true (sym (out-not-returned script past n s b legal out) ∙ settled-returned n s past settled))
      )
]

picture-read : (script : Script) (h : List Move) (n s : ℕ) → is_open n (trace_of h) ≡ true → picture_of script (trace_of h) n s ≡ picture_by (parts script h) n s
picture-read script h n s open_ =
    ap (λ (o : Option RowView). picture_on (slice_get (streams script (trace_of h)) s) (settings_at o) n) (sym (open-found script h n open_))

-- ---- the picture of an early return is there

-- the early return with a device fence is of one buffer
same-early : (script : Script) (past : List Entry) (d b : ℕ) (n m : FrameNo) (s t : StreamIx) (c a : BufferId) (f g : DeviceFenceNo) → IsLegal script past → find (is_early_with d) past ≡ Some (Early n s c f) → last_naming b past ≡ Some (Early m t a g) → g.0 ≡ d → c.0 ≡ b
same-early script [] d b n m s t c a f g legal found last fence = absurd (cc)
same-early script (Early k u x h ∷ past) d b n m s t c a f g legal found last fence = elim (cases_Bool (x.0 == b)) [
  | inl here ↦ (
      let last' = rw here at last in
      let same : Early k u x h ≡ Early m t a g = cc in
      let z : h ≡ g = cc in
      let yes' : (h.0 == d) ≡ true = eq-eqb h.0 d (ap (λ (i : DeviceFenceNo). i.0) z ∙ fence) in
      let found' = rw yes' at found in
      let same' : Early k u x h ≡ Early n s c f = cc in
      let y : x ≡ c = cc in
      ap (λ (i : BufferId). i.0) (sym y) ∙ eqb-true x.0 b here
      )
  | inr other ↦ (
      let last' = rw other at last in
      elim (cases_Bool (h.0 == d)) [
        | inl now' ↦ (
            let any = found-also (names b) (is_early_with d) past (Early m t a g) last' (eq-eqb g.0 d fence) in
            let low = one-below (count_by (is_early_with d) past) d (next_early past) (some-counted (is_early_with d) past any) (given-below script past d legal.1) in
            let number = (early-is script past k u x h legal.0).4 in
            let at = eqb-true h.0 d now' in
            absurd (omega (arith, low, number, at))
            )
        | inr no' ↦ (let found' = rw no' at found in same-early script past d b n m s t c a f g legal.1 found' last' fence)
      ]
      )
]
same-early script (Send k r i same targets ∷ past) d b n m s t c a f g legal found last fence = elim (cases_Bool (names b (Send k r i same targets))) [
  | inl here ↦ (let last' = rw here at last in absurd (cc))
  | inr other ↦ (let last' = rw other at last in same-early script past d b n m s t c a f g legal.1 found last' fence)
]
same-early script (Filled k u x h y ∷ past) d b n m s t c a f g legal found last fence = elim (cases_Bool (x.0 == b)) [
  | inl here ↦ (let last' = rw here at last in absurd (cc))
  | inr other ↦ (let last' = rw other at last in same-early script past d b n m s t c a f g legal.1 found last' fence)
]
same-early script (Failed k u x h ∷ past) d b n m s t c a f g legal found last fence = elim (cases_Bool (x.0 == b)) [
  | inl here ↦ (let last' = rw here at last in absurd (cc))
  | inr other ↦ (let last' = rw other at last in same-early script past d b n m s t c a f g legal.1 found last' fence)
]
same-early script (Release x h ∷ past) d b n m s t c a f g legal found last fence = elim (cases_Bool (x.0 == b)) [
  | inl here ↦ (let last' = rw here at last in absurd (cc))
  | inr other ↦ (let last' = rw other at last in same-early script past d b n m s t c a f g legal.1 found last' fence)
]
same-early script (e ∷ past) d b n m s t c a f g legal found last fence = same-early script past d b n m s t c a f g legal.1 found last fence

late-each : (script : Script) (past : List Entry) (d : DeviceFenceNo) (x : List ℕ) (k : FrameNo) (t : StreamIx) (c : BufferId) (f : DeviceFenceNo) → IsLegal script (Late d x ∷ past) → find (is_early_with d.0) past ≡ Some (Early k t c f) → last_naming c.0 past ≡ Some (Early k t c f) → (b : ℕ) → client_picture script (Late d x ∷ past) b ≡ (if c.0 == b then Some (picture_of script past k.0 t.0) else client_picture script past b)
late-each script past d x k t c f legal found last b = elim (cases_Bool (c.0 == b)) [
  | inl here ↦ (
      let at : last_naming b past ≡ Some (Early k t c f) = ap (λ (i : ℕ). last_naming i past) (sym (eqb-true c.0 b here)) ∙ last in
      let yes' : (d.0 == f.0) ≡ true = eq-eqb d.0 f.0 (sym (same-fence past d.0 k t c f found)) in
      let shown : picture_after script (Late d x ∷ past) (Some (Early k t c f)) ≡ Some (picture_of script past k.0 t.0) =
      rw yes' (ap (λ (y : List ℕ). Some y) (picture-kept script past (Late d x) k.0 t.0 legal (back-sent script past c.0 k.0 t.0 (Early k t c f) legal.1 last (own-stream k.0 t.0)) refl)) in
      rw here (ap (λ (o : Option Entry). picture_after script (Late d x ∷ past) o) at ∙ shown)
      )
  | inr other ↦ rw other (after-kept script past (Late d x) b (last_naming b past) legal refl refl (λ m u a g is. rw (silent-at m u a g is other) refl))
]
  where
    silent-at : (m : FrameNo) (u : StreamIx) (a : BufferId) (g : DeviceFenceNo) → last_naming b past ≡ Some (Early m u a g) → (c.0 == b) ≡ false → (d.0 == g.0) ≡ false
    silent-at m u a g is other = elim (cases_Bool (d.0 == g.0)) [
      | inl yes' ↦ (
          let same = same-early script past d.0 b k m t u c a f g legal.1 found is (sym (eqb-true d.0 g.0 yes')) in
          absurd (false≢true (sym other ∙ eq-eqb c.0 b same))
          )
      | inr no' ↦ no'
    ]

shown-target : (script : Script) (h : List Move) (n s : ℕ) (t : Sent) → is_open n (trace_of h) ≡ true → target_of n s (trace_of h) ≡ Some t → slice_set (pictures script (trace_of h)) (t.buffer.0 - first_buffer (trace_of h)) (Some (picture_of script (trace_of h) n s)) ≡ showing_target (parts script h) (target_in n s (rows script h)) (picture_by (parts script h) n s)
shown-target script h n s t open_ found =
    let p = parts script h in
    let stands : target_in n s (rows script h) ≡ target_at s (row_of script h n) = ap (λ (o : Option RowView). option_and_then (target_at s) o) (open-found script h n open_) in
    ap (λ (y : List ℕ). slice_set (pictures script (trace_of h)) (t.buffer.0 - first_buffer (trace_of h)) (Some y)) (picture-read script h n s open_)
    ∙ sym (ap (λ (o : Option TargetView). showing_target p o (picture_by p n s)) (stands ∙ view-found script h n s t found))

same-target : (p : Parts) (n m s u : ℕ) → n ≡ m → s ≡ u → showing_target p (target_in n s p.rows) (picture_by p n s) ≡ showing_target p (target_in m u p.rows) (picture_by p m u)
same-target p n m s u x y = rw (x, y) refl

finished : (script : Script) (h : List Move) (step : StepName) (d : DeviceFenceNo) (x : List ℕ) → IsRun script (with_move step (Late d x) h) → FinishedBy h step d.0 → pictures script (Late d x ∷ trace_of h) ≡ pictures_with (parts script h) step (Late d x)
finished script h (Finish n s) d x run finish =
    let past = trace_of h in
    let legal = runs_legally script (with_move (Finish n s) (Late d x) h) run in
    let is = late-is script past d x legal.0 in
    let k : FrameNo = is.0 in
    let t : StreamIx = is.1 in
    let c : BufferId = is.2 in
    let f : DeviceFenceNo = is.3 in
    let found : find (is_early_with d.0) past ≡ Some (Early k t c f) = is.4 in
    let has : has_fence d.0 (early_fences n.0 s.0 past) ≡ true = ap (λ (fs : List ℕ). has_fence d.0 fs) finish.fences ∙ rw (own-number d.0) refl in
    let own = and_parts (k.0 == n.0) (t.0 == s.0) (fence-frame script past d.0 k t c f n.0 s.0 legal.1 found has) in
    let lent = lent-until script past d.0 k t c f legal.1 found is.5 in
    let out : is_at (place c.0 past) Pool ≡ false = ap (λ (o : Option Entry). is_at (place_after o) Pool) lent.last in
    let low = (buffer-within script past c.0 legal.1 (out-own script past c.0 legal.1 out)).0 in
    let early : is_late f.0 past ≡ false = ap (λ (i : ℕ). is_late i past) (same-fence past d.0 k t c f found) ∙ is.5 in
    let open_ = open-until-late past k.0 t.0 f.0 (given script past d.0 k t c f legal.1 found) early in
    map-same (λ b. client_picture script (Late d x ∷ past) b) (λ b. if c.0 == b then Some (picture_of script past k.0 t.0) else client_picture script past b) (numbers past) (late-each script past d x k t c f legal found lent.last)
    ∙ (set-one (λ b. client_picture script past b) (Some (picture_of script past k.0 t.0)) c.0 (first_buffer past) (count_in (made past)) low
    ∙ (ap (λ (i : BufferId). slice_set (pictures script past) (i.0 - first_buffer past) (Some (picture_of script past k.0 t.0))) (sym lent.buffer)
    ∙ (shown-target script h k.0 t.0 lent.target open_ lent.found
    ∙ same-target (parts script h) k.0 n.0 t.0 s.0 (eqb-true k.0 n.0 own.0) (eqb-true t.0 s.0 own.1))))
finished script h _ d x run by = absurd by

-- ---- each entry

pub pictures_are : (script : Script) (h : List Move) (step : StepName) (e : Entry) → IsRun script (with_move step e h) → pictures script (e ∷ trace_of h) ≡ pictures_with (parts script h) step e
pictures_are script h step (Call i word (Configured each)) run =
    let legal = runs_legally script (with_move step (Call i word (Configured each)) h) run in
    map-all (λ b. client_picture script (Call i word (Configured each) ∷ trace_of h) b) None (made_count (trace_of h)) (count_in (four_list each)) (λ b low. ap (λ (o : Option Entry). picture_after script (Call i word (Configured each) ∷ trace_of h) o) (unnamed script (trace_of h) b legal.1 low))
pictures_are script h step (Call i word r) run =
    unnamed-kept script (trace_of h) (Call i word r) (runs_legally script (with_move step (Call i word r) h) run) refl (λ b m u a g is. refl) (λ b. refl)
pictures_are script h step (Send n r i same targets) run =
    let legal = runs_legally script (with_move step (Send n r i same targets) h) run in
    sent-away script (trace_of h) (Send n r i same targets) (four_list targets) legal refl (λ b m u a g is. refl) (targets-low script (trace_of h) n.0 r.0 i same targets legal.1 legal.0) (λ b. refl) refl
pictures_are script h step (Filled n s c f d) run =
    let past = trace_of h in
    let e : Entry = Filled n s c f d in
    let legal = runs_legally script (with_move step (Filled n s c f d) h) run in
    let back = filled-back script past n s c f d legal.0 in
    let low = away-low script past c.0 Device legal.1 refl (filled-from-device script past n s c f d legal.0) in
    let open_ = open-out script past n.0 s.0 c.0 back.target legal.1 back.out back.found in
    let shown = picture-kept script past (Filled n s c f d) n.0 s.0 legal (out-sent past n.0 s.0 c.0 back.out) refl ∙ picture-read script h n.0 s.0 open_ in
    named script past (Filled n s c f d) c.0 (Some (picture_by (parts script h) n.0 s.0)) legal refl (λ b other m u a g is. refl) low (λ b. refl) (ap (λ (y : List ℕ). Some y) shown)
pictures_are script h step (Failed n s c f) run =
    let past = trace_of h in
    let legal = runs_legally script (with_move step (Failed n s c f) h) run in
    named script past (Failed n s c f) c.0 None legal refl (λ b other m u a g is. refl) (away-low script past c.0 Device legal.1 refl (failed-from-device past n s c f legal.0)) (λ b. refl) refl
pictures_are script h step (Release c f) run =
    let past = trace_of h in
    let legal = runs_legally script (with_move step (Release c f) h) run in
    named script past (Release c f) c.0 None legal refl (λ b other m u a g is. refl) (away-low script past c.0 Client legal.1 refl (at-client (place c.0 past) (release-is past c f legal.0).0)) (λ b. refl) refl
pictures_are script h step (Early n s c d) run =
    let past = trace_of h in
    let legal = runs_legally script (with_move step (Early n s c d) h) run in
    let number = (early-is script past n s c d legal.0).4 in
    let new : is_late d.0 past ≡ false = not-late script past d.0 legal.1 (omega (arith, number)) in
    named script past (Early n s c d) c.0 None legal refl (λ b other m u a g is. refl) (away-low script past c.0 Device legal.1 refl (early-from-device script past n s c d legal.0)) (λ b. refl) (rw new refl)
pictures_are script h step (Late d x) run =
    finished script h step d x run (move-behind script h step (record { step = step; entry = Some (Late d x) }) run.0)
pictures_are script h step e run =
    unnamed-kept script (trace_of h) e (runs_legally script (with_move step e h) run) refl (λ b m u a g is. refl) (λ b. refl)

-- ---- what the client has is read from the parts

pool-after : (script : Script) (past : List Entry) (o : Option Entry) → place_after o ≡ Pool → picture_after script past o ≡ None
pool-after script past (Some (Filled n s c f d)) home = absurd (cc)
pool-after script past (Some (Early n s c d)) home = absurd (cc)
pool-after script past _ home = refl

-- a number that isn't of the configuration shows nothing
other-none : (script : Script) (past : List Entry) (b : ℕ) → IsLegal script past → ((first_buffer past ≤ b) × (b < first_buffer past + count_in (made past)) → ⊥) → client_picture script past b ≡ None
other-none script past b legal other = elim (cases_Bool (is_at (place b past) Pool)) [
  | inl home ↦ pool-after script past (last_naming b past) (in-pool (place b past) home)
  | inr out ↦ absurd (other (buffer-within script past b legal (out-own script past b legal out)))
]

picture_is : (script : Script) (past : List Entry) (b : ℕ) → IsLegal script past → client_picture script past b ≡ (if nat_le (first_buffer past) b then slice_index_or (pictures script past) (b - first_buffer past) None else None)
picture_is script past b legal =
    let first = first_buffer past in
    let count = count_in (made past) in
    elim (cases_lt b first) [
      | inl below ↦ (let low : nat_le first b ≡ false = grind (arith, nat_tests, below) in rw low (other-none script past b legal (λ h. absurd (omega (arith, h.0, below)))))
      | inr low ↦ rw (le-leb first b low) (elim (cases_lt b (first + count)) [
        | inl within ↦ sym (get_or-map-range_with_len (λ c. client_picture script past c) first count (b - first) b None (omega (arith, low, within)) (omega (arith, low)))
        | inr above ↦ other-none script past b legal (λ h. absurd (omega (arith, h.1, above))) ∙ sym (get_or_past (map (λ c. client_picture script past c) (numbers past)) (b - first) None (rw (length-map-range_with_len (λ c. client_picture script past c) first count) (omega (arith, low, above))))
      ])
    ]

pub shown_read : (script : Script) (h : List Move) (b : ℕ) → IsRun script h → client_picture script (trace_of h) b ≡ picture_in (parts script h) b
shown_read script h b run = picture_is script (trace_of h) b (runs_legally script h run)
