-- The signal of a device fence that is due, from the rows: of the one whose target waits for it.
use Rattle.std.proofs.Common.{◌≡◌, ℕ, ◌==◌, Bool, true, false, ◌&&◌, ◌||◌, not, List, [], ◌∷◌, Option, Some, None, refl, sym, ap, ◌∙◌, inl, inr, find, is_some, option_map, if◌then◌else◌}
use Rattle.std.specs.List.{list_any, list_all}
use Rattle.std.proofs.lemmas.Bool.{and_parts, both_ways, cases_Bool, eq-eqb, eqb-true, false≢true, or_left}
use Rattle.cam_types.specs.declared.number.BufferId.{BufferId}
use Rattle.cam_types.specs.declared.number.DeviceFenceNo.{DeviceFenceNo}
use Rattle.cam_types.specs.declared.number.FrameNo.{FrameNo}
use Rattle.cam_types.specs.declared.number.StreamIx.{StreamIx}
use Rattle.cam_types.specs.declared.script.Script.{Script}
use Rattle.trace_model.specs.declared.entry.Entry.{Entry}
use Rattle.trace_model.specs.declared.entry.Entry.TheVariants.{Early}
use Rattle.trace_model.specs.declared.entry.Sent.{Sent}
use Rattle.trace_model.specs.Configuration.{streams}
use Rattle.trace_model.specs.Entry.{is_early_with}
use Rattle.trace_model.specs.Fence.{is_late}
use Rattle.trace_model.specs.Filled.{late_of}
use Rattle.trace_model.specs.Frames.{is_sent, targets_of}
use Rattle.trace_model.specs.Legal.{IsLegal}
use Rattle.trace_model.specs.Open.{early_fences, is_settled}
use Rattle.trace_laws.proofs.Early.{Given, given, settled-late}
use Rattle.state_facts.specs.Row.{in_order, is_open_row, open_rows, row_of, target_at}
use Rattle.trace_laws.specs.Settled.{has_fence}
use Rattle.state_facts.specs.FrameReadings.{LateReads, has_pending, is_pending, late_from, late_row, on_row}
use Rattle.state_facts.proofs.Last.{find-one, first-kept}
use Rattle.state_facts.proofs.OpenRows.{closed-done, frame-among}
use Rattle.state_facts.proofs.Order.{any-order, order-sent}
use Rattle.state_facts.proofs.Settled.{fence-given}
use Rattle.basic_lemmas.proofs.Lists.{any-where, any-mapped, find-mapped, found-passes, any-found}
use Rattle.trace_laws.proofs.Settled.{fence-frame}

-- the target of frame m for stream u waits for the device fence
abbrev pub pends : List Entry → ℕ → ℕ → ℕ → Bool
pends past d m u = has_fence d (early_fences m u past) && not (is_settled m u past)

pending-row : (script : Script) (past : List Entry) (d m : ℕ) → has_pending d (row_of script past m) ≡ list_any (λ t. pends past d m t.stream.0) (targets_of m past)
pending-row script past d m = any-mapped (is_pending d) (target_at m past) (targets_of m past)

not-pending : (past : List Entry) (d m : ℕ) (ts : List Sent) → ((u : ℕ) → pends past d m u ≡ false) → list_any (λ t. pends past d m t.stream.0) ts ≡ false
not-pending past d m [] none = refl
not-pending past d m (t ∷ ts) none = rw (none t.stream.0, not-pending past d m ts none) refl

settled-none : (past : List Entry) (d m : ℕ) (ts : List Sent) → list_all (λ t. is_settled m t.stream.0 past) ts ≡ true → list_any (λ t. pends past d m t.stream.0) ts ≡ false
settled-none past d m [] all = refl
settled-none past d m (t ∷ ts) all =
    let parts = and_parts (is_settled m t.stream.0 past) (list_all (λ u. is_settled m u.stream.0 past) ts) all in
    rw (parts.0, settled-none past d m ts parts.1) (never (has_fence d (early_fences m t.stream.0 past)))
  where
    never : (a : Bool) → ((a && false) || false) ≡ false
    never true = refl
    never false = refl

-- the row that waits is the first frame's that does
found-pending : (script : Script) (past : List Entry) (d : ℕ) → IsLegal script past → find (has_pending d) (open_rows script past) ≡ option_map (row_of script past) (find (λ m. has_pending d (row_of script past m)) (in_order past))
found-pending script past d legal =
    first-kept (λ m. is_sent m past) (λ m. has_pending d (row_of script past m)) is_open_row (has_pending d) (row_of script past) (in_order past)
    (λ m sent closed. pending-row script past d m ∙ settled-none past d m (targets_of m past) (closed-done script past m legal sent closed).back) (λ m sent. refl) (order-sent past)

none-pending : (script : Script) (past : List Entry) (d : ℕ) (xs : List ℕ) → ((m u : ℕ) → pends past d m u ≡ false) → find (λ m. has_pending d (row_of script past m)) xs ≡ None
none-pending script past d [] none = refl
none-pending script past d (x ∷ xs) none = rw (pending-row script past d x ∙ not-pending past d x (targets_of x past) (none x)) (none-pending script past d xs none)

no-row : (script : Script) (past : List Entry) (d : ℕ) → IsLegal script past → ((m u : ℕ) → pends past d m u ≡ false) → on_row (late_row (streams script past) d) (find (has_pending d) (open_rows script past)) ≡ None
no-row script past d legal none = rw (found-pending script past d legal, none-pending script past d (in_order past) none) refl

-- what no early return has no target has
ungiven : (past : List Entry) (d m u : ℕ) → find (is_early_with d) past ≡ None → pends past d m u ≡ false
ungiven past d m u none =
    elim (cases_Bool (has_fence d (early_fences m u past))) [
      | inl has ↦ (let some = fence-given m u d past has in let gone : list_any (is_early_with d) past ≡ false = rw (any-found (is_early_with d) past, none) refl in absurd (both_ways (list_any (is_early_with d) past) gone some))
      | inr other ↦ rw other refl
    ]

module _ (script : Script) (past : List Entry) (d : ℕ) (n : FrameNo) (s : StreamIx) (b : BufferId) (f : DeviceFenceNo) (legal : IsLegal script past) (found : find (is_early_with d) past ≡ Some (Early n s b f)) where
  own : f.0 ≡ d
  own = eqb-true f.0 d (found-passes (is_early_with d) past (Early n s b f) found)

  gave : Given past n.0 s.0 f.0
  gave = given script past d n s b f legal found

  settled : is_settled n.0 s.0 past ≡ is_late d past
  settled = settled-late past n.0 s.0 f.0 gave ∙ ap (λ g. is_late g past) own

  has : has_fence d (early_fences n.0 s.0 past) ≡ true
  has = rw (gave.fences) (or_left (d == f.0) false (eq-eqb d f.0 (sym own)))

  -- the target of no other pair has it
  of_pair : (m u : ℕ) → has_fence d (early_fences m u past) ≡ true → ((n.0 == m) && (s.0 == u)) ≡ true
  of_pair m u here = fence-frame script past d n s b f m u legal found here

  late_none : is_late d past ≡ true → (m u : ℕ) → pends past d m u ≡ false
  late_none late m u =
      elim (cases_Bool (has_fence d (early_fences m u past))) [
        | inl here ↦ (
            let parts = and_parts (n.0 == m) (s.0 == u) (of_pair m u here) in
            let now : is_settled m u past ≡ true = rw (← eqb-true n.0 m parts.0, ← eqb-true s.0 u parts.1) (settled ∙ late) in
            rw (here, now) refl
            )
        | inr other ↦ rw other refl
      ]

  pends_now : is_late d past ≡ false → pends past d n.0 s.0 ≡ true
  pends_now open' = rw (has, settled, open') refl

  row_pends : is_late d past ≡ false → has_pending d (row_of script past n.0) ≡ true
  row_pends open' = pending-row script past d n.0 ∙ any-where (λ t. t.stream.0 == s.0) (λ t. pends past d n.0 t.stream.0) (targets_of n.0 past) (λ t at. rw (eqb-true t.stream.0 s.0 at) (pends_now open')) gave.target

  only : (m : ℕ) → has_pending d (row_of script past m) ≡ true → m ≡ n.0
  only m pending = by (targets_of m past) (sym (pending-row script past d m) ∙ pending)
    where
      by : (ts : List Sent) → list_any (λ t. pends past d m t.stream.0) ts ≡ true → m ≡ n.0
      by [] h = absurd (false≢true h)
      by (t ∷ ts) h =
          elim (cases_Bool (pends past d m t.stream.0)) [
            | inl here ↦ (let first = and_parts (has_fence d (early_fences m t.stream.0 past)) (not (is_settled m t.stream.0 past)) here in sym (eqb-true n.0 m (and_parts (n.0 == m) (s.0 == t.stream.0) (of_pair m t.stream.0 first.0)).0))
            | inr other ↦ (let h' = rw other at h in by ts h')
          ]

  pub the_row : is_late d past ≡ false → find (has_pending d) (open_rows script past) ≡ Some (row_of script past n.0)
  the_row open' =
      let one = find-one (λ m. has_pending d (row_of script past m)) n.0 (in_order past) only (any-order (λ m. m == n.0) past ∙ (frame-among n.0 past ∙ gave.sent)) in
      rw (found-pending script past d legal, one, row_pends open') refl

  by_target : (o : Option Sent) → find (λ t. pends past d n.0 t.stream.0) (targets_of n.0 past) ≡ o → is_some o ≡ true → late_of script past d (Some (Early n s b f)) ≡ (if is_late d past then None else late_from (streams script past) d (row_of script past n.0) (option_map (target_at n.0 past) o))
  by_target None at some = absurd (false≢true some)
  by_target (Some t) at some =
      let passes = found-passes (λ t. pends past d n.0 t.stream.0) (targets_of n.0 past) t at in
      let first = and_parts (has_fence d (early_fences n.0 t.stream.0 past)) (not (is_settled n.0 t.stream.0 past)) passes in
      let same : t.stream.0 ≡ s.0 = sym (eqb-true s.0 t.stream.0 (and_parts (n.0 == n.0) (s.0 == t.stream.0) (of_pair n.0 t.stream.0 first.0)).1) in
      rw same refl

  late_now : is_late d past ≡ false → late_of script past d (Some (Early n s b f)) ≡ on_row (late_row (streams script past) d) (find (has_pending d) (open_rows script past))
  late_now open' =
      let ts = targets_of n.0 past in
      let any = sym (any-found (λ t. pends past d n.0 t.stream.0) ts) ∙ (sym (pending-row script past d n.0) ∙ row_pends open') in
      let step = by_target (find (λ t. pends past d n.0 t.stream.0) ts) refl any in
      let step' = rw open' at step in
      rw (the_row open', find-mapped (is_pending d) (target_at n.0 past) ts, open') step'

same_late : (script : Script) (past : List Entry) (d : ℕ) (o : Option Entry) → IsLegal script past → find (is_early_with d) past ≡ o → late_of script past d o ≡ on_row (late_row (streams script past) d) (find (has_pending d) (open_rows script past))
same_late script past d None legal at = sym (no-row script past d legal (λ m u. ungiven past d m u at))
same_late script past d (Some (Early n s b f)) legal at =
    elim (cases_Bool (is_late d past)) [
      | inl late ↦ rw late (sym (no-row script past d legal (late_none script past d n s b f legal at late)))
      | inr open' ↦ late_now script past d n s b f legal at open'
    ]
same_late script past d (Some e) legal at = absurd (false≢true (found-passes (is_early_with d) past e at))

pub late_reads : (script : Script) (past : List Entry) → LateReads script past
late_reads script past legal d = same_late script past d (find (is_early_with d) past) legal refl
