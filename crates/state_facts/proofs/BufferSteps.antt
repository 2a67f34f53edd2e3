-- The state after an entry is what the entry makes of the state before it.
use Rattle.std.proofs.Common.{◌≡◌, ℕ, ◌==◌, ◌+◌, ◌-◌, ◌≤◌, Bool, true, false, List, ◌∷◌, Option, Some, None, refl, ap, ◌∙◌, inl, inr, map, length, nat_le, if◌then◌else◌}
use Rattle.std.specs.Prelude.{slice_set, replicate}
use Rattle.std.specs.List.{list_any, list_all, range_with_len}
use Rattle.std.proofs.lemmas.Bool.{cases_Bool, le-leb}
use Rattle.std.proofs.lemmas.List.FromFn.{length-map-range_with_len}
use Rattle.cam_types.specs.Four.{four_list}
use Rattle.cam_types.specs.declared.four.Four.{Four}
use Rattle.cam_types.specs.declared.number.DeviceFenceNo.{DeviceFenceNo}
use Rattle.cam_types.specs.declared.number.FenceNo.{FenceNo}
use Rattle.cam_types.specs.declared.reply.Made.{Made}
use Rattle.cam_types.specs.declared.reply.Reply.TheVariants.{Configured}
use Rattle.cam_types.specs.declared.script.Script.{Script}
use Rattle.trace_model.specs.declared.entry.Entry.{Entry}
use Rattle.trace_model.specs.declared.entry.Entry.TheVariants.{Call, Send, Filled, Failed, Release, Signal, Early, Late}
use Rattle.trace_model.specs.declared.entry.Sent.{Sent}
use Rattle.trace_model.specs.Configuration.{is_buffer, made, made_count}
use Rattle.trace_model.specs.Entry.{names}
use Rattle.trace_model.specs.Fence.{early_fence_after, early_fence_of, fence_after, fence_of}
use Rattle.trace_model.specs.Legal.{IsLegal}
use Rattle.trace_model.specs.Place.{Place, Pool, Device, Client, is_at, last_naming, place, place_after}
use Rattle.trace_model.specs.Send.{may_send}
use Rattle.trace_model.proofs.LawLemmas.{at-device}
use Rattle.trace_laws.proofs.Shapes.{early-from-device, filled-from-device, release-is}
use Rattle.trace_laws.proofs.Returns.{failed-back}
use Rattle.state_facts.specs.Homes.{Homes, count_in, first_buffer, homes, homes_after, numbers, put_all}
use Rattle.state_facts.proofs.Made.{buffer-within, next-buffer}
use Rattle.state_facts.proofs.Own.{at-client, out-own, targets-own, unnamed}
use Rattle.basic_lemmas.proofs.Ranges.{map-all, set-one}
use Rattle.state_facts.proofs.Ranges.{set-all}
use Rattle.state_facts.proofs.Signals.{marks-given, marks-late, marks-released, marks-signalled}
use Rattle.basic_lemmas.proofs.Lists.{all-where, map-same}

same-homes : (ms : List Made) (a b : ℕ) (p q : List Place) (f g : List (Option FenceNo)) (s t : List Bool) (h k : List (Option DeviceFenceNo)) (l m : List Bool) → a ≡ b → p ≡ q → f ≡ g → s ≡ t → h ≡ k → l ≡ m → ◌≡◌ {A = Homes} (record { made = ms; first = a; places = p; fences = f; signalled = s; held = h; late = l }) (record { made = ms; first = b; places = q; fences = g; signalled = t; held = k; late = m })
same-homes ms a b p q f g s t h k l m w x y z u v = rw (w, x, y, z, u, v) refl

-- ---- what is read from the last entry that names a buffer

module _ {X : Type 0} (f : Option Entry → X) where
  abbrev of_last : List Entry → ℕ → X
  of_last past b = f (last_naming b past)

  after : (b : ℕ) (e : Entry) (past : List Entry) → of_last (e ∷ past) b ≡ (if names b e then f (Some e) else of_last past b)
  after b e past = elim (cases_Bool (names b e)) [ inl named ↦ rw named refl | inr other ↦ rw other refl ]

  one-named : (past : List Entry) (e : Entry) (c a n : ℕ) → a ≤ c → ((b : ℕ) → names b e ≡ (c == b)) → map (of_last (e ∷ past)) (range_with_len a n) ≡ slice_set (map (of_last past) (range_with_len a n)) (c - a) (f (Some e))
  one-named past e c a n low h =
      map-same (of_last (e ∷ past)) (λ b. if c == b then f (Some e) else of_last past b) (range_with_len a n) (λ b. after b e past ∙ ap (λ t. if t then f (Some e) else of_last past b) (h b))
      ∙ set-one (of_last past) (f (Some e)) c a n low

  all-named : (past : List Entry) (e : Entry) (targets : List Sent) (a n : ℕ) → list_all (λ t. nat_le a t.buffer.0) targets ≡ true → ((b : ℕ) → names b e ≡ list_any (λ t. t.buffer.0 == b) targets) → map (of_last (e ∷ past)) (range_with_len a n) ≡ put_all a (f (Some e)) targets (map (of_last past) (range_with_len a n))
  all-named past e targets a n low h =
      map-same (of_last (e ∷ past)) (λ b. if list_any (λ t. t.buffer.0 == b) targets then f (Some e) else of_last past b) (range_with_len a n) (λ b. after b e past ∙ ap (λ t. if t then f (Some e) else of_last past b) (h b))
      ∙ set-all (of_last past) (f (Some e)) a n targets low

  none-named : (script : Script) (past : List Entry) (n : ℕ) → IsLegal script past → map (of_last past) (range_with_len (made_count past) n) ≡ replicate n (f None)
  none-named script past n legal = map-all (of_last past) (f None) (made_count past) n (λ b low. ap f (unnamed script past b legal low))

-- ---- that a buffer's number isn't below the first

pub away-low : (script : Script) (past : List Entry) (b : ℕ) (p : Place) → IsLegal script past → is_at p Pool ≡ false → place b past ≡ p → first_buffer past ≤ b
away-low script past b p legal away at = (buffer-within script past b legal (out-own script past b legal (rw at away))).0

pub targets-low : (script : Script) (past : List Entry) (n r i : ℕ) (same : Bool) (targets : Four Sent) → IsLegal script past → may_send script past n r i same targets ≡ true → list_all (λ t. nat_le (first_buffer past) t.buffer.0) (four_list targets) ≡ true
targets-low script past n r i same targets legal may =
    all-where (λ t. is_buffer past t.buffer.0) (λ t. nat_le (first_buffer past) t.buffer.0) (four_list targets) (λ t own. le-leb (first_buffer past) t.buffer.0 (buffer-within script past t.buffer.0 legal own).0) (targets-own script past n r i same targets may)

-- ---- each entry

next-first : (past : List Entry) → made_count past ≡ first_buffer past + length (map (λ b. place b past) (numbers past))
next-first past = rw (length-map-range_with_len (λ b. place b past) (first_buffer past) (count_in (made past))) (next-buffer past)

moved : (past : List Entry) (e : Entry) (c : ℕ) → first_buffer past ≤ c → ((b : ℕ) → names b e ≡ (c == b)) → (map (λ b. place b (e ∷ past)) (numbers past) ≡ slice_set (map (λ b. place b past) (numbers past)) (c - first_buffer past) (place_after (Some e))) × (map (λ b. fence_of b (e ∷ past)) (numbers past) ≡ slice_set (map (λ b. fence_of b past) (numbers past)) (c - first_buffer past) (fence_after (Some e))) × (map (λ b. early_fence_of b (e ∷ past)) (numbers past) ≡ slice_set (map (λ b. early_fence_of b past) (numbers past)) (c - first_buffer past) (early_fence_after (Some e)))
moved past e c low h = (one-named place_after past e c (first_buffer past) (count_in (made past)) low h, one-named fence_after past e c (first_buffer past) (count_in (made past)) low h, one-named early_fence_after past e c (first_buffer past) (count_in (made past)) low h)

pub noted_is : (script : Script) (past : List Entry) (e : Entry) → IsLegal script (e ∷ past) → homes (e ∷ past) ≡ homes_after e (homes past)
noted_is script past (Call i word (Configured each)) legal =
    same-homes _ _ _ _ _ _ _ _ _ _ _ _ _ (next-first past) (none-named place_after script past (count_in (four_list each)) legal.1) (none-named fence_after script past (count_in (four_list each)) legal.1) refl (none-named early_fence_after script past (count_in (four_list each)) legal.1) refl
noted_is script past (Call i word _) legal = refl
noted_is script past (Send n r i same targets) legal =
    let low = targets-low script past n.0 r.0 i same targets legal.1 legal.0 in
    same-homes _ _ _ _ _ _ _ _ _ _ _ _ _ refl
    (all-named place_after past (Send n r i same targets) (four_list targets) (first_buffer past) (count_in (made past)) low (λ b. refl))
    (all-named fence_after past (Send n r i same targets) (four_list targets) (first_buffer past) (count_in (made past)) low (λ b. refl)) refl
    (all-named early_fence_after past (Send n r i same targets) (four_list targets) (first_buffer past) (count_in (made past)) low (λ b. refl)) refl
noted_is script past (Filled n s c f d) legal =
    let low = away-low script past c.0 Device legal.1 refl (filled-from-device script past n s c f d legal.0) in
    let both = moved past (Filled n s c f d) c.0 low (λ b. refl) in
    same-homes _ _ _ _ _ _ _ _ _ _ _ _ _ refl both.0 both.1 refl both.2 refl
noted_is script past (Failed n s c f) legal =
    let low = away-low script past c.0 Device legal.1 refl (at-device n.0 s.0 c.0 past (failed-back past n s c f legal.0).out) in
    let both = moved past (Failed n s c f) c.0 low (λ b. refl) in
    same-homes _ _ _ _ _ _ _ _ _ _ _ _ _ refl both.0 both.1 refl both.2 refl
noted_is script past (Release c f) legal =
    let low = away-low script past c.0 Client legal.1 refl (at-client (place c.0 past) (release-is past c f legal.0).0) in
    let both = moved past (Release c f) c.0 low (λ b. refl) in
    same-homes _ _ _ _ _ _ _ _ _ _ _ _ _ refl both.0 both.1 (marks-released script past c f legal.1) both.2 refl
noted_is script past (Signal f) legal =
    same-homes _ _ _ _ _ _ _ _ _ _ _ _ _ refl refl refl (marks-signalled past f) refl refl
noted_is script past (Early n s c d) legal =
    let low = away-low script past c.0 Device legal.1 refl (early-from-device script past n s c d legal.0) in
    let both = moved past (Early n s c d) c.0 low (λ b. refl) in
    same-homes _ _ _ _ _ _ _ _ _ _ _ _ _ refl both.0 both.1 refl both.2 (marks-given script past n s c d legal.1)
noted_is script past (Late d x) legal =
    same-homes _ _ _ _ _ _ _ _ _ _ _ _ _ refl refl refl refl refl (marks-late past d x)
noted_is script past _ legal = refl
