-- The send that is due, and those that are allowed.
use Rattle.std.proofs.Common.{◌≡◌, ℕ, suc, ◌==◌, ◌≤◌, Bool, true, false, ◌&&◌, List, [], ◌∷◌, Option, Some, None, refl, sym, ap, arith, inl, inr, find, length, take}
use Rattle.std.specs.List.{list_all, list_any}
use Rattle.std.proofs.lemmas.Bool.{and_from, and_parts, cases_Bool, eq-eqb, false≢true}
use Rattle.cam_types.specs.Four.{four_list, four_of}
use Rattle.cam_types.specs.declared.number.FenceNo.{FenceNo}
use Rattle.cam_types.specs.declared.script.Script.{Script}
use Rattle.trace_model.specs.declared.entry.Entry.{Entry}
use Rattle.trace_model.specs.declared.entry.Entry.TheVariants.{Send as SendEntry}
use Rattle.trace_model.specs.declared.entry.Sent.{Sent}
use Rattle.trace_model.specs.Allowed.{IsAllowed}
use Rattle.trace_model.specs.Configuration.{buffers_of}
use Rattle.trace_model.specs.Fence.{fence_of, is_same_fence}
use Rattle.trace_model.specs.Numbers.{next_number}
use Rattle.trace_model.specs.Place.{Pool, is_at, place}
use Rattle.trace_model.specs.Printable.{is_filled}
use Rattle.trace_model.specs.Queue.{next}
use Rattle.cam_types.specs.declared.request.Queued.{Queued}
use Rattle.trace_model.specs.Send.{are_streams, fits_next, is_same_bool, least_in_pool, least_target, least_targets, mark_of, may_go, send_due, send_next, send_with, takes_from_pool, target_with, targets_in_order, with_target}
use Rattle.basic_lemmas.proofs.Lists.{found-passes, found-listed}
use Rattle.basic_lemmas.proofs.Counts.{filter-short}
use Rattle.std.proofs.Common.{is_some}
use Rattle.std.proofs.lemmas.Bool.{eqb-true}
use Rattle.basic_lemmas.proofs.Lists.{any-at}
use Rattle.cam_types.specs.declared.four.Four.{Four}
use Rattle.trace_model.specs.Send.{fits_next}
use Rattle.trace_model.proofs.LawLemmas.{goes}
use Rattle.trace_laws.specs.SendLaws.{AllowsWhatIsDue, IsDueWhereAllowed}

-- ---- what is due is allowed

same_fence : (o : Option FenceNo) → is_same_fence o o ≡ true
same_fence None = refl
same_fence (Some f) = eq-eqb f.0 f.0 refl

pub same_bool : (b : Bool) → is_same_bool b b ≡ true
same_bool true = refl
same_bool false = refl

of_same : {X : Type 0} (P : X → Type 0) (u t : X) → u ≡ t → P u → P t
of_same P u t same p = rw same at p

target_of_pool : (past : List Entry) (s : ℕ) (o : Option ℕ) (t : Sent) → least_in_pool past s ≡ o → target_with past s o ≡ Some t → (t.stream.0 ≡ s) × (takes_from_pool past t ≡ true)
target_of_pool past s None t at h = absurd (cc)
target_of_pool past s (Some b) t at h =
    let same : record { stream = record { 0 = s }; buffer = record { 0 = b }; fence = fence_of b past } ≡ t = cc in
    let passes = found-passes (λ c. is_at (place c past) Pool) (buffers_of past s) b at in
    let among = found-listed (λ c. is_at (place c past) Pool) (buffers_of past s) b at in
    let u : Sent = record { stream = record { 0 = s }; buffer = record { 0 = b }; fence = fence_of b past } in
    let takes : takes_from_pool past u ≡ true = rw (among, passes, same_fence (fence_of b past)) refl in
    (ap (λ (z : Sent). z.stream.0) (sym same), of_same (λ v. takes_from_pool past v ≡ true) u t same takes)

abbrev pub AreTargets : List Entry → List ℕ → List Sent → Type 0
AreTargets past streams ts = (are_streams ts streams ≡ true) × (list_all (takes_from_pool past) ts ≡ true) × (length ts ≡ length streams)

with_more : (past : List Entry) (s : ℕ) (streams : List ℕ) (o : Option Sent) (rest : Option (List Sent)) (ts : List Sent) → least_target past s ≡ o → ((us : List Sent) → rest ≡ Some us → AreTargets past streams us) → with_target o rest ≡ Some ts → AreTargets past (s ∷ streams) ts
with_more past s streams None rest ts at ih h = absurd (cc)
with_more past s streams (Some t) None ts at ih h = absurd (cc)
with_more past s streams (Some t) (Some us) ts at ih h =
    let all = ih us refl in
    let own = target_of_pool past s (least_in_pool past s) t refl at in
    let same : t ∷ us ≡ ts = cc in
    let it : AreTargets past (s ∷ streams) (t ∷ us) = (
      and_from (t.stream.0 == s) (are_streams us streams) (eq-eqb t.stream.0 s own.0) all.0,
      and_from (takes_from_pool past t) (list_all (takes_from_pool past) us) own.1 all.1,
      ap suc all.2,
    ) in
    of_same (AreTargets past (s ∷ streams)) (t ∷ us) ts same it

pub least_are : (past : List Entry) (streams : List ℕ) (ts : List Sent) → least_targets past streams ≡ Some ts → AreTargets past streams ts
least_are past [] ts h = let same : [] ≡ ts = cc in rw (← same) (refl, refl, refl)
least_are past (s ∷ streams) ts h = with_more past s streams (least_target past s) (least_targets past streams) ts refl (λ us k. least_are past streams us k) h

pub four_list_of : {T : Type 0} (xs : List T) → length xs ≤ 4 → four_list (four_of xs) ≡ xs
four_list_of [] few = refl
four_list_of (a ∷ []) few = refl
four_list_of (a ∷ (b ∷ [])) few = refl
four_list_of (a ∷ (b ∷ (c ∷ []))) few = refl
four_list_of (a ∷ (b ∷ (c ∷ (d ∷ [])))) few = refl
four_list_of (a ∷ (b ∷ (c ∷ (d ∷ (e ∷ xs))))) few = absurd (omega (arith, few))

pub four_filled : {T : Type 0} (xs : List T) → is_filled (four_of xs) ≡ true
four_filled [] = refl
four_filled (a ∷ []) = refl
four_filled (a ∷ (b ∷ [])) = refl
four_filled (a ∷ (b ∷ (c ∷ []))) = refl
four_filled (a ∷ (b ∷ (c ∷ (d ∷ xs)))) = refl

send_fits : (script : Script) (past : List Entry) (w : Queued) (ts : List Sent) → may_go script past w ≡ true → AreTargets past (targets_in_order w.item) ts → fits_next script past (Some w) (next_number past) w.request.0 w.index (mark_of script past w.item.settings) (four_of ts) ≡ true
send_fits script past w ts may are =
    let short = filter-short (λ s. list_any (λ t. t == s) (take w.item.targets.count w.item.targets.list)) (0 ∷ (1 ∷ (2 ∷ (3 ∷ [])))) in
    let long = are.2 in
    let few : length ts ≤ 4 = omega (arith, long, short) in
    let list = four_list_of ts few in
    rw (list, eq-eqb (next_number past) (next_number past) refl, eq-eqb w.request.0 w.request.0 refl, eq-eqb w.index w.index refl, may, are.0, are.1, four_filled ts, same_bool (mark_of script past w.item.settings)) refl

sends_with_targets : (script : Script) (past : List Entry) (w : Queued) (o : Option (List Sent)) (e : Entry) → next script past ≡ Some w → may_go script past w ≡ true → least_targets past (targets_in_order w.item) ≡ o → send_with script past w o ≡ Some e → IsAllowed script past e
sends_with_targets script past w None e at may found h = absurd (cc)
sends_with_targets script past w (Some ts) e at may found h =
    let same : SendEntry (record { 0 = next_number past }) (w.request) w.index (mark_of script past w.item.settings) (four_of ts) ≡ e = cc in
    let fits = send_fits script past w ts may (least_are past (targets_in_order w.item) ts found) in
    let it : IsAllowed script past (SendEntry (record { 0 = next_number past }) (w.request) w.index (mark_of script past w.item.settings) (four_of ts)) = rw at fits in
    of_same (IsAllowed script past) (SendEntry (record { 0 = next_number past }) (w.request) w.index (mark_of script past w.item.settings) (four_of ts)) e same it

send_of_next : (script : Script) (past : List Entry) (o : Option Queued) (e : Entry) → next script past ≡ o → send_next script past o ≡ Some e → IsAllowed script past e
send_of_next script past None e at h = absurd (cc)
send_of_next script past (Some w) e at h =
    elim (cases_Bool (may_go script past w)) [
      | inl may ↦ (let h' = rw may at h in sends_with_targets script past w (least_targets past (targets_in_order w.item)) e at may refl h')
      | inr no' ↦ (let h' = rw no' at h in absurd (cc))
    ]

pub send-allowed : (script : Script) (past : List Entry) (e : Entry) → send_due script past ≡ Some e → IsAllowed script past e
send-allowed script past e h = send_of_next script past (next script past) e refl h

pub due_allowed : (script : Script) (past : List Entry) → AllowsWhatIsDue script past
due_allowed script past e h = send-allowed script past e h

-- ---- one is due where one is allowed

find-some : (p : ℕ → Bool) (xs : List ℕ) → list_any p xs ≡ true → is_some (find p xs) ≡ true
find-some p [] h = absurd (false≢true h)
find-some p (x ∷ xs) h =
    elim (cases_Bool (p x)) [
      | inl here ↦ rw here refl
      | inr over ↦ (let h' = rw over at h in rw over (find-some p xs h'))
    ]

-- a buffer that is taken from the pool shows that its stream has one there
pool_has : (past : List Entry) (s : ℕ) (t : Sent) → (t.stream.0 == s) ≡ true → takes_from_pool past t ≡ true → is_some (least_in_pool past s) ≡ true
pool_has past s t own takes =
    let parts = and_parts (list_any (λ b. b == t.buffer.0) (buffers_of past t.stream.0)) (is_at (place t.buffer.0 past) Pool && is_same_fence t.fence (fence_of t.buffer.0 past)) takes in
    let home = and_parts (is_at (place t.buffer.0 past) Pool) (is_same_fence t.fence (fence_of t.buffer.0 past)) parts.1 in
    let any = any-at (λ b. is_at (place b past) Pool) (buffers_of past t.stream.0) t.buffer.0 parts.0 home.0 in
    let found = find-some (λ b. is_at (place b past) Pool) (buffers_of past t.stream.0) any in
    rw (eqb-true t.stream.0 s own) at found

some_target : (past : List Entry) (s : ℕ) (o : Option ℕ) → is_some o ≡ true → is_some (target_with past s o) ≡ true
some_target past s None h = absurd (false≢true h)
some_target past s (Some b) h = refl

some_with : (o : Option Sent) (rest : Option (List Sent)) → is_some o ≡ true → is_some rest ≡ true → is_some (with_target o rest) ≡ true
some_with None rest h k = absurd (false≢true h)
some_with (Some t) None h k = absurd (false≢true k)
some_with (Some t) (Some us) h k = refl

some_targets : (past : List Entry) (streams : List ℕ) (ts : List Sent) → are_streams ts streams ≡ true → list_all (takes_from_pool past) ts ≡ true → is_some (least_targets past streams) ≡ true
some_targets past [] ts are pool = refl
some_targets past (s ∷ streams) [] are pool = absurd (false≢true are)
some_targets past (s ∷ streams) (t ∷ ts) are pool =
    let own = and_parts (t.stream.0 == s) (are_streams ts streams) are in
    let takes = and_parts (takes_from_pool past t) (list_all (takes_from_pool past) ts) pool in
    some_with (least_target past s) (least_targets past streams)
    (some_target past s (least_in_pool past s) (pool_has past s t own.0 takes.0)) (some_targets past streams ts own.1 takes.1)

some_send : (script : Script) (past : List Entry) (w : Queued) (o : Option (List Sent)) → is_some o ≡ true → is_some (send_with script past w o) ≡ true
some_send script past w None h = absurd (false≢true h)
some_send script past w (Some ts) h = refl

some_due : (script : Script) (past : List Entry) (o : Option Queued) (n r i : ℕ) (same : Bool) (targets : Four Sent) → fits_next script past o n r i same targets ≡ true → is_some (send_next script past o) ≡ true
some_due script past None n r i same targets h = absurd (false≢true h)
some_due script past (Some w) n r i same targets h =
    let g = goes script past w n r i same targets h in
    let some = some_targets past (targets_in_order w.item) (four_list targets) g.streams g.pool in
    rw g.now (some_send script past w (least_targets past (targets_in_order w.item)) some)

pub allowed_due : (script : Script) (past : List Entry) → IsDueWhereAllowed script past
allowed_due script past n r i same targets h = some_due script past (next script past) n.0 r.0 i same targets h
