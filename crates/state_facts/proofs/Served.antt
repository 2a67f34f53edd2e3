-- What was accepted can be served: its streams are the configuration's, and have buffers.
use Rattle.std.proofs.Common.{◌≡◌, ◌≤◌, ◌<◌, ℕ, zero, suc, ◌==◌, ◌+◌, Bool, true, false, ◌&&◌, not, List, [], ◌∷◌, Option, Some, None, refl, arith, inl, inr, filter, find, length, nat_le, nat_lt, slice_get, take}
use Rattle.std.specs.List.{list_any, list_all, range_with_len, position_from}
use Rattle.std.proofs.lemmas.Bool.{and_from, and_parts, cases_Bool, eq-eqb, eqb-true, false≢true, ltb-true, or_left, or_right}
use Rattle.std.proofs.lemmas.Bool.Decides.{nat_tests}
use Rattle.cam_types.specs.Four.{four_list, four_of}
use Rattle.cam_types.specs.Metadata.{range_fault}
use Rattle.cam_types.specs.Script.{is_valid}
use Rattle.cam_types.specs.declared.item.Item.{Item}
use Rattle.cam_types.specs.declared.reply.Made.{Made}
use Rattle.cam_types.specs.declared.reply.Reply.{Reply}
use Rattle.cam_types.specs.declared.reply.Reply.TheVariants.{Ok, Submitted, Configured, Refused}
use Rattle.cam_types.specs.declared.script.Command.{Command}
use Rattle.cam_types.specs.declared.script.Command.TheVariants.{Configure}
use Rattle.cam_types.specs.declared.profile.Profile.{Profile}
use Rattle.cam_types.specs.declared.script.Script.{Script}
use Rattle.cam_types.specs.declared.stream.Format.{Format}
use Rattle.cam_types.specs.declared.stream.Format.TheVariants.{Raw16, Yuv, Other}
use Rattle.cam_types.specs.declared.stream.StreamSpec.{StreamSpec}
use Rattle.trace_model.specs.declared.entry.Entry.{Entry}
use Rattle.trace_model.specs.declared.entry.Entry.TheVariants.{Call}
use Rattle.trace_model.specs.Calls.{command_at, word_of}
use Rattle.trace_model.specs.Configuration.{buffers_of, made_count, numbers_of, streams}
use Rattle.cam_types.specs.Profile.{max_buffers, max_buffers_of, profile_fits, is_profile_number}
use Rattle.trace_model.specs.Legal.{IsLegal}
use Rattle.trace_model.specs.Numbers.{call_count}
use Rattle.trace_model.specs.Reply.{acceptance, made_for, own_refusal, refusal, reply_with, state_refusal}
use Rattle.cam_types.specs.Refusals.{refused, where_true, with_value, first_repeated, targets_refusal, item_refusal, items_refusal, list_refusal, is_raw, is_yuv, at_place, specs_refusal}
use Rattle.trace_model.specs.Send.{targets_in_order}
use Rattle.trace_laws.proofs.Calls.{by-call}
use Rattle.trace_laws.proofs.Refusals.{refuses, refusal-refuses}
use Rattle.cam_types.proofs.RefusalLemmas.{no-value, placed-none, where-none}
pub use Rattle.cam_types.proofs.RefusalLemmas.{or-none}

-- ---- what isn't refused

place_none : {X : Type 0} (p : X → Bool) (i : ℕ) (xs : List X) → position_from p i xs ≡ None → list_all (λ x. not (p x)) xs ≡ true
place_none p i [] h = refl
place_none p i (x ∷ xs) h =
    elim (cases_Bool (p x)) [
      | inl here ↦ (let h' = rw here at h in absurd (cc))
      | inr other ↦ (let h' = rw other at h in rw (other, place_none p (i + 1) xs h') refl)
    ]

found_none : (n : ℕ) (ts : List ℕ) → find (λ t. not (nat_lt t n)) ts ≡ None → list_all (λ t. nat_lt t n) ts ≡ true
found_none n [] h = refl
found_none n (t ∷ ts) h =
    elim (cases_Bool (nat_lt t n)) [
      | inl less ↦ (let h' = rw less at h in rw (less, found_none n ts h') refl)
      | inr more ↦ (let h' = rw more at h in absurd (cc))
    ]

abbrev pub some_of : List ℕ → Bool
some_of [] = false
some_of (x ∷ xs) = true

-- each target is below the number of streams
abbrev pub is_within : ℕ → Item → Bool
is_within n item = list_all (λ t. nat_lt t n) (take item.targets.count item.targets.list) && some_of (take item.targets.count item.targets.list)

targets_none : (n i : ℕ) (ts : List ℕ) → targets_refusal n i ts ≡ None → (list_all (λ t. nat_lt t n) ts && some_of ts) ≡ true
targets_none n i [] h = absurd (cc)
targets_none n i (t ∷ ts) h =
    let first = or-none (with_value 6 i (find (λ u. not (nat_lt u n)) (t ∷ ts))) (with_value 7 i (first_repeated [] (t ∷ ts))) h in
    and_from (list_all (λ u. nat_lt u n) (t ∷ ts)) (some_of (t ∷ ts)) (found_none n (t ∷ ts) (no-value 6 i (find (λ u. not (nat_lt u n)) (t ∷ ts)) first.0)) refl

pub items_none : (n i : ℕ) (items : List Item) → items_refusal n i items ≡ None → list_all (is_within n) items ≡ true
items_none n i [] h = refl
items_none n i (item ∷ items) h =
    let first = or-none (item_refusal n i item) (items_refusal n (i + 1) items) h in
    let second = or-none (targets_refusal n i (take item.targets.count item.targets.list)) (with_value 8 i (range_fault item.settings)) first.0 in
    rw (targets_none n i (take item.targets.count item.targets.list) second.0, items_none n (i + 1) items first.1) refl

pub list-none : (n : ℕ) (items : List Item) → list_refusal n items ≡ None → (0 < length items) × (list_all (is_within n) items ≡ true)
list-none n [] h = absurd (cc)
list-none n (item ∷ items) h = (omega arith, items_none n 0 (item ∷ items) h)

-- ---- streams that have buffers

abbrev is_offered : Format → Bool
is_offered f = not (not (is_raw f) && not (is_yuv f))

abbrev pub offered : Option StreamSpec → Bool
offered (Some spec) = is_offered spec.format
offered None = false

-- the stream is one of the configuration's, of a format that the device fills, and has buffers
abbrev pub serves : Script → List Entry → ℕ → Bool
serves script past s = offered (slice_get (streams script past) s) && some_of (buffers_of past s)

abbrev serves_in : List StreamSpec → List Made → ℕ → Bool
serves_in specs ms s = offered (slice_get specs s) && some_of (numbers_of (slice_get ms s))

some_range : (m n : ℕ) → 0 < n → some_of (range_with_len m n) ≡ true
some_range m zero l = absurd (omega (arith, l))
some_range m (suc n) l = refl

made_serves : (p : Profile) (m : ℕ) (specs : List StreamSpec) (s : ℕ) → list_all (λ (x : StreamSpec). is_offered x.format) specs ≡ true → s < length specs → serves_in specs (made_for p m specs) s ≡ true
made_serves p m [] s all l = absurd (omega (arith, l))
made_serves p m (spec ∷ specs) zero all l = and_from _ _ (and_parts (is_offered spec.format) (list_all (λ (x : StreamSpec). is_offered x.format) specs) all).0 (some_range m (max_buffers p spec.format + 2) (omega arith))
made_serves p m (spec ∷ specs) (suc s) all l = made_serves p (m + (max_buffers p spec.format + 2)) specs s (and_parts (is_offered spec.format) (list_all (λ (x : StreamSpec). is_offered x.format) specs) all).1 (omega (arith, l))

four_made : (p : Profile) (m : ℕ) (specs : List StreamSpec) → length specs ≤ 4 → four_list (four_of (made_for p m specs)) ≡ made_for p m specs
four_made p m [] few = refl
four_made p m (a ∷ []) few = refl
four_made p m (a ∷ b ∷ []) few = refl
four_made p m (a ∷ b ∷ c ∷ []) few = refl
four_made p m (a ∷ b ∷ c ∷ d ∷ []) few = refl
four_made p m (a ∷ b ∷ c ∷ d ∷ e ∷ specs) few = absurd (omega (arith, few))

-- a device can take a frame, and a buffer of each format
pub record IsAble (p : Profile) : Type 0 where
  pub depth : nat_lt 0 p.depth ≡ true
  pub raw : nat_lt 0 p.raw ≡ true
  pub yuv : nat_lt 0 p.yuv ≡ true

pub able-room : (p : Profile) (o : Option StreamSpec) → IsAble p → offered o ≡ true → nat_lt 0 (max_buffers_of p o) ≡ true
able-room p None able h = absurd (false≢true h)
able-room p (Some spec) able h = by spec.format h
  where
    by : (f : Format) → is_offered f ≡ true → nat_lt 0 (max_buffers p f) ≡ true
    by Raw16 h = able.raw
    by Yuv h = able.yuv
    by (Other k) h = absurd (false≢true h)

some_number : (n : ℕ) → is_profile_number n ≡ true → nat_lt 0 n ≡ true
some_number n h = (and_parts (nat_lt 0 n) (nat_le n 16) h).0

able_by : (version : ℕ) (p : Profile) → profile_fits version p ≡ true → IsAble p
able_by version p h =
    elim (cases_Bool (version == 1)) [
      | inl one ↦ (
          let h' = rw one at h in
          let sizes = and_parts (p.depth == 6) ((p.raw == 3) && (p.yuv == 4)) h' in
          let both = and_parts (p.raw == 3) (p.yuv == 4) sizes.1 in
          record { depth = some_equal p.depth 6 sizes.0 refl; raw = some_equal p.raw 3 both.0 refl; yuv = some_equal p.yuv 4 both.1 refl }
          )
      | inr no' ↦ (
          let h' = rw no' at h in
          let all = (and_parts (version == 2) (is_profile_number p.depth && (is_profile_number p.raw && is_profile_number p.yuv)) h').1 in
          let sizes = and_parts (is_profile_number p.depth) (is_profile_number p.raw && is_profile_number p.yuv) all in
          let both = and_parts (is_profile_number p.raw) (is_profile_number p.yuv) sizes.1 in
          record { depth = some_number p.depth sizes.0; raw = some_number p.raw both.0; yuv = some_number p.yuv both.1 }
          )
    ]
  where
    some_equal : (a k : ℕ) → (a == k) ≡ true → nat_lt 0 k ≡ true → nat_lt 0 a ≡ true
    some_equal a k h l = rw (eqb-true a k h) l

-- the device of a valid script can
pub able : (script : Script) → is_valid script ≡ true → IsAble script.profile
able script h = able_by script.version script.profile (first_part _ _ h)
  where
    first_part : (a b : Bool) → (a && b) ≡ true → a ≡ true
    first_part true b h = refl
    first_part false b h = absurd (false≢true h)

specs_none : (specs : List StreamSpec) → specs_refusal specs ≡ None → (length specs ≤ 4) × (list_all (λ (x : StreamSpec). is_offered x.format) specs ≡ true)
specs_none specs h =
    let first = or-none (where_true (not (list_any (λ s. not s.input) specs)) (refused 21)) _ h in
    let second = or-none (where_true (nat_lt 4 (length specs)) (refused 22)) _ first.1 in
    let third = or-none (where_true (list_any (λ s. s.input) specs) (refused 23)) _ second.1 in
    let fourth = or-none (at_place 24 (position_from (λ s. not (is_raw s.format) && not (is_yuv s.format)) 0 specs)) _ third.1 in
    let few = where-none (nat_lt 4 (length specs)) (refused 22) second.0 in
    (at_most (length specs) few, place_none (λ (s : StreamSpec). not (is_raw s.format) && not (is_yuv s.format)) 0 specs (placed-none 24 _ fourth.0))
  where
    at_most : (k : ℕ) → nat_lt 4 k ≡ false → k ≤ 4
    at_most k h = grind (arith, nat_tests, h)

-- each stream of the configuration has buffers
abbrev Serving : Script → List Entry → Type 0
Serving script past = (s : ℕ) → s < length (streams script past) → serves script past s ≡ true

pub own-none : (script : Script) (past : List Entry) (c : Command) → refusal script past c ≡ None → own_refusal script past c ≡ None
own-none script past c h = (or-none (state_refusal past c) (own_refusal script past c) h).1

configured_serves : (script : Script) (past : List Entry) (i : ℕ) (specs : List StreamSpec) → command_at script i ≡ Some (Configure specs) → specs_refusal specs ≡ None → Serving script (Call i (word_of (Configure specs)) (acceptance script past (Configure specs)) ∷ past)
configured_serves script past i specs at none s l =
    let parts = specs_none specs none in
    let l' : s < length specs = rw at at l in
    rw (at, four_made script.profile (made_count past) specs parts.0) (made_serves script.profile (made_count past) specs s parts.1 l')

call_serves : (script : Script) (past : List Entry) (i : ℕ) (c : Command) (e : Option Reply) → refusal script past c ≡ e → refuses e ≡ true → command_at script i ≡ Some c → Serving script past → Serving script (Call i (word_of c) (reply_with e (acceptance script past c)) ∷ past)
call_serves script past i c (Some (Refused code first second)) is h at before = before
call_serves script past i c (Some Ok) is h at before = absurd (false≢true h)
call_serves script past i c (Some (Submitted r)) is h at before = absurd (false≢true h)
call_serves script past i c (Some (Configured each)) is h at before = absurd (false≢true h)
call_serves script past i (Configure specs) None is h at before = configured_serves script past i specs at (own-none script past (Configure specs) is)
call_serves script past i c None is h at before = before

pub serving : (script : Script) (past : List Entry) → IsLegal script past → Serving script past
serving script [] legal = λ s l. absurd (omega (arith, l))
serving script (Call i w r ∷ past) legal =
    by-call (λ e. Serving script (e ∷ past)) script past i w r legal.0
    (λ c at. call_serves script past (call_count past) c (refusal script past c) refl (refusal-refuses script past c) at (serving script past legal.1))
serving script (e ∷ past) legal = serving script past legal.1

-- ---- items

-- every stream that the item asks for can be served
abbrev pub is_served : Script → List Entry → Item → Bool
is_served script past item = list_all (serves script past) (targets_in_order item) && some_of (targets_in_order item)

below_all : (n s : ℕ) (ts : List ℕ) → list_all (λ t. nat_lt t n) ts ≡ true → list_any (λ t. t == s) ts ≡ true → s < n
below_all n s [] all any = absurd (false≢true any)
below_all n s (t ∷ ts) all any =
    let parts = and_parts (nat_lt t n) (list_all (λ u. nat_lt u n) ts) all in
    elim (cases_Bool (t == s)) [
      | inl here ↦ (let less = ltb-true t n parts.0 in rw (eqb-true t s here) at less)
      | inr other ↦ (let any' = rw other at any in below_all n s ts parts.1 any')
    ]

filtered_pass : (p q : ℕ → Bool) (xs : List ℕ) → ((x : ℕ) → p x ≡ true → q x ≡ true) → list_all q (filter p xs) ≡ true
filtered_pass p q [] each = refl
filtered_pass p q (x ∷ xs) each = elim (cases_Bool (p x)) [ inl here ↦ rw (here, each x here) (filtered_pass p q xs each) | inr other ↦ rw other (filtered_pass p q xs each) ]

-- at most four streams
abbrev FewStreams : Script → List Entry → Type 0
FewStreams script past = length (streams script past) ≤ 4

call_few : (script : Script) (past : List Entry) (i : ℕ) (c : Command) (e : Option Reply) → refusal script past c ≡ e → refuses e ≡ true → command_at script i ≡ Some c → FewStreams script past → FewStreams script (Call i (word_of c) (reply_with e (acceptance script past c)) ∷ past)
call_few script past i c (Some (Refused code first second)) is h at before = before
call_few script past i c (Some Ok) is h at before = absurd (false≢true h)
call_few script past i c (Some (Submitted r)) is h at before = absurd (false≢true h)
call_few script past i c (Some (Configured each)) is h at before = absurd (false≢true h)
call_few script past i (Configure specs) None is h at before = rw at (specs_none specs (own-none script past (Configure specs) is)).0
call_few script past i c None is h at before = before

few-streams : (script : Script) (past : List Entry) → IsLegal script past → FewStreams script past
few-streams script [] legal = omega arith
few-streams script (Call i w r ∷ past) legal =
    by-call (λ e. FewStreams script (e ∷ past)) script past i w r legal.0
    (λ c at. call_few script past (call_count past) c (refusal script past c) refl (refusal-refuses script past c) at (few-streams script past legal.1))
few-streams script (e ∷ past) legal = few-streams script past legal.1

some_first : (p : ℕ → Bool) (t : ℕ) → t < 4 → p t ≡ true → list_any p (0 ∷ (1 ∷ (2 ∷ (3 ∷ [])))) ≡ true
some_first p zero l h = rw h refl
some_first p (suc zero) l h = or_right (p 0) _ (or_left (p 1) _ h)
some_first p (suc (suc zero)) l h = or_right (p 0) _ (or_right (p 1) _ (or_left (p 2) _ h))
some_first p (suc (suc (suc zero))) l h = or_right (p 0) _ (or_right (p 1) _ (or_right (p 2) _ (or_left (p 3) false h)))
some_first p (suc (suc (suc (suc t)))) l h = absurd (omega (arith, l))

some_filtered : (p : ℕ → Bool) (xs : List ℕ) → list_any p xs ≡ true → some_of (filter p xs) ≡ true
some_filtered p [] h = absurd (false≢true h)
some_filtered p (x ∷ xs) h = elim (cases_Bool (p x)) [ inl here ↦ rw here refl | inr other ↦ (let h' = rw other at h in rw other (some_filtered p xs h')) ]

asked : (n : ℕ) (ts : List ℕ) → n ≤ 4 → list_all (λ t. nat_lt t n) ts ≡ true → some_of ts ≡ true → some_of (filter (λ s. list_any (λ t. t == s) ts) (0 ∷ (1 ∷ (2 ∷ (3 ∷ []))))) ≡ true
asked n [] few all some = absurd (false≢true some)
asked n (t ∷ ts) few all some =
    let less = ltb-true t n (and_parts (nat_lt t n) (list_all (λ u. nat_lt u n) ts) all).0 in
    some_filtered (λ s. list_any (λ u. u == s) (t ∷ ts)) (0 ∷ (1 ∷ (2 ∷ (3 ∷ [])))) (some_first (λ s. list_any (λ u. u == s) (t ∷ ts)) t (omega (arith, less, few)) (or_left (t == t) (list_any (λ u. u == t) ts) (eq-eqb t t refl)))

pub within-served : (script : Script) (past : List Entry) (item : Item) → IsLegal script past → is_within (length (streams script past)) item ≡ true → is_served script past item ≡ true
within-served script past item legal within =
    let ts = take item.targets.count item.targets.list in
    let parts = and_parts (list_all (λ t. nat_lt t (length (streams script past))) ts) (some_of ts) within in
    and_from (list_all (serves script past) (targets_in_order item)) (some_of (targets_in_order item))
    (filtered_pass (λ s. list_any (λ t. t == s) ts) (serves script past) (0 ∷ (1 ∷ (2 ∷ (3 ∷ []))))
    (λ s any. serving script past legal s (below_all (length (streams script past)) s ts parts.0 any)))
    (asked (length (streams script past)) ts (few-streams script past legal) parts.0 parts.1)
