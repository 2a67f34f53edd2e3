-- The items of accepted requests have settings within their ranges.
use Rattle.std.proofs.Common.{◌≡◌, ℕ, zero, suc, ◌==◌, ◌+◌, Bool, true, false, ◌&&◌, not, List, [], ◌∷◌, Option, Some, None, refl, inl, inr, length, take, slice_get, nat_le, if◌then◌else◌}
use Rattle.std.specs.List.{list_all}
use Rattle.std.proofs.lemmas.Bool.{cases_Bool, false≢true, and_parts}
use Rattle.cam_types.specs.Metadata.{is_level, is_pattern, is_sensitivity, range_fault}
use Rattle.cam_types.specs.declared.item.Item.{Item}
use Rattle.cam_types.specs.declared.item.Settings.{Settings}
use Rattle.cam_types.specs.declared.reply.Reply.{Reply}
use Rattle.cam_types.specs.declared.reply.Reply.TheVariants.{Ok, Submitted, Configured, Refused}
use Rattle.cam_types.specs.declared.script.Command.{Command}
use Rattle.cam_types.specs.declared.script.Command.TheVariants.{Once, Burst, Repeat}
use Rattle.cam_types.specs.declared.script.Script.{Script}
use Rattle.cam_types.specs.declared.script.Word.{Word}
use Rattle.trace_model.specs.declared.entry.Entry.{Entry}
use Rattle.trace_model.specs.declared.entry.Entry.TheVariants.{Call, Send}
use Rattle.trace_model.specs.Calls.{command_at, command_of, item_at, items_of, request_count, word_of}
use Rattle.trace_model.specs.Configuration.{streams}
use Rattle.trace_model.specs.Frames.{item_in, send_of, settings_in, settings_of}
use Rattle.trace_model.specs.Legal.{IsLegal}
use Rattle.trace_model.specs.Numbers.{call_count}
use Rattle.trace_model.specs.Reply.{acceptance, own_refusal, queue_refusal, refusal, reply_with, state_refusal}
use Rattle.cam_types.specs.Refusals.{with_value, targets_refusal, item_refusal, items_refusal, list_refusal}
use Rattle.trace_laws.proofs.Calls.{by-call}
use Rattle.trace_laws.proofs.Refusals.{refuses, refusal-refuses}
use Rattle.cam_types.proofs.RefusalLemmas.{no-value, or-none}

-- ---- settings

-- not above the ranges of a request: the settings of no request, which are zeros, are not either
abbrev pub is_moderate : Settings → Bool
is_moderate s = (nat_le s.pattern 2 && nat_le s.level 255) && (nat_le s.exposure 100000000 && nat_le s.iso 1600)

by_ranges : (a b c d e : Bool) (p q r s : ℕ) → (if not a then Some p else (if not b then Some q else (if not (c && d) then Some r else (if not e then Some s else None)))) ≡ None → ((a && b) && (d && e)) ≡ true
by_ranges true true true true true p q r s h = refl
by_ranges true true true true false p q r s h = absurd (cc)
by_ranges true true true false e p q r s h = absurd (cc)
by_ranges true true false d e p q r s h = absurd (cc)
by_ranges true false c d e p q r s h = absurd (cc)
by_ranges false b c d e p q r s h = absurd (cc)

and_more : (a b c d e : Bool) → ((a && b) && (c && (d && e))) ≡ true → ((a && b) && (c && e)) ≡ true
and_more true true true true e h = h
and_more true true true false e h = absurd (false≢true h)
and_more true true false d e h = h
and_more true false c d e h = h
and_more false b c d e h = h

in-range : (s : Settings) → range_fault s ≡ None → is_moderate s ≡ true
in-range s h =
    let all = by_ranges (is_pattern s.pattern) (is_level s.level) (nat_le 100000 s.exposure) (nat_le s.exposure 100000000) (is_sensitivity s.iso) _ _ _ _ h in
    and_more (nat_le s.pattern 2) (nat_le s.level 255) (nat_le s.exposure 100000000) (nat_le 100 s.iso) (nat_le s.iso 1600) all

-- ---- accepted items

abbrev pub has_moderate : Item → Bool
has_moderate item = is_moderate item.settings

items-moderate : (n i : ℕ) (items : List Item) → items_refusal n i items ≡ None → list_all has_moderate items ≡ true
items-moderate n i [] h = refl
items-moderate n i (item ∷ items) h =
    let first = or-none (item_refusal n i item) (items_refusal n (i + 1) items) h in
    let second = or-none (targets_refusal n i (take item.targets.count item.targets.list)) (with_value 8 i (range_fault item.settings)) first.0 in
    let range = no-value 8 i (range_fault item.settings) second.1 in
    rw (in-range item.settings range, items-moderate n (i + 1) items first.1) refl

list-moderate : (n : ℕ) (items : List Item) → list_refusal n items ≡ None → list_all has_moderate items ≡ true
list-moderate n [] h = refl
list-moderate n (item ∷ items) h = items-moderate n 0 (item ∷ items) h

own-moderate : (script : Script) (past : List Entry) (c : Command) → own_refusal script past c ≡ None → list_all has_moderate (items_of (Some c)) ≡ true
own-moderate script past (Once item) h = items-moderate (length (streams script past)) 0 (item ∷ []) (or-none (items_refusal (length (streams script past)) 0 (item ∷ [])) (queue_refusal script past (item ∷ [])) h).0
own-moderate script past (Burst items) h = list-moderate (length (streams script past)) items (or-none (list_refusal (length (streams script past)) items) (queue_refusal script past items) h).0
own-moderate script past (Repeat items) h = list-moderate (length (streams script past)) items h
own-moderate script past c h = refl

accepted-moderate : (script : Script) (past : List Entry) (c : Command) → refusal script past c ≡ None → list_all has_moderate (items_of (Some c)) ≡ true
accepted-moderate script past c h = own-moderate script past c (or-none (state_refusal past c) (own_refusal script past c) h).1

abbrev pub AreModerate : Script → List Entry → ℕ → Type 0
AreModerate script past r = list_all has_moderate (items_of (command_of script past r)) ≡ true

submitted_moderate : (script : Script) (past : List Entry) (i : ℕ) (w : Word) (c : Command) (r : ℕ) → command_at script i ≡ Some c → list_all has_moderate (items_of (Some c)) ≡ true → AreModerate script past r → AreModerate script (Call i w (Submitted (record { 0 = request_count past })) ∷ past) r
submitted_moderate script past i w c r at new before =
    elim (cases_Bool (request_count past == r)) [
      | inl own ↦ rw (own, at) new
      | inr other ↦ rw other before
    ]

call_moderate : (script : Script) (past : List Entry) (i : ℕ) (c : Command) (e : Option Reply) (r : ℕ) → command_at script i ≡ Some c → refuses e ≡ true → refusal script past c ≡ e → AreModerate script past r → AreModerate script (Call i (word_of c) (reply_with e (acceptance script past c)) ∷ past) r
call_moderate script past i c (Some (Refused code first second)) r at no' is before = before
call_moderate script past i c (Some Ok) r at no' is before = absurd (false≢true no')
call_moderate script past i c (Some (Submitted q)) r at no' is before = absurd (false≢true no')
call_moderate script past i c (Some (Configured made)) r at no' is before = absurd (false≢true no')
call_moderate script past i (Once item) None r at no' is before = submitted_moderate script past i (word_of (Once item)) (Once item) r at (accepted-moderate script past (Once item) is) before
call_moderate script past i (Burst items) None r at no' is before = submitted_moderate script past i (word_of (Burst items)) (Burst items) r at (accepted-moderate script past (Burst items) is) before
call_moderate script past i (Repeat items) None r at no' is before = submitted_moderate script past i (word_of (Repeat items)) (Repeat items) r at (accepted-moderate script past (Repeat items) is) before
call_moderate script past i c None r at no' is before = before

-- the items of each accepted request have settings that aren't above their ranges
pub requests-moderate : (script : Script) (past : List Entry) (r : ℕ) → IsLegal script past → AreModerate script past r
requests-moderate script [] r legal = refl
requests-moderate script (Call i w reply ∷ past) r legal =
    let ih = requests-moderate script past r legal.1 in
    by-call (λ e. AreModerate script (e ∷ past) r) script past i w reply legal.0
    (λ c at. call_moderate script past (call_count past) c (refusal script past c) r at (refusal-refuses script past c) refl ih)
requests-moderate script (e ∷ past) r legal = requests-moderate script past r legal.1

at-place : (items : List Item) (i : ℕ) (o : Option Item) → slice_get items i ≡ o → list_all has_moderate items ≡ true → is_moderate (settings_in o) ≡ true
at-place items i None at all = refl
at-place [] i (Some item) at all = absurd (cc)
at-place (x ∷ items) zero (Some item) at all =
    let same : x ≡ item = cc in
    rw same at (and_parts (has_moderate x) (list_all has_moderate items) all).0
at-place (x ∷ items) (suc i) (Some item) at all = at-place items i (Some item) at (and_parts (has_moderate x) (list_all has_moderate items) all).1

pub item-moderate : (script : Script) (past : List Entry) (r i : ℕ) → IsLegal script past → is_moderate (settings_in (item_at script past r i)) ≡ true
item-moderate script past r i legal = at-place (items_of (command_of script past r)) i (item_at script past r i) refl (requests-moderate script past r legal)

in-send : (script : Script) (past : List Entry) (o : Option Entry) → IsLegal script past → is_moderate (settings_in (item_in script past o)) ≡ true
in-send script past (Some (Send n r i same targets)) legal = item-moderate script past r.0 i legal
in-send script past o legal = refl

-- and so have frames
pub frame-moderate : (script : Script) (past : List Entry) (n : ℕ) → IsLegal script past → is_moderate (settings_of script past n) ≡ true
frame-moderate script past n legal = in-send script past (send_of n past) legal
