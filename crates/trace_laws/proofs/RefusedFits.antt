-- The refusals of a valid script's commands have numbers that fit.
use Rattle.std.proofs.Common.{◌≡◌, ℕ, zero, suc, ◌==◌, ◌+◌, ◌≤◌, Bool, true, false, ◌&&◌, ◌||◌, not, List, [], ◌∷◌, Option, Some, None, refl, arith, inl, inr, find, length, take, count_by, nat_le, nat_lt, if◌then◌else◌}
use Rattle.std.specs.Prelude.{is_some}
use Rattle.std.specs.List.{list_all, list_any, position_from}
use Rattle.std.proofs.lemmas.Bool.{cases_Bool, and_parts}
use Rattle.std.proofs.lemmas.Bool.Decides.{nat_tests}
use Rattle.cam_types.specs.Metadata.{exposure_tag, is_exposure, is_level, is_pattern, is_sensitivity, level_tag, pattern_tag, range_fault, sensitivity_tag}
use Rattle.cam_types.specs.Picture.{is_size_of}
use Rattle.cam_types.specs.Script.{command_fits, item_fits, spec_fits}
use Rattle.cam_types.specs.declared.item.Item.{Item}
use Rattle.cam_types.specs.declared.item.Settings.{Settings}
use Rattle.cam_types.specs.declared.reply.Reply.{Reply}
use Rattle.cam_types.specs.declared.reply.Reply.TheVariants.{Refused}
use Rattle.cam_types.specs.declared.script.Command.{Command}
use Rattle.cam_types.specs.declared.script.Command.TheVariants.{Configure, Once, Burst, Repeat, Stop, Wait, Await}
use Rattle.cam_types.specs.declared.script.Script.{Script}
use Rattle.cam_types.specs.declared.stream.StreamSpec.{StreamSpec}
use Rattle.trace_model.specs.declared.entry.Entry.{Entry}
use Rattle.trace_model.specs.Calls.{is_closed, is_closing_word, word_of}
use Rattle.trace_model.specs.Configuration.{is_configured, streams}
use Rattle.trace_model.specs.Printable.{is_byte, is_small, number_fits}
use Rattle.trace_model.specs.Queue.{queued, repeating}
use Rattle.trace_model.specs.Reply.{is_configure_command, own_refusal, queue_refusal, refusal, state_refusal}
use Rattle.cam_types.specs.Refusals.{refused, or_else, where_true, with_value, first_repeated, targets_refusal, items_refusal, list_refusal, is_raw, is_yuv, at_place, specs_refusal}
use Rattle.trace_model.specs.Stopping.{has_failed}
use Rattle.trace_laws.specs.Typed.{are_bytes, command_typed, item_typed}
use Rattle.trace_laws.proofs.ValidLemmas.{at-most}
use Rattle.basic_lemmas.proofs.Lists.{all-found}

-- the numbers of a refusal fit
abbrev pub refusal_fits : Reply → Bool
refusal_fits (Refused code first second) = is_byte code && ((number_fits first && number_fits second) && (is_some first || not (is_some second)))
refusal_fits _ = false

abbrev pub fits_if_any : Option Reply → Bool
fits_if_any (Some r) = refusal_fits r
fits_if_any None = true

pub small : (n m : ℕ) → n ≤ m → m ≤ 100000 → is_small n ≡ true
small n m l k = grind (arith, nat_tests)

or-fits : (a b : Option Reply) → fits_if_any a ≡ true → fits_if_any b ≡ true → fits_if_any (or_else a b) ≡ true
or-fits (Some r) b h k = h
or-fits None b h k = k

where-fits : (t : Bool) (code : ℕ) → is_byte code ≡ true → fits_if_any (where_true t (refused code)) ≡ true
where-fits true code h = rw h refl
where-fits false code h = refl

value-fits : (code i : ℕ) (o : Option ℕ) → is_byte code ≡ true → is_small i ≡ true → number_fits o ≡ true → fits_if_any (with_value code i o) ≡ true
value-fits code i (Some value) a b c = rw (a, b, c) refl
value-fits code i None a b c = refl

place-fits : (code : ℕ) (o : Option ℕ) → is_byte code ≡ true → number_fits o ≡ true → fits_if_any (at_place code o) ≡ true
place-fits code (Some i) a b = rw (a, b) refl
place-fits code None a b = refl

-- ---- items

byte-small : (n : ℕ) → is_byte n ≡ true → is_small n ≡ true
byte-small n h = grind (arith, nat_tests, h)

bytes-small : (o : Option ℕ) (list : List ℕ) → ((t : ℕ) → o ≡ Some t → is_byte t ≡ true) → number_fits o ≡ true
bytes-small None list each = refl
bytes-small (Some t) list each = byte-small t (each t refl)

first-byte : (seen targets : List ℕ) (t : ℕ) → are_bytes targets ≡ true → first_repeated seen targets ≡ Some t → is_byte t ≡ true
first-byte seen [] t all h = absurd (cc)
first-byte seen (s ∷ targets) t all h =
    let parts = and_parts (is_byte s) (are_bytes targets) all in
    elim (cases_Bool (list_any (λ u. u == s) seen)) [
      | inl here ↦ (let h' = rw here at h in let same : s ≡ t = cc in rw same at parts.0)
      | inr no' ↦ (let h' = rw no' at h in first-byte (s ∷ seen) targets t parts.1 h')
    ]

targets-fit : (n i : ℕ) (targets : List ℕ) → is_small i ≡ true → are_bytes targets ≡ true → fits_if_any (targets_refusal n i targets) ≡ true
targets-fit n i [] few all = rw few refl
targets-fit n i (t ∷ targets) few all =
    let unknown = find (λ s. not (nat_lt s n)) (t ∷ targets) in
    let repeated = first_repeated [] (t ∷ targets) in
    or-fits (with_value 6 i unknown) (with_value 7 i repeated)
    (value-fits 6 i unknown refl few (bytes-small unknown (t ∷ targets) (λ u h. all-found is_byte (λ s. not (nat_lt s n)) (t ∷ targets) u all h)))
    (value-fits 7 i repeated refl few (bytes-small repeated (t ∷ targets) (λ u h. first-byte [] (t ∷ targets) u all h)))

by_tags : (a b c d : Bool) → number_fits (if not a then Some pattern_tag else (if not b then Some level_tag else (if not c then Some exposure_tag else (if not d then Some sensitivity_tag else None)))) ≡ true
by_tags true true true true = refl
by_tags true true true false = refl
by_tags true true false d = refl
by_tags true false c d = refl
by_tags false b c d = refl

tag-fits : (s : Settings) → number_fits (range_fault s) ≡ true
tag-fits s = by_tags (is_pattern s.pattern) (is_level s.level) (is_exposure s.exposure) (is_sensitivity s.iso)

bytes-taken : (n : ℕ) (list : List ℕ) → are_bytes list ≡ true → are_bytes (take n list) ≡ true
bytes-taken zero list all = refl
bytes-taken (suc n) [] all = refl
bytes-taken (suc n) (b ∷ list) all = let parts = and_parts (is_byte b) (are_bytes list) all in rw (parts.0, bytes-taken n list parts.1) refl

items-fit : (n i : ℕ) (items : List Item) → i + length items ≤ 64 → list_all item_typed items ≡ true → fits_if_any (items_refusal n i items) ≡ true
items-fit n i [] few all = refl
items-fit n i (item ∷ items) few all =
    let parts = and_parts (item_typed item) (list_all item_typed items) all in
    let bytes = (and_parts (is_byte item.settings.pattern) (are_bytes item.targets.list) parts.0).1 in
    let place = small i 64 (omega (arith, few)) (omega arith) in
    let targets = targets_refusal n i (take item.targets.count item.targets.list) in
    let setting = with_value 8 i (range_fault item.settings) in
    or-fits (or_else targets setting) (items_refusal n (i + 1) items)
    (or-fits targets setting (targets-fit n i (take item.targets.count item.targets.list) place (bytes-taken item.targets.count item.targets.list bytes)) (value-fits 8 i (range_fault item.settings) refl place (tag-fits item.settings)))
    (items-fit n (i + 1) items (omega (arith, few)) parts.1)

list-fits : (n : ℕ) (items : List Item) → length items ≤ 32 → list_all item_typed items ≡ true → fits_if_any (list_refusal n items) ≡ true
list-fits n [] few all = refl
list-fits n (item ∷ items) few all = items-fit n 0 (item ∷ items) (omega (arith, few)) all

-- ---- configurations

place-small : {T : Type 0} (p : T → Bool) (i : ℕ) (xs : List T) → i + length xs ≤ 64 → number_fits (position_from p i xs) ≡ true
place-small p i [] few = refl
place-small p i (x ∷ xs) few =
    let place = small i 64 (omega (arith, few)) (omega arith) in
    elim (cases_Bool (p x)) [
      | inl here ↦ rw (here, place) refl
      | inr no' ↦ rw no' (place-small p (i + 1) xs (omega (arith, few)))
    ]

by_specs : (a b c f g : Bool) (d e : Option ℕ) → number_fits d ≡ true → number_fits e ≡ true → fits_if_any (or_else (where_true a (refused 21)) (or_else (where_true b (refused 22)) (or_else (where_true c (refused 23)) (or_else (at_place 24 d) (or_else (at_place 25 e) (or_else (where_true f (refused 26)) (where_true g (refused 27)))))))) ≡ true
by_specs true b c f g d e h k = refl
by_specs false true c f g d e h k = refl
by_specs false false true f g d e h k = refl
by_specs false false false f g (Some i) e h k = place-fits 24 (Some i) refl h
by_specs false false false f g None (Some i) h k = place-fits 25 (Some i) refl k
by_specs false false false true g None None h k = refl
by_specs false false false false g None None h k = where-fits g 27 refl

specs-fit : (specs : List StreamSpec) → length specs ≤ 16 → fits_if_any (specs_refusal specs) ≡ true
specs-fit specs few =
    by_specs (not (list_any (λ s. not s.input) specs)) (nat_lt 4 (length specs)) (list_any (λ s. s.input) specs)
    (nat_lt 1 (count_by (λ s. is_raw s.format) specs)) (nat_lt 3 (count_by (λ s. is_yuv s.format) specs))
    (position_from (λ s. not (is_raw s.format) && not (is_yuv s.format)) 0 specs) (position_from (λ s. not (is_size_of s.format s.width s.height)) 0 specs)
    (place-small (λ (s : StreamSpec). not (is_raw s.format) && not (is_yuv s.format)) 0 specs (omega (arith, few))) (place-small (λ (s : StreamSpec). not (is_size_of s.format s.width s.height)) 0 specs (omega (arith, few)))

-- ---- all refusals

queue-fits : (script : Script) (past : List Entry) (items : List Item) → fits_if_any (queue_refusal script past items) ≡ true
queue-fits script past items = where-fits (nat_lt 256 (length (queued script past) + length items)) 11 refl

own-fits : (script : Script) (past : List Entry) (c : Command) → command_fits c ≡ true → command_typed c ≡ true → fits_if_any (own_refusal script past c) ≡ true
own-fits script past (Configure specs) fits typed = specs-fit specs (at-most (length specs) 16 (and_parts (nat_le (length specs) 16) (list_all spec_fits specs) fits).0)
own-fits script past (Once item) fits typed =
    or-fits (items_refusal (length (streams script past)) 0 (item ∷ [])) (queue_refusal script past (item ∷ []))
    (items-fit (length (streams script past)) 0 (item ∷ []) (omega arith) (rw typed refl)) (queue-fits script past (item ∷ []))
own-fits script past (Burst items) fits typed =
    or-fits (list_refusal (length (streams script past)) items) (queue_refusal script past items)
    (list-fits (length (streams script past)) items (at-most (length items) 32 (and_parts (nat_le (length items) 32) (list_all item_fits items) fits).0) typed) (queue-fits script past items)
own-fits script past (Repeat items) fits typed =
    let few = at-most (length items) 8 (and_parts (nat_le (length items) 8) (list_all item_fits items) fits).0 in
    list-fits (length (streams script past)) items (omega (arith, few)) typed
own-fits script past Stop fits typed = where-fits (not (is_some (repeating script past))) 9 refl
own-fits script past (Await k) fits typed = where-fits (not (is_some (repeating script past))) 9 refl
own-fits script past Wait fits typed = where-fits (is_some (repeating script past)) 10 refl
own-fits script past _ fits typed = refl

by_state : (closed closing failed missing : Bool) → fits_if_any (if closed then Some (refused 2) else (if closing then None else (if failed then Some (refused 3) else where_true missing (refused 1)))) ≡ true
by_state true closing failed missing = refl
by_state false true failed missing = refl
by_state false false true missing = refl
by_state false false false missing = where-fits missing 1 refl

pub refusal-fits : (script : Script) (past : List Entry) (c : Command) → command_fits c ≡ true → command_typed c ≡ true → fits_if_any (refusal script past c) ≡ true
refusal-fits script past c fits typed =
    or-fits (state_refusal past c) (own_refusal script past c)
    (by_state (is_closed past) (is_closing_word (word_of c)) (has_failed past) (not (is_configure_command c) && not (is_configured past)))
    (own-fits script past c fits typed)
