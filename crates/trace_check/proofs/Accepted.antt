-- What an accepted call of a legal past says of the command that it answers: the streams of an accepted configuration are
-- offered, and the settings of an accepted request are in their range.
use Rattle.std.proofs.Common.{◌≡◌, ℕ, zero, suc, ◌==◌, ◌+◌, Bool, true, false, ◌&&◌, not, List, [], ◌∷◌, Option, Some, None, refl, sym, ap, ◌∙◌, arith, find, nat_lt, length, slice_get, count_by, take, if◌then◌else◌, ◌≤◌, subst}
use Rattle.std.specs.List.{list_any, position_from}
use Rattle.std.proofs.lemmas.Bool.{false≢true}
use Rattle.std.proofs.lemmas.Bool.Decides.{nat_tests}
use Rattle.cam_types.specs.Metadata.{range_fault}
use Rattle.cam_types.specs.Picture.{is_offered, is_size_of}
use Rattle.cam_types.specs.declared.item.Item.{Item}
use Rattle.cam_types.specs.declared.four.Four.{Four}
use Rattle.cam_types.specs.declared.number.RequestId.{RequestId}
use Rattle.cam_types.specs.declared.reply.Made.{Made}
use Rattle.cam_types.specs.declared.reply.Reply.{Reply}
use Rattle.cam_types.specs.declared.reply.Reply.TheVariants.{Ok, Submitted, Configured, Refused}
use Rattle.cam_types.specs.declared.script.Command.{Command}
use Rattle.cam_types.specs.declared.script.Command.TheVariants.{Configure, Once, Burst, Repeat, Stop, Wait, Await, Flush, Close, Disconnect}
use Rattle.cam_types.specs.declared.script.Script.{Script}
use Rattle.cam_types.specs.declared.script.Word.{Word}
use Rattle.cam_types.specs.declared.stream.StreamSpec.{StreamSpec}
use Rattle.trace_model.specs.declared.entry.Entry.{Entry}
use Rattle.trace_model.specs.declared.entry.Entry.TheVariants.{Begin, Call, Send, Dropped, Shutter, Partial, Filled, Failed, ErrorRequest, ErrorResult, ErrorBuffer, ErrorDevice, Release, Signal, Early, Late}
use Rattle.trace_model.specs.Allowed.{IsAllowed}
use Rattle.trace_model.specs.Calls.{command_at, command_of, item_at, items_of, next_command, word_of}
use Rattle.trace_model.specs.Client.{call_of, may_answer}
use Rattle.trace_model.specs.Configuration.{streams, streams_of}
use Rattle.trace_model.specs.Entry.{is_refusal}
use Rattle.trace_model.specs.Frames.{item_in, item_of, send_of}
use Rattle.trace_model.specs.Legal.{IsLegal}
use Rattle.trace_model.specs.Numbers.{call_count}
use Rattle.trace_model.specs.Reply.{acceptance, own_refusal, queue_refusal, reply, reply_with, state_refusal}
use Rattle.cam_types.specs.Refusals.{refused, or_else, where_true, with_value, first_repeated, targets_refusal, item_refusal, items_refusal, list_refusal, is_raw, is_yuv, at_place, specs_refusal}
use Rattle.request_checks.proofs.Accepted.{few_specs}
use Rattle.run_rows.proofs.Ranges.{items-in-range, list-in-range}
use Rattle.trace_laws.proofs.Refusals.{or-refuses, value-refuses, own-refuses, state-refuses}

-- ---- a refusal is none, or refuses

abbrev refuses : Option Reply → Bool
refuses None = true
refuses (Some r) = is_refusal r

targets-refuse : (streams i : ℕ) (targets : List ℕ) → refuses (targets_refusal streams i targets) ≡ true
targets-refuse streams i [] = refl
targets-refuse streams i (t ∷ targets) = or-refuses (with_value 6 i (find (λ u. not (nat_lt u streams)) (t ∷ targets))) (with_value 7 i (first_repeated [] (t ∷ targets))) (value-refuses 6 i (find (λ u. not (nat_lt u streams)) (t ∷ targets))) (value-refuses 7 i (first_repeated [] (t ∷ targets)))

item-refuses : (streams i : ℕ) (item : Item) → refuses (item_refusal streams i item) ≡ true
item-refuses streams i item = or-refuses (targets_refusal streams i (take item.targets.count item.targets.list)) (with_value 8 i (range_fault item.settings)) (targets-refuse streams i (take item.targets.count item.targets.list)) (value-refuses 8 i (range_fault item.settings))

items-refuse : (streams i : ℕ) (items : List Item) → refuses (items_refusal streams i items) ≡ true
items-refuse streams i [] = refl
items-refuse streams i (item ∷ items) = or-refuses (item_refusal streams i item) (items_refusal streams (i + 1) items) (item-refuses streams i item) (items-refuse streams (i + 1) items)

list-refuses : (streams : ℕ) (items : List Item) → refuses (list_refusal streams items) ≡ true
list-refuses streams [] = refl
list-refuses streams (item ∷ items) = items-refuse streams 0 (item ∷ items)

-- the last refusals of a configuration, and those before them
many-raw : List StreamSpec → Option Reply
many-raw specs = or_else (where_true (nat_lt 1 (count_by (λ s. is_raw s.format) specs)) (refused 26)) (where_true (nat_lt 3 (count_by (λ s. is_yuv s.format) specs)) (refused 27))

abbrev bad-size : List StreamSpec → Option Reply
bad-size specs = at_place 25 (position_from (λ s. not (is_size_of s.format s.width s.height)) 0 specs)

abbrev bad-format : List StreamSpec → Option Reply
bad-format specs = at_place 24 (position_from (λ s. not (is_raw s.format) && not (is_yuv s.format)) 0 specs)

abbrev bad-count : List StreamSpec → Option Reply → Option Reply
bad-count specs rest =
    or_else (where_true (not (list_any (λ s. not s.input) specs)) (refused 21))
    (or_else (where_true (nat_lt 4 (length specs)) (refused 22))
    (or_else (where_true (list_any (λ s. s.input) specs) (refused 23)) rest))

specs-parts : (specs : List StreamSpec) → specs_refusal specs ≡ bad-count specs (or_else (bad-format specs) (or_else (bad-size specs) (many-raw specs)))
unfolding many-raw
specs-parts specs = refl

-- ---- a reply that isn't a refusal: the command has none

accepted-of : (state own : Option Reply) (accepted r : Reply) → refuses state ≡ true → refuses own ≡ true → reply_with (or_else state own) accepted ≡ r → is_refusal r ≡ false → (own ≡ None) × (accepted ≡ r)
accepted-of (Some s) own accepted r h k is plain = absurd (false≢true (sym (ap is_refusal is ∙ plain) ∙ h))
accepted-of None (Some o) accepted r h k is plain = absurd (false≢true (sym (ap is_refusal is ∙ plain) ∙ k))
accepted-of None None accepted r h k is plain = (refl, is)

-- the command that an allowed call answers
pub record Answered (script : Script) (past : List Entry) (i : ℕ) (reply' : Reply) : Type 0 where
  pub command : Command
  pub next : command_at script i ≡ Some command
  pub number : i ≡ call_count past
  pub gives : reply script past command ≡ reply'

pub answered : (script : Script) (past : List Entry) (i : ℕ) (word : Word) (r : Reply) → IsAllowed script past (Call i word r) → Answered script past i r
answered script past i word r h = by-command (next_command script past) refl h where
  by-command : (o : Option Command) → next_command script past ≡ o → call_of script past o ≡ Some (Call i word r) → Answered script past i r
  by-command None is h = absurd (cc)
  by-command (Some c) is h = by-test (may_answer script past c) h where
    by-test : (b : Bool) → (if b then Some (Call (call_count past) (word_of c) (reply script past c)) else None) ≡ Some (Call i word r) → Answered script past i r
    by-test false h = absurd (cc)
    by-test true h =
        let number : call_count past ≡ i = cc in
        let gives : reply script past c ≡ r = cc in
        record { command = c; next = rw (sym number) is; number = sym number; gives = gives }

-- what an accepted call tells of its command: it has no refusal of its own
pub accepted : (script : Script) (past : List Entry) (c : Command) (r : Reply) → reply script past c ≡ r → is_refusal r ≡ false → (own_refusal script past c ≡ None) × (acceptance script past c ≡ r)
accepted script past c r = accepted-of (state_refusal past c) (own_refusal script past c) (acceptance script past c) r (state-refuses past c) (own-refuses script past c)

-- ---- streams

none-left : (a b : Option Reply) → or_else a b ≡ None → b ≡ None
none-left (Some r) b h = absurd (cc)
none-left None b h = h

none-first : (a b : Option Reply) → or_else a b ≡ None → a ≡ None
none-first (Some r) b h = h
none-first None b h = refl

not-here : (code i : ℕ) (b : Bool) (rest : Option ℕ) → at_place code (if b then Some i else rest) ≡ None → (b ≡ false) × (at_place code rest ≡ None)
not-here code i true rest h = absurd (cc)
not-here code i false rest h = (refl, h)

nowhere : {T : Type 0} (p : T → Bool) (code i : ℕ) (xs : List T) → at_place code (position_from p i xs) ≡ None → (k : ℕ) (x : T) → slice_get xs k ≡ Some x → p x ≡ false
nowhere p code i [] h k x at = absurd (cc)
nowhere p code i (y ∷ xs) h zero x at =
    let same : y ≡ x = cc in
    ap p (sym same) ∙ (not-here code i (p y) (position_from p (i + 1) xs) h).0
nowhere p code i (y ∷ xs) h (suc k) x at = nowhere p code (i + 1) xs (not-here code i (p y) (position_from p (i + 1) xs) h).1 k x at

offered : (specs : List StreamSpec) → specs_refusal specs ≡ None → (s : ℕ) (spec : StreamSpec) → slice_get specs s ≡ Some spec → is_offered spec ≡ true
offered specs h s spec at =
    let none = not (list_any (λ s. not s.input) specs) in
    let many = nat_lt 4 (length specs) in
    let input = list_any (λ s. s.input) specs in
    let sized = or_else (bad-size specs) (many-raw specs) in
    let shaped = or_else (bad-format specs) sized in
    let third = or_else (where_true input (refused 23)) shaped in
    let second = or_else (where_true many (refused 22)) third in
    let whole : or_else (where_true none (refused 21)) second ≡ None = sym (specs-parts specs) ∙ h in
    let h3 = none-left (where_true input (refused 23)) shaped (none-left (where_true many (refused 22)) third (none-left (where_true none (refused 21)) second whole)) in
    let size = none-first (bad-size specs) (many-raw specs) (none-left (bad-format specs) sized h3) in
    let passes = nowhere (λ s. not (is_size_of s.format s.width s.height)) 25 0 specs size s spec at in
    not-not (is_size_of spec.format spec.width spec.height) passes where
      not-not : (b : Bool) → not b ≡ false → b ≡ true
      not-not true h = refl
      not-not false h = absurd (cc)

within-four : (n : ℕ) → where_true (nat_lt 4 n) (refused 22) ≡ None → n ≤ 4
within-four n h = by (nat_lt 4 n) refl h
  where
    by : (b : Bool) → nat_lt 4 n ≡ b → where_true b (refused 22) ≡ None → n ≤ 4
    by true is h = absurd (cc)
    by false is h = grind (arith, nat_tests, is)

few-by : (script : Script) (past : List Entry) (c : Command) (made : Four Made) → reply script past c ≡ Configured made → length (streams_of (Some c)) ≤ 4
few-by script past (Configure specs) made h = few_specs specs (accepted script past (Configure specs) (Configured made) h refl).0
few-by script past c made h = omega arith

-- a legal past has at most four streams
pub few-streams : (script : Script) (past : List Entry) → IsLegal script past → length (streams script past) ≤ 4
few-streams script [] legal = omega arith
few-streams script (Call i word (Configured made) ∷ past) legal =
    let a = answered script past i word (Configured made) legal.0 in
    subst (λ o. length (streams_of o) ≤ 4) (sym a.next) (few-by script past a.command made a.gives)
few-streams script (e ∷ past) legal = few-streams script past legal.1

offered-by : (script : Script) (past : List Entry) (c : Command) (made : Four Made) → reply script past c ≡ Configured made → (s : ℕ) (spec : StreamSpec) → slice_get (streams_of (Some c)) s ≡ Some spec → is_offered spec ≡ true
offered-by script past (Configure specs) made h s spec at = offered specs (accepted script past (Configure specs) (Configured made) h refl).0 s spec at
offered-by script past (Once item) made h s spec at = absurd (cc)
offered-by script past (Burst items) made h s spec at = absurd (cc)
offered-by script past (Repeat items) made h s spec at = absurd (cc)
offered-by script past Stop made h s spec at = absurd (cc)
offered-by script past Wait made h s spec at = absurd (cc)
offered-by script past (Await k) made h s spec at = absurd (cc)
offered-by script past Flush made h s spec at = absurd (cc)
offered-by script past Close made h s spec at = absurd (cc)
offered-by script past Disconnect made h s spec at = absurd (cc)

-- the streams of a legal past are offered
pub streams-offered : (script : Script) (past : List Entry) → IsLegal script past → (s : ℕ) (spec : StreamSpec) → slice_get (streams script past) s ≡ Some spec → is_offered spec ≡ true
streams-offered script [] legal s spec at = absurd (cc)
streams-offered script (Call i word (Configured made) ∷ past) legal s spec at =
    let a = answered script past i word (Configured made) legal.0 in
    offered-by script past a.command made a.gives s spec (rw (sym a.next) at)
streams-offered script (Call i word Ok ∷ past) legal s spec at = streams-offered script past legal.1 s spec at
streams-offered script (Call i word (Submitted r) ∷ past) legal s spec at = streams-offered script past legal.1 s spec at
streams-offered script (Call i word (Refused code first second) ∷ past) legal s spec at = streams-offered script past legal.1 s spec at
streams-offered script (Begin word ∷ past) legal s spec at = streams-offered script past legal.1 s spec at
streams-offered script (Send n r i same targets ∷ past) legal s spec at = streams-offered script past legal.1 s spec at
streams-offered script (Dropped n r i ∷ past) legal s spec at = streams-offered script past legal.1 s spec at
streams-offered script (Shutter n time ∷ past) legal s spec at = streams-offered script past legal.1 s spec at
streams-offered script (Partial n k part ∷ past) legal s spec at = streams-offered script past legal.1 s spec at
streams-offered script (Filled n t b f digest ∷ past) legal s spec at = streams-offered script past legal.1 s spec at
streams-offered script (Failed n t b f ∷ past) legal s spec at = streams-offered script past legal.1 s spec at
streams-offered script (ErrorRequest n ∷ past) legal s spec at = streams-offered script past legal.1 s spec at
streams-offered script (ErrorResult n ∷ past) legal s spec at = streams-offered script past legal.1 s spec at
streams-offered script (ErrorBuffer n t ∷ past) legal s spec at = streams-offered script past legal.1 s spec at
streams-offered script (ErrorDevice ∷ past) legal s spec at = streams-offered script past legal.1 s spec at
streams-offered script (Release b f ∷ past) legal s spec at = streams-offered script past legal.1 s spec at
streams-offered script (Signal f ∷ past) legal s spec at = streams-offered script past legal.1 s spec at
streams-offered script (Early n t b f ∷ past) legal s spec at = streams-offered script past legal.1 s spec at
streams-offered script (Late f digest ∷ past) legal s spec at = streams-offered script past legal.1 s spec at

-- ---- settings

in-range-by : (script : Script) (past : List Entry) (c : Command) (q : RequestId) → reply script past c ≡ Submitted q → (k : ℕ) (item : Item) → slice_get (items_of (Some c)) k ≡ Some item → range_fault item.settings ≡ None
in-range-by script past (Once x) q h k item at =
    let n = length (streams script past) in
    let own = (accepted script past (Once x) (Submitted q) h refl).0 in
    items-in-range n 0 (x ∷ []) (none-first (items_refusal n 0 (x ∷ [])) (queue_refusal script past (x ∷ [])) own) k item at
in-range-by script past (Burst items) q h k item at =
    let n = length (streams script past) in
    let own = (accepted script past (Burst items) (Submitted q) h refl).0 in
    list-in-range n items (none-first (list_refusal n items) (queue_refusal script past items) own) k item at
in-range-by script past (Repeat items) q h k item at =
    list-in-range (length (streams script past)) items (accepted script past (Repeat items) (Submitted q) h refl).0 k item at
in-range-by script past (Configure specs) q h k item at = absurd (cc)
in-range-by script past Stop q h k item at = absurd (cc)
in-range-by script past Wait q h k item at = absurd (cc)
in-range-by script past (Await n) q h k item at = absurd (cc)
in-range-by script past Flush q h k item at = absurd (cc)
in-range-by script past Close q h k item at = absurd (cc)
in-range-by script past Disconnect q h k item at = absurd (cc)

submitted-in-range : (script : Script) (i : ℕ) (word : Word) (q : RequestId) (past : List Entry) → IsAllowed script past (Call i word (Submitted q)) → (k : ℕ) (item : Item) → slice_get (items_of (command_at script i)) k ≡ Some item → range_fault item.settings ≡ None
submitted-in-range script i word q past may k item at =
    let a = answered script past i word (Submitted q) may in
    in-range-by script past a.command q a.gives k item (rw (sym a.next) at)

in-either : (b : Bool) (c d : Option Command) (k : ℕ) (item : Item) → (slice_get (items_of c) k ≡ Some item → range_fault item.settings ≡ None) → (slice_get (items_of d) k ≡ Some item → range_fault item.settings ≡ None) → slice_get (items_of (if b then c else d)) k ≡ Some item → range_fault item.settings ≡ None
in-either true c d k item f g at = f at
in-either false c d k item f g at = g at

-- each item of a request of a legal past has settings in their range
pub item-in-range : (script : Script) (past : List Entry) → IsLegal script past → (r k : ℕ) (item : Item) → item_at script past r k ≡ Some item → range_fault item.settings ≡ None
item-in-range script [] legal r k item at = absurd (cc)
item-in-range script (Call i word (Submitted q) ∷ past) legal r k item at =
    in-either (q.0 == r) (command_at script i) (command_of script past r) k item (submitted-in-range script i word q past legal.0 k item) (item-in-range script past legal.1 r k item) at
item-in-range script (Call i word Ok ∷ past) legal r k item at = item-in-range script past legal.1 r k item at
item-in-range script (Call i word (Configured made) ∷ past) legal r k item at = item-in-range script past legal.1 r k item at
item-in-range script (Call i word (Refused code first second) ∷ past) legal r k item at = item-in-range script past legal.1 r k item at
item-in-range script (Begin word ∷ past) legal r k item at = item-in-range script past legal.1 r k item at
item-in-range script (Send n q i same targets ∷ past) legal r k item at = item-in-range script past legal.1 r k item at
item-in-range script (Dropped n q i ∷ past) legal r k item at = item-in-range script past legal.1 r k item at
item-in-range script (Shutter n time ∷ past) legal r k item at = item-in-range script past legal.1 r k item at
item-in-range script (Partial n j part ∷ past) legal r k item at = item-in-range script past legal.1 r k item at
item-in-range script (Filled n t b f digest ∷ past) legal r k item at = item-in-range script past legal.1 r k item at
item-in-range script (Failed n t b f ∷ past) legal r k item at = item-in-range script past legal.1 r k item at
item-in-range script (ErrorRequest n ∷ past) legal r k item at = item-in-range script past legal.1 r k item at
item-in-range script (ErrorResult n ∷ past) legal r k item at = item-in-range script past legal.1 r k item at
item-in-range script (ErrorBuffer n t ∷ past) legal r k item at = item-in-range script past legal.1 r k item at
item-in-range script (ErrorDevice ∷ past) legal r k item at = item-in-range script past legal.1 r k item at
item-in-range script (Release b f ∷ past) legal r k item at = item-in-range script past legal.1 r k item at
item-in-range script (Signal f ∷ past) legal r k item at = item-in-range script past legal.1 r k item at
item-in-range script (Early n t b f ∷ past) legal r k item at = item-in-range script past legal.1 r k item at
item-in-range script (Late f digest ∷ past) legal r k item at = item-in-range script past legal.1 r k item at

of-send : (script : Script) (past : List Entry) → IsLegal script past → (o : Option Entry) (item : Item) → item_in script past o ≡ Some item → range_fault item.settings ≡ None
of-send script past legal None item at = absurd (cc)
of-send script past legal (Some (Send n r i same targets)) item at = item-in-range script past legal r.0 i item at
of-send script past legal (Some _) item at = absurd (cc)

-- the item of a frame of a legal past has settings in their range
pub frame-in-range : (script : Script) (past : List Entry) → IsLegal script past → (n : ℕ) (item : Item) → item_of script past n ≡ Some item → range_fault item.settings ≡ None
frame-in-range script past legal n item at = of-send script past legal (send_of n past) item at
