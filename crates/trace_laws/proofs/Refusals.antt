-- What refuses a command is a refusal.
use Rattle.std.proofs.Common.{◌≡◌, ℕ, ◌+◌, Bool, true, false, List, [], ◌∷◌, Option, Some, None, refl, find, length, take, nat_lt, count_by, not, ◌&&◌, if◌then◌else◌}
use Rattle.std.specs.Prelude.{is_some}
use Rattle.std.specs.List.{list_any, position_from}
use Rattle.cam_types.specs.Picture.{is_size_of}
use Rattle.cam_types.specs.Metadata.{range_fault}
use Rattle.cam_types.specs.declared.item.Item.{Item}
use Rattle.cam_types.specs.declared.reply.Reply.{Reply}
use Rattle.cam_types.specs.declared.script.Command.{Command}
use Rattle.cam_types.specs.declared.script.Command.TheVariants.{Configure, Once, Burst, Repeat, Stop, Wait, Await}
use Rattle.cam_types.specs.declared.script.Script.{Script}
use Rattle.cam_types.specs.declared.stream.StreamSpec.{StreamSpec}
use Rattle.trace_model.specs.declared.entry.Entry.{Entry}
use Rattle.trace_model.specs.Calls.{word_of, is_closing_word, is_closed}
use Rattle.trace_model.specs.Configuration.{streams, is_configured}
use Rattle.trace_model.specs.Entry.{is_refusal}
use Rattle.trace_model.specs.Queue.{repeating, queued}
use Rattle.trace_model.specs.Reply.{is_configure_command, state_refusal, queue_refusal, own_refusal, refusal}
use Rattle.cam_types.specs.Refusals.{refused, or_else, where_true, with_value, first_repeated, targets_refusal, items_refusal, list_refusal, is_raw, is_yuv, at_place, specs_refusal}
use Rattle.trace_model.specs.Stopping.{has_failed}

abbrev pub refuses : Option Reply → Bool
refuses (Some r) = is_refusal r
refuses None = true

pub or-refuses : (a b : Option Reply) → refuses a ≡ true → refuses b ≡ true → refuses (or_else a b) ≡ true
or-refuses (Some r) b h k = h
or-refuses None b h k = k

where-refuses : (t : Bool) (code : ℕ) → refuses (where_true t (refused code)) ≡ true
where-refuses true code = refl
where-refuses false code = refl

pub value-refuses : (code i : ℕ) (o : Option ℕ) → refuses (with_value code i o) ≡ true
value-refuses code i (Some value) = refl
value-refuses code i None = refl

targets-refuse : (n i : ℕ) (targets : List ℕ) → refuses (targets_refusal n i targets) ≡ true
targets-refuse n i [] = refl
targets-refuse n i (t ∷ targets) =
    or-refuses (with_value 6 i (find (λ s. not (nat_lt s n)) (t ∷ targets))) (with_value 7 i (first_repeated [] (t ∷ targets)))
    (value-refuses 6 i (find (λ s. not (nat_lt s n)) (t ∷ targets))) (value-refuses 7 i (first_repeated [] (t ∷ targets)))

items-refuse : (n i : ℕ) (items : List Item) → refuses (items_refusal n i items) ≡ true
items-refuse n i [] = refl
items-refuse n i (item ∷ items) =
    let targets = targets_refusal n i (take item.targets.count item.targets.list) in
    let setting = with_value 8 i (range_fault item.settings) in
    or-refuses (or_else targets setting) (items_refusal n (i + 1) items)
    (or-refuses targets setting (targets-refuse n i (take item.targets.count item.targets.list)) (value-refuses 8 i (range_fault item.settings)))
    (items-refuse n (i + 1) items)

list-refuses : (n : ℕ) (items : List Item) → refuses (list_refusal n items) ≡ true
list-refuses n [] = refl
list-refuses n (item ∷ items) = items-refuse n 0 (item ∷ items)

by_specs : (a b c f g : Bool) (d e : Option ℕ) → refuses (or_else (where_true a (refused 21)) (or_else (where_true b (refused 22)) (or_else (where_true c (refused 23)) (or_else (at_place 24 d) (or_else (at_place 25 e) (or_else (where_true f (refused 26)) (where_true g (refused 27)))))))) ≡ true
by_specs true b c f g d e = refl
by_specs false true c f g d e = refl
by_specs false false true f g d e = refl
by_specs false false false f g (Some i) e = refl
by_specs false false false f g None (Some i) = refl
by_specs false false false true g None None = refl
by_specs false false false false g None None = where-refuses g 27

pub specs-refuse : (specs : List StreamSpec) → refuses (specs_refusal specs) ≡ true
specs-refuse specs =
    by_specs (not (list_any (λ s. not s.input) specs)) (nat_lt 4 (length specs)) (list_any (λ s. s.input) specs)
    (nat_lt 1 (count_by (λ s. is_raw s.format) specs)) (nat_lt 3 (count_by (λ s. is_yuv s.format) specs))
    (position_from (λ s. not (is_raw s.format) && not (is_yuv s.format)) 0 specs) (position_from (λ s. not (is_size_of s.format s.width s.height)) 0 specs)

pub queue-refuses : (script : Script) (past : List Entry) (items : List Item) → refuses (queue_refusal script past items) ≡ true
queue-refuses script past items = where-refuses (nat_lt 256 (length (queued script past) + length items)) 11

pub own-refuses : (script : Script) (past : List Entry) (c : Command) → refuses (own_refusal script past c) ≡ true
own-refuses script past (Configure specs) = specs-refuse specs
own-refuses script past (Once item) = or-refuses (items_refusal (length (streams script past)) 0 (item ∷ [])) (queue_refusal script past (item ∷ [])) (items-refuse (length (streams script past)) 0 (item ∷ [])) (queue-refuses script past (item ∷ []))
own-refuses script past (Burst items) = or-refuses (list_refusal (length (streams script past)) items) (queue_refusal script past items) (list-refuses (length (streams script past)) items) (queue-refuses script past items)
own-refuses script past (Repeat items) = list-refuses (length (streams script past)) items
own-refuses script past Stop = where-refuses (not (is_some (repeating script past))) 9
own-refuses script past (Await k) = where-refuses (not (is_some (repeating script past))) 9
own-refuses script past Wait = where-refuses (is_some (repeating script past)) 10
own-refuses script past _ = refl

by_state : (closed closing failed missing : Bool) → refuses (if closed then Some (refused 2) else (if closing then None else (if failed then Some (refused 3) else where_true missing (refused 1)))) ≡ true
by_state true closing failed missing = refl
by_state false true failed missing = refl
by_state false false true missing = refl
by_state false false false missing = where-refuses missing 1

pub state-refuses : (past : List Entry) (c : Command) → refuses (state_refusal past c) ≡ true
state-refuses past c = by_state (is_closed past) (is_closing_word (word_of c)) (has_failed past) (not (is_configure_command c) && not (is_configured past))

pub refusal-refuses : (script : Script) (past : List Entry) (c : Command) → refuses (refusal script past c) ≡ true
refusal-refuses script past c = or-refuses (state_refusal past c) (own_refusal script past c) (state-refuses past c) (own-refuses script past c)
