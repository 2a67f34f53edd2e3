use Rattle.std.proofs.Common.{◌≡◌, ◌==◌, ℕ, Bool, [], ◌∷◌, ◌&&◌, true, if◌then◌else◌, Option, None, Some, sym, ap, ◌∙◌, arith}
use Rattle.std.specs.Prelude.{is_some, take}
use Rattle.std.proofs.lemmas.Bool.{and_parts}
use Rattle.std.specs.List.{list_any}
use Rattle.cam_types.specs.Four.{four_list}
use Rattle.cam_types.specs.declared.four.Four.{Four}
use Rattle.trace_model.specs.declared.entry.Sent.{Sent}
use Rattle.state_facts.specs.Homes.{Homes}
use Rattle.buffer_manager.specs.Managed.{Managed, homes_with, sent_away, sent_if}
use Rattle.buffer_manager.specs.Taking.{has_each, has_one, least_target_in, no_four, put_before, target_if}
use Rattle.buffer_manager.proofs.Targets.{none-parked, room-one, room-three, room-two, sent-all, targets-are}
use Rattle.buffer_manager.proofs.manager.BufferManager.take.Goals as goal

-- one more target, whose stream stands as it stood at first, before those of which this is known
put-next : (m now : Managed) (asked : Bool) (s : ℕ) (others after known : Four Sent) → least_target_in (homes_with [] now) s ≡ least_target_in (homes_with [] m) s → others ≡ known → after ≡ put_before (target_if asked (homes_with [] now) s) others → after ≡ put_before (target_if asked (homes_with [] m) s) known
put-next m now asked s others after known same is put =
    put
    ∙ (ap (λ (t : Option Sent). put_before (if asked then t else None) others) same
    ∙ ap (λ (f : Four Sent). put_before (target_if asked (homes_with [] m) s) f) is)

-- and what is left when it went
sent-next : (m now : Managed) (asked : Bool) (s : ℕ) (after known : Managed) → least_target_in (homes_with [] now) s ≡ least_target_in (homes_with [] m) s → now ≡ known → after ≡ sent_if (target_if asked (homes_with [] now) s) now → after ≡ sent_if (target_if asked (homes_with [] m) s) known
sent-next m now asked s after known same is sent =
    sent
    ∙ (ap (λ (t : Option Sent). sent_if (if asked then t else None) now) same
    ∙ ap (λ (x : Managed). sent_if (target_if asked (homes_with [] m) s) x) is)

-- each stream that is asked for has a buffer at home
there-of : (homes : Homes) (stream : ℕ) (asked : Bool) → has_one homes asked stream ≡ true → asked ≡ true → is_some (least_target_in homes stream) ≡ true
there-of homes stream asked one wanted = rw wanted at one

each-of : (homes : Homes) (a b c d : Bool) → has_each homes (a ∷ b ∷ c ∷ d ∷ []) ≡ true → (has_one homes a 0 ≡ true) × (has_one homes b 1 ≡ true) × (has_one homes c 2 ≡ true) × (has_one homes d 3 ≡ true)
each-of homes a b c d all =
    let first = and_parts (has_one homes a 0) (has_one homes b 1 && (has_one homes c 2 && has_one homes d 3)) all in
    let second = and_parts (has_one homes b 1) (has_one homes c 2 && has_one homes d 3) first.1 in
    let third = and_parts (has_one homes c 2) (has_one homes d 3) second.1 in
    (first.0, second.0, third.0, third.1)

pub take_before-last-requires-clause-there : goal.take_before-last-requires-clause-there
take_before-last-requires-clause-there c =
    let each = each-of (homes_with [] c.args.self.now) c.asks.result c.asks-2.result c.asks-3.result c.asks-4.result (sym c.has_each.ensures ∙ c.if-not-has_each.false) in
    there-of (homes_with [] c.args.self.now) 3 c.asks-4.result each.3

pub take_before-third-requires-clause-there : goal.take_before-third-requires-clause-there
take_before-third-requires-clause-there c =
    let each = each-of (homes_with [] c.args.self.now) c.asks.result c.asks-2.result c.asks-3.result c.asks-4.result (sym c.has_each.ensures ∙ c.if-not-has_each.false) in
    λ wanted. rw (c.take_before-last.ensures.rest 2 (λ e. omega (arith, e))) (there-of (homes_with [] c.args.self.now) 2 c.asks-3.result each.2 wanted)

pub take_before-second-requires-clause-there : goal.take_before-second-requires-clause-there
take_before-second-requires-clause-there c =
    let each = each-of (homes_with [] c.args.self.now) c.asks.result c.asks-2.result c.asks-3.result c.asks-4.result (sym c.has_each.ensures ∙ c.if-not-has_each.false) in
    λ wanted. rw (c.take_before-third.ensures.rest 1 (λ e. omega (arith, e)), c.take_before-last.ensures.rest 1 (λ e. omega (arith, e))) (there-of (homes_with [] c.args.self.now) 1 c.asks-2.result each.1 wanted)

pub take_before-requires-clause-there : goal.take_before-requires-clause-there
take_before-requires-clause-there c =
    let each = each-of (homes_with [] c.args.self.now) c.asks.result c.asks-2.result c.asks-3.result c.asks-4.result (sym c.has_each.ensures ∙ c.if-not-has_each.false) in
    λ wanted. rw (c.take_before-second.ensures.rest 0 (λ e. omega (arith, e)), c.take_before-third.ensures.rest 0 (λ e. omega (arith, e)), c.take_before-last.ensures.rest 0 (λ e. omega (arith, e))) (there-of (homes_with [] c.args.self.now) 0 c.asks.result each.0 wanted)

pub take_before-third-requires-clause-taken : goal.take_before-third-requires-clause-taken
take_before-third-requires-clause-taken c = c.take_before-last.ensures.taken

pub take_before-second-requires-clause-taken : goal.take_before-second-requires-clause-taken
take_before-second-requires-clause-taken c = c.take_before-third.ensures.taken

pub take_before-requires-clause-taken : goal.take_before-requires-clause-taken
take_before-requires-clause-taken c = c.take_before-second.ensures.taken

pub returns-clause-parked : goal.returns-clause-parked
returns-clause-parked c =
    rw (← c.take_before-last.ensures.specs, ← c.take_before-third.ensures.specs, ← c.take_before-second.ensures.specs, ← c.take_before.ensures.specs) c.take_before.ensures.taken

pub take_before-third-requires-clause-room : goal.take_before-third-requires-clause-room
take_before-third-requires-clause-room c =
    let last = rw c.no_buffers-none.ensures.0 at c.take_before-last.ensures.targets in
    let room = ap (λ (f : Four Sent). f.d) last ∙ room-one (target_if c.asks-4.result (homes_with [] c.args.self.now) 3) in
    (room, none-parked c.take_before-last.new.self.specs c.take_before-last.result.0.d c.take_before-last.result.1.d room c.take_before-last.ensures.taken.d)

pub take_before-second-requires-clause-room : goal.take_before-second-requires-clause-room
take_before-second-requires-clause-room c =
    let last = rw c.no_buffers-none.ensures.0 at c.take_before-last.ensures.targets in
    let third = put-next c.args.self.now c.take_before-last.new.self c.asks-3.result 2 c.take_before-last.result.0 c.take_before-third.result.0 (put_before (target_if c.asks-4.result (homes_with [] c.args.self.now) 3) no_four) (c.take_before-last.ensures.rest 2 (λ e. omega (arith, e))) last c.take_before-third.ensures.targets in
    let room = ap (λ (f : Four Sent). f.d) third ∙ room-two (target_if c.asks-3.result (homes_with [] c.args.self.now) 2) (target_if c.asks-4.result (homes_with [] c.args.self.now) 3) in
    (room, none-parked c.take_before-third.new.self.specs c.take_before-third.result.0.d c.take_before-third.result.1.d room c.take_before-third.ensures.taken.d)

pub take_before-requires-clause-room : goal.take_before-requires-clause-room
take_before-requires-clause-room c =
    let last = rw c.no_buffers-none.ensures.0 at c.take_before-last.ensures.targets in
    let third = put-next c.args.self.now c.take_before-last.new.self c.asks-3.result 2 c.take_before-last.result.0 c.take_before-third.result.0 (put_before (target_if c.asks-4.result (homes_with [] c.args.self.now) 3) no_four) (c.take_before-last.ensures.rest 2 (λ e. omega (arith, e))) last c.take_before-third.ensures.targets in
    let second = put-next c.args.self.now c.take_before-third.new.self c.asks-2.result 1 c.take_before-third.result.0 c.take_before-second.result.0 (put_before (target_if c.asks-3.result (homes_with [] c.args.self.now) 2) (put_before (target_if c.asks-4.result (homes_with [] c.args.self.now) 3) no_four)) (c.take_before-third.ensures.rest 1 (λ e. omega (arith, e)) ∙ c.take_before-last.ensures.rest 1 (λ e. omega (arith, e))) third c.take_before-second.ensures.targets in
    let room = ap (λ (f : Four Sent). f.d) second ∙ room-three (target_if c.asks-2.result (homes_with [] c.args.self.now) 1) (target_if c.asks-3.result (homes_with [] c.args.self.now) 2) (target_if c.asks-4.result (homes_with [] c.args.self.now) 3) in
    (room, none-parked c.take_before-second.new.self.specs c.take_before-second.result.0.d c.take_before-second.result.1.d room c.take_before-second.ensures.taken.d)

pub returns-clause-targets : goal.returns-clause-targets
returns-clause-targets c =
    let last = rw c.no_buffers-none.ensures.0 at c.take_before-last.ensures.targets in
    let third = put-next c.args.self.now c.take_before-last.new.self c.asks-3.result 2 c.take_before-last.result.0 c.take_before-third.result.0 (put_before (target_if c.asks-4.result (homes_with [] c.args.self.now) 3) no_four) (c.take_before-last.ensures.rest 2 (λ e. omega (arith, e))) last c.take_before-third.ensures.targets in
    let second = put-next c.args.self.now c.take_before-third.new.self c.asks-2.result 1 c.take_before-third.result.0 c.take_before-second.result.0 (put_before (target_if c.asks-3.result (homes_with [] c.args.self.now) 2) (put_before (target_if c.asks-4.result (homes_with [] c.args.self.now) 3) no_four)) (c.take_before-third.ensures.rest 1 (λ e. omega (arith, e)) ∙ c.take_before-last.ensures.rest 1 (λ e. omega (arith, e))) third c.take_before-second.ensures.targets in
    let first = put-next c.args.self.now c.take_before-second.new.self c.asks.result 0 c.take_before-second.result.0 c.take_before.result.0 (put_before (target_if c.asks-2.result (homes_with [] c.args.self.now) 1) (put_before (target_if c.asks-3.result (homes_with [] c.args.self.now) 2) (put_before (target_if c.asks-4.result (homes_with [] c.args.self.now) 3) no_four))) (c.take_before-second.ensures.rest 0 (λ e. omega (arith, e)) ∙ (c.take_before-third.ensures.rest 0 (λ e. omega (arith, e)) ∙ c.take_before-last.ensures.rest 0 (λ e. omega (arith, e)))) second c.take_before.ensures.targets in
    let each = rw (c.asks.ensures, c.asks-2.ensures, c.asks-3.ensures, c.asks-4.ensures) at (sym c.has_each.ensures ∙ c.if-not-has_each.false) in
    let first' = rw (c.asks.ensures, c.asks-2.ensures, c.asks-3.ensures, c.asks-4.ensures) at first in
    ap (λ (f : Four Sent). Some f) first' ∙ sym (targets-are (homes_with [] c.args.self.now) (λ s. list_any (λ t. t == s) (take c.args.item.now.targets.count c.args.item.now.targets.list)) each)

pub returns-clause-places : goal.returns-clause-places
returns-clause-places c =
    let state-third = sent-next c.args.self.now c.take_before-last.new.self c.asks-3.result 2 c.take_before-third.new.self (sent_if (target_if c.asks-4.result (homes_with [] c.args.self.now) 3) c.args.self.now) (c.take_before-last.ensures.rest 2 (λ e. omega (arith, e))) c.take_before-last.ensures.places c.take_before-third.ensures.places in
    let state-second = sent-next c.args.self.now c.take_before-third.new.self c.asks-2.result 1 c.take_before-second.new.self (sent_if (target_if c.asks-3.result (homes_with [] c.args.self.now) 2) (sent_if (target_if c.asks-4.result (homes_with [] c.args.self.now) 3) c.args.self.now)) (c.take_before-third.ensures.rest 1 (λ e. omega (arith, e)) ∙ c.take_before-last.ensures.rest 1 (λ e. omega (arith, e))) state-third c.take_before-second.ensures.places in
    let state = sent-next c.args.self.now c.take_before-second.new.self c.asks.result 0 c.take_before.new.self (sent_if (target_if c.asks-2.result (homes_with [] c.args.self.now) 1) (sent_if (target_if c.asks-3.result (homes_with [] c.args.self.now) 2) (sent_if (target_if c.asks-4.result (homes_with [] c.args.self.now) 3) c.args.self.now))) (c.take_before-second.ensures.rest 0 (λ e. omega (arith, e)) ∙ (c.take_before-third.ensures.rest 0 (λ e. omega (arith, e)) ∙ c.take_before-last.ensures.rest 0 (λ e. omega (arith, e)))) state-second c.take_before.ensures.places in
    let last = rw c.no_buffers-none.ensures.0 at c.take_before-last.ensures.targets in
    let third = put-next c.args.self.now c.take_before-last.new.self c.asks-3.result 2 c.take_before-last.result.0 c.take_before-third.result.0 (put_before (target_if c.asks-4.result (homes_with [] c.args.self.now) 3) no_four) (c.take_before-last.ensures.rest 2 (λ e. omega (arith, e))) last c.take_before-third.ensures.targets in
    let second = put-next c.args.self.now c.take_before-third.new.self c.asks-2.result 1 c.take_before-third.result.0 c.take_before-second.result.0 (put_before (target_if c.asks-3.result (homes_with [] c.args.self.now) 2) (put_before (target_if c.asks-4.result (homes_with [] c.args.self.now) 3) no_four)) (c.take_before-third.ensures.rest 1 (λ e. omega (arith, e)) ∙ c.take_before-last.ensures.rest 1 (λ e. omega (arith, e))) third c.take_before-second.ensures.targets in
    let first = put-next c.args.self.now c.take_before-second.new.self c.asks.result 0 c.take_before-second.result.0 c.take_before.result.0 (put_before (target_if c.asks-2.result (homes_with [] c.args.self.now) 1) (put_before (target_if c.asks-3.result (homes_with [] c.args.self.now) 2) (put_before (target_if c.asks-4.result (homes_with [] c.args.self.now) 3) no_four))) (c.take_before-second.ensures.rest 0 (λ e. omega (arith, e)) ∙ (c.take_before-third.ensures.rest 0 (λ e. omega (arith, e)) ∙ c.take_before-last.ensures.rest 0 (λ e. omega (arith, e)))) second c.take_before.ensures.targets in
    state ∙ (sent-all (target_if c.asks.result (homes_with [] c.args.self.now) 0) (target_if c.asks-2.result (homes_with [] c.args.self.now) 1) (target_if c.asks-3.result (homes_with [] c.args.self.now) 2) (target_if c.asks-4.result (homes_with [] c.args.self.now) 3) c.args.self.now ∙ ap (λ (f : Four Sent). sent_away (four_list f) c.args.self.now) (sym first))
