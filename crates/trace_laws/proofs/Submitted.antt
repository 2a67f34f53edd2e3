-- The items of accepted onces and bursts: their requests have numbers of their own and don't repeat.
use Rattle.std.proofs.Common.{◌≡◌, ℕ, ◌==◌, ◌+◌, ◌≤◌, Bool, true, false, ◌&&◌, not, List, [], ◌∷◌, Option, Some, None, refl, sym, arith, inl, inr, nat_lt, append-nil}
use Rattle.std.specs.List.{list_all}
use Rattle.std.proofs.lemmas.Bool.{and_from, and_parts, cases_Bool, eq-eqb, eqb-true, false≢true, lt-ltb, ltb-true, ne_eqb}
use Rattle.cam_types.specs.declared.item.Item.{Item}
use Rattle.cam_types.specs.declared.number.RequestId.{RequestId}
use Rattle.cam_types.specs.declared.reply.Reply.{Reply}
use Rattle.cam_types.specs.declared.reply.Reply.TheVariants.{Ok, Submitted, Configured, Refused}
use Rattle.cam_types.specs.declared.script.Command.{Command}
use Rattle.cam_types.specs.declared.script.Command.TheVariants.{Once, Burst, Repeat}
use Rattle.cam_types.specs.declared.script.Script.{Script}
use Rattle.cam_types.specs.declared.script.Word.{Word}
use Rattle.trace_model.specs.declared.entry.Entry.{Entry}
use Rattle.trace_model.specs.declared.entry.Entry.TheVariants.{Call}
use Rattle.trace_model.specs.Calls.{command_at, command_of, is_repeat, is_repeating, is_submission, request_count}
use Rattle.trace_model.specs.Client.{call_due}
use Rattle.trace_model.specs.Legal.{IsLegal}
use Rattle.trace_model.specs.Queue.{named, puts, queued_items, submitted}
use Rattle.cam_types.specs.declared.request.WaitingItem.{WaitingItem}
use Rattle.trace_model.specs.Reply.{acceptance, refusal, reply_with}
use Rattle.trace_laws.proofs.Calls.{call-is}
use Rattle.trace_laws.proofs.Refusals.{refuses, refusal-refuses}
use Rattle.basic_lemmas.proofs.Lists.{all-where, all-append}
use Rattle.basic_lemmas.proofs.Counts.{count-cons}

-- ---- the numbers of requests

same_number : (q : RequestId) (n : ℕ) → q ≡ record { 0 = n } → q.0 ≡ n
same_number q n h = rw h refl

number_given : (script : Script) (past : List Entry) (c : Command) (o : Option Reply) (q : RequestId) → refuses o ≡ true → Submitted q ≡ reply_with o (acceptance script past c) → q.0 ≡ request_count past
number_given script past c (Some (Refused code first second)) q no' h = absurd (cc)
number_given script past c (Some Ok) q no' h = absurd (false≢true no')
number_given script past c (Some (Submitted r)) q no' h = absurd (false≢true no')
number_given script past c (Some (Configured made)) q no' h = absurd (false≢true no')
number_given script past (Once item) None q no' h = same_number q (request_count past) (cc)
number_given script past (Burst items) None q no' h = same_number q (request_count past) (cc)
number_given script past (Repeat items) None q no' h = same_number q (request_count past) (cc)
number_given script past c None q no' h = absurd (cc)

-- an accepted request has the next number
pub request-number : (script : Script) (past : List Entry) (i : ℕ) (w : Word) (q : RequestId) → call_due script past ≡ Some (Call i w (Submitted q)) → q.0 ≡ request_count past
request-number script past i w q h =
    let c = call-is script past i w (Submitted q) h in
    number_given script past c.0 (refusal script past c.0) q (refusal-refuses script past c.0) c.4

requests_after : (past : List Entry) (i : ℕ) (w : Word) (q : RequestId) → request_count (Call i w (Submitted q) ∷ past) ≡ request_count past + 1
requests_after past i w q = let count = count-cons is_submission (Call i w (Submitted q)) past in omega (arith, count)

-- a number that wasn't given has no command
pub not-accepted : (script : Script) (past : List Entry) (r : ℕ) → IsLegal script past → request_count past ≤ r → command_of script past r ≡ None
not-accepted script [] r legal above = refl
not-accepted script (Call i w (Submitted q) ∷ past) r legal above =
    let number = request-number script past i w q legal.0 in
    let after = requests_after past i w q in
    let other : (q.0 == r) ≡ false = ne_eqb q.0 r (λ at. absurd (omega (arith, number, after, above, at))) in
    rw other (not-accepted script past r legal.1 (omega (arith, after, above)))
not-accepted script (e ∷ past) r legal above = not-accepted script past r legal.1 above

-- what doesn't repeat once it was accepted didn't before
pub not-repeating-before : (script : Script) (past : List Entry) (i : ℕ) (w : Word) (q : RequestId) (r : ℕ) → IsLegal script past → call_due script past ≡ Some (Call i w (Submitted q)) → is_repeating script (Call i w (Submitted q) ∷ past) r ≡ false → is_repeating script past r ≡ false
not-repeating-before script past i w q r legal may h =
    elim (cases_Bool (q.0 == r)) [
      | inl here ↦ (
          let number = request-number script past i w q may in
          let at = eqb-true q.0 r here in
          let none = not-accepted script past r legal (omega (arith, number, at)) in
          rw none refl
          )
      | inr other ↦ rw other at h
    ]

-- ---- what was submitted doesn't repeat

-- the item's request was accepted, and isn't a repeating one
abbrev pub is_settled : Script → List Entry → WaitingItem → Bool
is_settled script past w = nat_lt w.request.0 (request_count past) && not (is_repeating script past w.request.0)

stays_settled : (script : Script) (past : List Entry) (i : ℕ) (word : Word) (q : RequestId) (w : WaitingItem) → q.0 ≡ request_count past → is_settled script past w ≡ true → is_settled script (Call i word (Submitted q) ∷ past) w ≡ true
stays_settled script past i word q w number h =
    let parts = and_parts (nat_lt w.request.0 (request_count past)) (not (is_repeating script past w.request.0)) h in
    let less = ltb-true w.request.0 (request_count past) parts.0 in
    let after = requests_after past i word q in
    let other : (q.0 == w.request.0) ≡ false = ne_eqb q.0 w.request.0 (λ at. absurd (omega (arith, number, less, at))) in
    let still : not (is_repeating script (Call i word (Submitted q) ∷ past) w.request.0) ≡ true = rw other parts.1 in
    and_from (nat_lt w.request.0 (request_count (Call i word (Submitted q) ∷ past))) (not (is_repeating script (Call i word (Submitted q) ∷ past) w.request.0)) (lt-ltb w.request.0 (request_count (Call i word (Submitted q) ∷ past)) (omega (arith, less, after))) still

now_settled : (script : Script) (past : List Entry) (i : ℕ) (word : Word) (q : RequestId) (w : WaitingItem) → q.0 ≡ request_count past → is_repeat (command_at script i) ≡ false → w.request.0 ≡ q.0 → is_settled script (Call i word (Submitted q) ∷ past) w ≡ true
now_settled script past i word q w number once at =
    let after = requests_after past i word q in
    let here : (q.0 == w.request.0) ≡ true = eq-eqb q.0 w.request.0 (sym at) in
    let still : not (is_repeating script (Call i word (Submitted q) ∷ past) w.request.0) ≡ true = rw (here, once) refl in
    and_from (nat_lt w.request.0 (request_count (Call i word (Submitted q) ∷ past))) (not (is_repeating script (Call i word (Submitted q) ∷ past) w.request.0)) (lt-ltb w.request.0 (request_count (Call i word (Submitted q) ∷ past)) (omega (arith, number, after, at))) still

-- each item of a request has its number
named_all : (p : WaitingItem → Bool) (r : RequestId) (k : ℕ) (items : List Item) → ((w : WaitingItem) → w.request.0 ≡ r.0 → p w ≡ true) → list_all p (named r k items) ≡ true
named_all p r k [] each = refl
named_all p r k (item ∷ items) each =
    let w : WaitingItem = record { request = r; index = k; item = item } in
    and_from (p w) (list_all p (named r (k + 1) items)) (each w refl) (named_all p r (k + 1) items each)

new_settled : (p : WaitingItem → Bool) (r : RequestId) (o : Option Command) → (is_repeat o ≡ false → (w : WaitingItem) → w.request.0 ≡ r.0 → p w ≡ true) → list_all p (named r 0 (queued_items o)) ≡ true
new_settled p r (Some (Once item)) each = named_all p r 0 (item ∷ []) (each refl)
new_settled p r (Some (Burst items)) each = named_all p r 0 items (each refl)
new_settled p r o each = refl

pub settled : (script : Script) (past : List Entry) → IsLegal script past → list_all (is_settled script past) (submitted script past) ≡ true
settled script [] legal = refl
settled script (Call i word (Submitted q) ∷ past) legal =
    let number = request-number script past i word q legal.0 in
    let p : WaitingItem → Bool = is_settled script (Call i word (Submitted q) ∷ past) in
    let old = all-where (is_settled script past) p (submitted script past) (λ w h. stays_settled script past i word q w number h) (settled script past legal.1) in
    let new = new_settled p q (command_at script i) (λ once w at. now_settled script past i word q w number once at) in
    all-append p (submitted script past) (puts script (Call i word (Submitted q))) old new
settled script (e ∷ past) legal = rw (append-nil (submitted script past)) (settled script past legal.1)
