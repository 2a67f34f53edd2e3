-- Each number that a legal run of an orderless script gives away names the script's item.
use Rattle.std.proofs.Common.{◌≡◌, ℕ, zero, suc, ◌==◌, ◌+◌, ◌-◌, ◌<◌, ◌≤◌, Bool, true, false, List, [], ◌∷◌, ◌++◌, Option, Some, None, refl, sym, ap, ◌∙◌, arith, inl, inr, length, drop, nat_lt, slice_get, append-nil, length-append, if◌then◌else◌}
use Rattle.std.proofs.lemmas.Bool.{cases_Bool, eqb-true, false≢true}
use Rattle.std.proofs.lemmas.List.{drop-append-le}
use Rattle.cam_types.specs.declared.four.Four.{Four}
use Rattle.cam_types.specs.declared.number.FrameNo.{FrameNo}
use Rattle.cam_types.specs.declared.number.RequestId.{RequestId}
use Rattle.cam_types.specs.declared.profile.Profile.{Profile}
use Rattle.cam_types.specs.declared.reply.Reply.{Reply}
use Rattle.cam_types.specs.declared.reply.Reply.TheVariants.{Submitted}
use Rattle.cam_types.specs.declared.request.WaitingItem.{WaitingItem}
use Rattle.cam_types.specs.declared.script.Command.{Command}
use Rattle.cam_types.specs.declared.script.Script.{Script}
use Rattle.trace_model.specs.declared.entry.Entry.{Entry}
use Rattle.trace_model.specs.declared.entry.Entry.TheVariants.{Call, Send, Dropped}
use Rattle.trace_model.specs.declared.entry.Sent.{Sent}
use Rattle.trace_model.specs.Drop.{drop_due, drop_of}
use Rattle.trace_model.specs.Entry.{is_numbering}
use Rattle.trace_model.specs.Legal.{IsLegal}
use Rattle.trace_model.specs.Numbers.{call_count, next_number}
use Rattle.trace_model.specs.Queue.{first_in, next_from, next_repeating, puts, queued, repeating, submitted}
use Rattle.trace_model.specs.Send.{fits_next, may_send}
use Rattle.trace_model.specs.Stopping.{is_stopping}
use Rattle.trace_model.proofs.LawLemmas.{goes}
use Rattle.trace_laws.proofs.Calls.{calls_bounded}
use Rattle.basic_lemmas.proofs.Counts.{count-one}
use Rattle.state_facts.specs.Turns.{Turns, tail}
use Rattle.state_facts.proofs.Steps.{noted_is}
use Rattle.logical_call.specs.Courses.{Course, after, course, item_of, items_after, reply_to}
use Rattle.logical_call.specs.Laws.{ItemsAgree, ItemsAreTheScripts}
use Rattle.logical_call.specs.Orderless.{AreTwins}
use Rattle.logical_call.specs.Taken.{Name, name_of, taken_in}
use Rattle.logical_call.proofs.Courses.{course-is, course_at}
use Rattle.logical_call.proofs.Replies.{at-one, none-yet, one-on, read-in, same-some}
use Rattle.logical_call.proofs.Steady.{Orderless, never-repeats, orderless}

-- ---- lists

drop-next : {X : Type 0} (n : ℕ) (xs : List X) → tail (drop n xs) ≡ drop (1 + n) xs
drop-next zero [] = refl
drop-next zero (x ∷ xs) = refl
drop-next (suc n) [] = let e : 1 + suc n ≡ suc (1 + n) = omega arith in rw e refl
drop-next (suc n) (x ∷ xs) = let e : 1 + suc n ≡ suc (1 + n) = omega arith in rw e (drop-next n xs)

first-left : {X : Type 0} (n : ℕ) (xs rest : List X) (x : X) → drop n xs ≡ x ∷ rest → slice_get xs n ≡ Some x
first-left zero [] rest x h = absurd (cc)
first-left zero (y ∷ xs) rest x h = let same : y ≡ x = cc in rw same refl
first-left (suc n) [] rest x h = absurd (cc)
first-left (suc n) (y ∷ xs) rest x h = first-left n xs rest x h

get-within : {X : Type 0} (n : ℕ) (xs : List X) (x : X) → slice_get xs n ≡ Some x → n < length xs
get-within n [] x h = absurd (cc)
get-within zero (y ∷ xs) x h = omega arith
get-within (suc n) (y ∷ xs) x h = let ih = get-within n xs x h in omega (arith, ih)

get-append : {X : Type 0} (n : ℕ) (xs ys : List X) (x : X) → slice_get xs n ≡ Some x → slice_get (xs ++ ys) n ≡ Some x
get-append n [] ys x h = absurd (cc)
get-append zero (y ∷ xs) ys x h = h
get-append (suc n) (y ∷ xs) ys x h = get-append n xs ys x h

pub none-left : {X : Type 0} (n : ℕ) (xs : List X) → drop n xs ≡ [] → length xs ≤ n
none-left n [] h = omega arith
none-left zero (x ∷ xs) h = absurd (cc)
none-left (suc n) (x ∷ xs) h = let ih = none-left n xs h in omega (arith, ih)

-- ---- the queue is what was accepted, without as many as numbers were given away

pub record InTurn (script : Script) (past : List Entry) : Type 0 where
  pub waiting : queued script past ≡ drop (next_number past) (submitted script past)
  pub within : next_number past ≤ length (submitted script past)

-- what is first is the next number's
pub record First (script : Script) (past : List Entry) (n r i : ℕ) (w : WaitingItem) : Type 0 where
  pub number : n ≡ next_number past
  pub item : slice_get (submitted script past) (next_number past) ≡ Some w
  pub request : r ≡ w.request.0
  pub index : i ≡ w.index

abbrev pub HasFirst : Script → List Entry → ℕ → ℕ → ℕ → Type 0
HasFirst script past n r i = (w : WaitingItem) × First script past n r i w

sent-first : (script : Script) (past : List Entry) (xs : List WaitingItem) (n r i : ℕ) (same : Bool) (targets : Four Sent) → queued script past ≡ xs → InTurn script past → fits_next script past (next_from (first_in xs) (next_repeating None past)) n r i same targets ≡ true → HasFirst script past n r i
sent-first script past [] n r i same targets at turn may = absurd (false≢true may)
sent-first script past (w ∷ rest) n r i same targets at turn may =
    let g = goes script past (record { request = w.request; index = w.index; item = w.item; repeating = false }) n r i same targets may in
    (w, record { number = g.number; item = first-left (next_number past) (submitted script past) rest w (sym turn.waiting ∙ at); request = g.request; index = g.index })

pub send-first : (script : Script) (past : List Entry) (n r i : ℕ) (same : Bool) (targets : Four Sent) → InTurn script past → repeating script past ≡ None → may_send script past n r i same targets ≡ true → HasFirst script past n r i
send-first script past n r i same targets turn none may =
    let may' : fits_next script past (next_from (first_in (queued script past)) (next_repeating None past)) n r i same targets ≡ true = rw none at may in
    sent-first script past (queued script past) n r i same targets refl turn may'

dropped-first : (script : Script) (past : List Entry) (xs : List WaitingItem) (stopping : Bool) (n : FrameNo) (r : RequestId) (i : ℕ) → queued script past ≡ xs → InTurn script past → (if stopping then drop_of past (first_in xs) else None) ≡ Some (Dropped n r i) → HasFirst script past n.0 r.0 i
dropped-first script past [] true n r i at turn h = absurd (cc)
dropped-first script past [] false n r i at turn h = absurd (cc)
dropped-first script past (w ∷ rest) false n r i at turn h = absurd (cc)
dropped-first script past (w ∷ rest) true n r i at turn h =
    let number : n ≡ record { 0 = next_number past } = cc in
    let request : w.request ≡ r = cc in
    let index : w.index ≡ i = cc in
    (w, record { number = rw number refl; item = first-left (next_number past) (submitted script past) rest w (sym turn.waiting ∙ at); request = rw (← request) refl; index = sym index })

pub drop-first : (script : Script) (past : List Entry) (n : FrameNo) (r : RequestId) (i : ℕ) → InTurn script past → drop_due script past ≡ Some (Dropped n r i) → HasFirst script past n.0 r.0 i
drop-first script past n r i turn h = dropped-first script past (queued script past) (is_stopping past) n r i refl turn h

taken-on : (script : Script) (past : List Entry) (e : Entry) (w : WaitingItem) → puts script e ≡ [] → is_numbering e ≡ true → queued script (e ∷ past) ≡ tail (queued script past) → InTurn script past → slice_get (submitted script past) (next_number past) ≡ Some w → InTurn script (e ∷ past)
taken-on script past e w none here left turn at =
    let one = count-one is_numbering e past here in
    let all : submitted script (e ∷ past) ≡ submitted script past = rw none (append-nil (submitted script past)) in
    let less = get-within (next_number past) (submitted script past) w at in
    record {
      waiting = left ∙ (ap (λ (ws : List WaitingItem). tail ws) turn.waiting ∙ (drop-next (next_number past) (submitted script past) ∙ rw (one, all) refl));
      within = rw (one, all) (omega (arith, less));
    }

pub in-turn : (script : Script) (past : List Entry) → Orderless script → IsLegal script past → InTurn script past
in-turn script [] ok legal = record { waiting = refl; within = omega arith }
in-turn script (Call j word r ∷ past) ok legal =
    let ih = in-turn script past ok legal.1 in
    let step = ap (λ (t : Turns). t.waiting) (noted_is script past (Call j word r) legal) in
    let fits = ih.within in
    record {
      waiting = step ∙ (ap (λ (ws : List WaitingItem). ws ++ puts script (Call j word r)) ih.waiting ∙ sym (drop-append-le (next_number past) (submitted script past) (puts script (Call j word r)) fits));
      within = rw length-append (omega (arith, fits));
    }
in-turn script (Send n r i same targets ∷ past) ok legal =
    let ih = in-turn script past ok legal.1 in
    let step = ap (λ (t : Turns). t.waiting) (noted_is script past (Send n r i same targets) legal) in
    let first = send-first script past n.0 r.0 i same targets ih (never-repeats script past ok.plain legal.1) legal.0 in
    taken-on script past (Send n r i same targets) first.0 refl refl step ih first.1.item
in-turn script (Dropped n r i ∷ past) ok legal =
    let ih = in-turn script past ok legal.1 in
    let step = ap (λ (t : Turns). t.waiting) (noted_is script past (Dropped n r i) legal) in
    let first = drop-first script past n r i ih legal.0 in
    taken-on script past (Dropped n r i) first.0 refl refl step ih first.1.item
in-turn script (e ∷ past) ok legal =
    let ih = in-turn script past ok legal.1 in
    let step = ap (λ (t : Turns). t.waiting) (noted_is script past e legal) in
    let fits = ih.within in
    record { waiting = step ∙ (ih.waiting ∙ rw (append-nil (submitted script past)) refl); within = rw (append-nil (submitted script past)) fits }

-- ---- the items that a past has are the first of the script's

get-after : (p : Profile) (o : Option Command) (t : Course) (n : ℕ) (w : WaitingItem) → slice_get t.items n ≡ Some w → slice_get (after p o t).items n ≡ Some w
get-after p None t n w h = h
get-after p (Some c) t n w h = kept (reply_to p t c)
  where
    kept : (r : Reply) → slice_get (items_after c r t.items) n ≡ Some w
    kept (Submitted q) = get-append n t.items _ w h
    kept _ = h

get-later : (p : Profile) (cs : List Command) (i k n : ℕ) (w : WaitingItem) → slice_get (course p cs i).items n ≡ Some w → slice_get (course p cs (k + i)).items n ≡ Some w
get-later p cs i zero n w h = let e : zero + i ≡ i = omega arith in rw e h
get-later p cs i (suc k) n w h =
    let e : suc k + i ≡ suc (k + i) = omega arith in
    rw e (get-after p (slice_get cs (k + i)) (course p cs (k + i)) n w (get-later p cs i k n w h))

pub item-stays : (script : Script) (past : List Entry) (n : ℕ) (w : WaitingItem) → Orderless script → IsLegal script past → slice_get (submitted script past) n ≡ Some w → item_of script n ≡ Some w
item-stays script past n w ok legal h =
    let same = ap (λ (t : Course). t.items) (course-is script past ok legal) in
    let h' : slice_get (course_at script (call_count past)).items n ≡ Some w = rw same at h in
    let within = calls_bounded script past legal in
    let rest : (length script.commands - call_count past) + call_count past ≡ length script.commands = omega (arith, within) in
    rw rest at (get-later script.profile script.commands (call_count past) (length script.commands - call_count past) n w h')

-- ---- each number names its item

first-name : (script : Script) (past : List Entry) (n r i : ℕ) → Orderless script → IsLegal script past → HasFirst script past n r i → ◌≡◌ {A = Option Name} (Some (record { request = r; index = i })) (name_of (item_of script n))
first-name script past n r i ok legal first =
    let f = first.1 in
    let item : item_of script n ≡ Some first.0 = rw (f.number) (item-stays script past (next_number past) first.0 ok legal f.item) in
    rw (item, f.request, f.index) refl

name-read : (script : Script) (past : List Entry) (e : Entry) (m n r i : ℕ) → Orderless script → IsLegal script past → is_numbering e ≡ true → HasFirst script past m r i → taken_in n past ≡ (if nat_lt n (next_number past) then name_of (item_of script n) else None) → ◌≡◌ {A = Option Name} (if m == n then Some (record { request = r; index = i }) else taken_in n past) (if nat_lt n (next_number (e ∷ past)) then name_of (item_of script n) else None)
name-read script past e m n r i ok legal here first ih =
    let number = first.1.number in
    let one = count-one is_numbering e past here in
    let one' : next_number (e ∷ past) ≡ 1 + m = omega (arith, one, number) in
    elim (cases_Bool (m == n)) [
      | inl same ↦ (
          let at = eqb-true m n same in
          let it = first-name script past m r i ok legal first in
          let it' : ◌≡◌ {A = Option Name} (Some (record { request = r; index = i })) (name_of (item_of script n)) = rw at at it in
          rw (same, one') (it' ∙ at-one m n (name_of (item_of script n)) same)
          )
      | inr other ↦ (
          let ih' : taken_in n past ≡ (if nat_lt n m then name_of (item_of script n) else None) = rw (← number) at ih in
          rw (other, one') (ih' ∙ sym (one-on m n (name_of (item_of script n)) other))
          )
    ]

names : (script : Script) (past : List Entry) (n : ℕ) → Orderless script → IsLegal script past → taken_in n past ≡ (if nat_lt n (next_number past) then name_of (item_of script n) else None)
names script [] n ok legal = none-yet n (name_of (item_of script n))
names script (Send m r i same targets ∷ past) n ok legal =
    let turn = in-turn script past ok legal.1 in
    let first = send-first script past m.0 r.0 i same targets turn (never-repeats script past ok.plain legal.1) legal.0 in
    name-read script past (Send m r i same targets) m.0 n r.0 i ok legal.1 refl first (names script past n ok legal.1)
names script (Dropped m r i ∷ past) n ok legal =
    let first = drop-first script past m r i (in-turn script past ok legal.1) legal.0 in
    name-read script past (Dropped m r i) m.0 n r.0 i ok legal.1 refl first (names script past n ok legal.1)
names script (e ∷ past) n ok legal = names script past n ok legal.1

pub items_are : (script : Script) (past : List Entry) → ItemsAreTheScripts script past
items_are script past ok legal n = names script past n (orderless script ok) legal

twin-item : (one two : Script) → AreTwins one two → (n : ℕ) → name_of (item_of one n) ≡ name_of (item_of two n)
twin-item one two twins n = rw (twins.profile, twins.commands) refl

pub items_agree : (one two : Script) (past other : List Entry) → ItemsAgree one two past other
items_agree one two past other twins ok ok' legal legal' n p q h k =
    same-some (name_of (item_of one n)) (name_of (item_of two n)) p q (twin-item one two twins n)
    (read-in (nat_lt n (next_number past)) (name_of (item_of one n)) (taken_in n past) p (items_are one past ok legal n) h)
    (read-in (nat_lt n (next_number other)) (name_of (item_of two n)) (taken_in n other) q (items_are two other ok' legal' n) k)
