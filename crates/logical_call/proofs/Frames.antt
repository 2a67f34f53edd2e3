-- Each frame number is given away once, and in a complete run each of these frames has ended.
use Rattle.std.proofs.Common.{◌≡◌, ℕ, ◌==◌, ◌+◌, ◌≤◌, Bool, true, false, ◌&&◌, ◌||◌, not, List, [], ◌∷◌, refl, sym, ap, ◌∙◌, arith, inl, inr, length, count_by, nat_lt, if◌then◌else◌}
use Rattle.std.specs.List.{list_all, list_any}
use Rattle.std.proofs.lemmas.Bool.{and_from, and_parts, cases_Bool, eqb-true, false≢true}
use Rattle.std.proofs.lemmas.Bool.Decides.{nat_tests}
use Rattle.cam_types.specs.declared.request.WaitingItem.{WaitingItem}
use Rattle.cam_types.specs.declared.script.Script.{Script}
use Rattle.trace_model.specs.declared.entry.Entry.{Entry}
use Rattle.trace_model.specs.declared.entry.Entry.TheVariants.{Send, Dropped}
use Rattle.trace_model.specs.Complete.{IsComplete}
use Rattle.trace_model.specs.Entry.{is_numbering, sends}
use Rattle.trace_model.specs.Frames.{frames, is_sent}
use Rattle.trace_model.specs.Legal.{IsLegal}
use Rattle.trace_model.specs.Numbers.{call_count, next_number}
use Rattle.trace_model.specs.Open.{is_open}
use Rattle.trace_model.specs.Queue.{queued, submitted}
use Rattle.basic_lemmas.proofs.Counts.{count-cons, count-one, some-counted, some-where-counted}
use Rattle.basic_lemmas.proofs.Lists.{any-behind, any-or}
use Rattle.trace_laws.proofs.Done.{closed-stays}
use Rattle.trace_laws.proofs.Frames.{sent-listed}
use Rattle.state_facts.specs.Turns.{Turns}
use Rattle.state_facts.proofs.Steps.{noted_is}
use Rattle.logical_call.specs.Courses.{Course, items}
use Rattle.logical_call.specs.Laws.{DropsAreNotSent, EachFrameEnds, EachItemHasANumber, EndsStay, FramesAgree, NumbersAreGivenOnce}
use Rattle.logical_call.specs.Pairs.{is_dropped, is_ended}
use Rattle.logical_call.specs.Taken.{drops, gives_number}
use Rattle.logical_call.proofs.Courses.{course-is, course_at}
use Rattle.logical_call.proofs.Numbers.{in-turn, none-left}
use Rattle.logical_call.proofs.Steady.{orderless}
use Rattle.state_facts.proofs.Rest.{none_waits}

-- ---- each number once

count-at : (past : List Entry) (e : Entry) (n m : ℕ) → gives_number n e ≡ (m == n) → m ≡ next_number past → next_number (e ∷ past) ≡ 1 + next_number past → count_by (gives_number n) past ≡ (if nat_lt n (next_number past) then 1 else 0) → count_by (gives_number n) (e ∷ past) ≡ (if nat_lt n (next_number (e ∷ past)) then 1 else 0)
count-at past e n m test number next ih =
    let more = count-cons (gives_number n) e past in
    more ∙ rw (test, ih, next, number) (one-more n (next_number past))
  where
    one-more : (n k : ℕ) → (if k == n then 1 else 0) + (if nat_lt n k then 1 else 0) ≡ (if nat_lt n (1 + k) then 1 else 0)
    one-more n k = grind (arith, nat_tests)

next-is : (script : Script) (past : List Entry) (e : Entry) (m : ℕ) → IsLegal script (e ∷ past) → is_numbering e ≡ true → next_number (e ∷ past) ≡ m + 1 → (m ≡ next_number past) × (next_number (e ∷ past) ≡ 1 + next_number past)
next-is script past e m legal here at = let one = count-one is_numbering e past here in (omega (arith, one, at), omega (arith, one))

pub numbers_once : (script : Script) (past : List Entry) → NumbersAreGivenOnce script past
numbers_once script [] legal n = let no' : nat_lt n 0 ≡ false = grind (arith, nat_tests) in rw no' refl
numbers_once script (Send m r i same targets ∷ past) legal n =
    let next = next-is script past (Send m r i same targets) m.0 legal refl (ap (λ (t : Turns). t.numbers) (noted_is script past (Send m r i same targets) legal)) in
    count-at past (Send m r i same targets) n m.0 refl next.0 next.1 (numbers_once script past legal.1 n)
numbers_once script (Dropped m r i ∷ past) legal n =
    let next = next-is script past (Dropped m r i) m.0 legal refl (ap (λ (t : Turns). t.numbers) (noted_is script past (Dropped m r i) legal)) in
    count-at past (Dropped m r i) n m.0 refl next.0 next.1 (numbers_once script past legal.1 n)
numbers_once script (e ∷ past) legal n = numbers_once script past legal.1 n

-- ---- a complete run gives each item a number

pub all_numbered : (script : Script) (past : List Entry) → EachItemHasANumber script past
all_numbered script past ok complete =
    let ok' = orderless script ok in
    let turn = in-turn script past ok' complete.legal in
    let empty = none_waits (queued script past) complete.queue in
    let all = none-left (next_number past) (submitted script past) (sym turn.waiting ∙ empty) in
    let within = turn.within in
    let same = ap (λ (t : Course). t.items) (course-is script past ok' complete.legal) in
    let calls : call_count past ≡ length script.commands = eqb-true (call_count past) (length script.commands) complete.calls in
    let same' : submitted script past ≡ items script = same ∙ ap (λ n. (course_at script n).items) calls in
    let count : next_number past ≡ length (submitted script past) = omega (arith, all, within) in
    count ∙ ap (λ (ws : List WaitingItem). length ws) same'

-- ---- each of them ended

listed-passes : (p : ℕ → Bool) (xs : List ℕ) (n : ℕ) → list_all p xs ≡ true → list_any (λ m. m == n) xs ≡ true → p n ≡ true
listed-passes p [] n all any = absurd (false≢true any)
listed-passes p (x ∷ xs) n all any =
    let parts = and_parts (p x) (list_all p xs) all in
    elim (cases_Bool (x == n)) [
      | inl here ↦ rw (eqb-true x n here) at parts.0
      | inr other ↦ (let any' = rw other at any in listed-passes p xs n parts.1 any')
    ]

either-gives : (n : ℕ) (past : List Entry) → list_any (gives_number n) past ≡ (is_dropped n past || is_sent n past)
either-gives n past = same-any past ∙ any-or (drops n) (sends n) past
  where
    same-test : (e : Entry) → gives_number n e ≡ (drops n e || sends n e)
    same-test (Send m r i same targets) = refl
    same-test (Dropped m r i) = or-no (m.0 == n)
      where
        or-no : (b : Bool) → b ≡ (b || false)
        or-no true = refl
        or-no false = refl
    same-test _ = refl

    same-any : (xs : List Entry) → list_any (gives_number n) xs ≡ list_any (λ e. drops n e || sends n e) xs
    same-any [] = refl
    same-any (e ∷ xs) = rw (same-test e, same-any xs) refl

ends : (d s o : Bool) → (d || s) ≡ true → (s ≡ true → not o ≡ true) → (d || (s && not o)) ≡ true
ends true s o h closed = refl
ends false true o h closed = closed refl
ends false false o h closed = absurd (false≢true h)

pub given-ends : (script : Script) (past : List Entry) (n : ℕ) → IsComplete script past → nat_lt n (next_number past) ≡ true → is_ended n past ≡ true
given-ends script past n complete less =
    let once = numbers_once script past complete.legal n in
    let once' : count_by (gives_number n) past ≡ 1 = rw less at once in
    let any = some-where-counted (gives_number n) past (omega (arith, once')) in
    let either : (is_dropped n past || is_sent n past) ≡ true = rw (either-gives n past) at any in
    ends (is_dropped n past) (is_sent n past) (is_open n past) either
    (λ sent. listed-passes (λ m. not (is_open m past)) (frames past) n complete.open_frames (sent-listed past n sent))

pub each_ends : (script : Script) (past : List Entry) → EachFrameEnds script past
each_ends script past ok complete n less =
    given-ends script past n complete (let count = all_numbered script past ok complete in rw count less)

-- ---- of two pasts

pub frames_agree : (one two : Script) (past other : List Entry) → FramesAgree one two past other
frames_agree one two past other twins ok ok' complete complete' =
    let all = all_numbered one past ok complete in
    let all' = all_numbered two other ok' complete' in
    let twin : length (items one) ≡ length (items two) = rw (twins.profile, twins.commands) refl in
    let same : next_number past ≡ next_number other = all ∙ (twin ∙ sym all') in
    record {
      numbers = same;
      once = λ n. numbers_once one past complete.legal n ∙ (ap (λ (k : ℕ). if nat_lt n k then 1 else 0) same ∙ sym (numbers_once two other complete'.legal n));
      ended = λ n less. and_from (is_ended n past) (is_ended n other) (given-ends one past n complete less) (given-ends two other n complete' (rw same at less));
    }

-- ---- ends

stays : (d d' s s' o o' : Bool) → (d ≡ true → d' ≡ true) → (s ≡ true → s' ≡ true) → (s ≡ true → o ≡ false → o' ≡ false) → (d || (s && not o)) ≡ true → (d' || (s' && not o')) ≡ true
stays true d' s s' o o' dropped sent closed h = rw (dropped refl) refl
stays false d' true s' false o' dropped sent closed h = rw (sent refl, closed refl refl) (or-true d')
  where
    or-true : (b : Bool) → (b || true) ≡ true
    or-true true = refl
    or-true false = refl
stays false d' true s' true o' dropped sent closed h = absurd (false≢true h)
stays false d' false s' o o' dropped sent closed h = absurd (false≢true h)

pub ends_stay : (script : Script) (past : List Entry) → EndsStay script past
ends_stay script past e n legal ended =
    stays (is_dropped n past) (is_dropped n (e ∷ past)) (is_sent n past) (is_sent n (e ∷ past)) (is_open n past) (is_open n (e ∷ past))
    (any-behind (drops n) e past) (any-behind (sends n) e past) (closed-stays script past e n legal) ended

pub count-both : (n : ℕ) (past : List Entry) → count_by (gives_number n) past ≡ count_by (drops n) past + count_by (sends n) past
count-both n [] = refl
count-both n (e ∷ past) =
    let ih = count-both n past in
    let all = count-cons (gives_number n) e past in
    let one = count-cons (drops n) e past in
    let two = count-cons (sends n) e past in
    let each = by-entry n e in
    omega (arith, ih, all, one, two, each)
  where
    by-entry : (n : ℕ) (e : Entry) → ◌≡◌ {A = ℕ} (if gives_number n e then 1 else 0) ((if drops n e then 1 else 0) + (if sends n e then 1 else 0))
    by-entry n (Send m r i same targets) = omega arith
    by-entry n (Dropped m r i) = omega arith
    by-entry n _ = refl

one-at-most : (k n : ℕ) (b : Bool) → k ≡ (if b then 1 else 0) → k ≤ 1
one-at-most k n true h = omega (arith, h)
one-at-most k n false h = omega (arith, h)

pub drops_not_sent : (script : Script) (past : List Entry) → DropsAreNotSent script past
drops_not_sent script past n legal dropped =
    elim (cases_Bool (is_sent n past)) [
      | inl sent ↦ (
          let both = count-both n past in
          let one = some-counted (drops n) past dropped in
          let two = some-counted (sends n) past sent in
          let most = one-at-most (count_by (gives_number n) past) n (nat_lt n (next_number past)) (numbers_once script past legal n) in
          absurd (omega (arith, both, one, two, most))
          )
      | inr no' ↦ no'
    ]
