-- What the calls of a legal run have made of the service is what the script says.
use Rattle.std.proofs.Common.{◌≡◌, ℕ, zero, suc, ◌+◌, ◌≤◌, Bool, true, false, not, List, [], ◌∷◌, Option, Some, None, refl, sym, ap, ◌∙◌, arith, length, drop, nat_le, nat_lt, slice_get, sum_by, append-nil, length-append}
use Rattle.std.proofs.lemmas.Bool.{false≢true}
use Rattle.std.proofs.lemmas.Bool.Decides.{nat_tests}
use Rattle.std.proofs.lemmas.List.Sums.{sum_by-cons}
use Rattle.cam_types.specs.Refusals.{items_refusal, list_refusal, or_else}
use Rattle.cam_types.specs.declared.item.Item.{Item}
use Rattle.cam_types.specs.declared.profile.Profile.{Profile}
use Rattle.cam_types.specs.declared.reply.Reply.{Reply}
use Rattle.cam_types.specs.declared.reply.Reply.TheVariants.{Submitted, Configured}
use Rattle.cam_types.specs.declared.request.WaitingItem.{WaitingItem}
use Rattle.cam_types.specs.declared.script.Command.{Command}
use Rattle.cam_types.specs.declared.script.Command.TheVariants.{Configure, Once, Burst, Repeat, Stop, Wait, Await, Flush, Close, Disconnect}
use Rattle.cam_types.specs.declared.script.Script.{Script}
use Rattle.cam_types.specs.declared.stream.StreamSpec.{StreamSpec}
use Rattle.trace_model.specs.declared.entry.Entry.{Entry}
use Rattle.trace_model.specs.declared.entry.Entry.TheVariants.{Call}
use Rattle.trace_model.specs.Calls.{is_closed, is_submission, request_count, word_of}
use Rattle.trace_model.specs.Configuration.{is_configured, made_by, made_count, streams}
use Rattle.trace_model.specs.Entry.{is_call}
use Rattle.trace_model.specs.Legal.{IsLegal}
use Rattle.trace_model.specs.Numbers.{call_count}
use Rattle.trace_model.specs.Queue.{is_taken, named, queued, queued_items, repeating, submitted}
use Rattle.trace_model.specs.Reply.{acceptance, own_refusal, queue_refusal, reply, reply_with, state_refusal}
use Rattle.trace_model.specs.Stopping.{has_failed}
use Rattle.trace_laws.specs.Bounds.{queued_by}
use Rattle.trace_laws.proofs.Calls.{by-call}
use Rattle.basic_lemmas.proofs.Counts.{count-one, drop-at, filter-short}
use Rattle.logical_call.specs.Courses.{Course, acceptance_at, after, answered, course, items_after, own_refusal_at, reply_to, state_refusal_at}
use Rattle.logical_call.specs.Orderless.{is_plain}
use Rattle.logical_call.proofs.Steady.{Orderless, never-failed, never-repeats}
use Rattle.trace_laws.proofs.FrameLemmas.{named-length}
use Rattle.basic_lemmas.proofs.Lists.{all-at}

-- ---- the queue has room

more-items : (c : Command) (r : Reply) (old : List WaitingItem) → length (items_after c r old) ≤ length old + queued_by c
more-items c (Submitted r) old = let l = named-length r 0 (queued_items (Some c)) in rw length-append (omega (arith, l))
more-items c _ old = omega arith

drop-past : (cs : List Command) (i : ℕ) → slice_get cs i ≡ None → sum_by queued_by (drop (suc i) cs) ≤ sum_by queued_by (drop i cs)
drop-past [] zero h = omega arith
drop-past [] (suc i) h = omega arith
drop-past (c ∷ cs) zero h = absurd (cc)
drop-past (c ∷ cs) (suc i) h = drop-past cs i h

abbrev pub IsFew : Profile → List Command → ℕ → Type 0
IsFew p cs i = length (course p cs i).items + sum_by queued_by (drop i cs) ≤ sum_by queued_by cs

few-after : (p : Profile) (cs : List Command) (i : ℕ) (o : Option Command) → slice_get cs i ≡ o → IsFew p cs i → length (after p o (course p cs i)).items + sum_by queued_by (drop (suc i) cs) ≤ sum_by queued_by cs
few-after p cs i None at ih = let less = drop-past cs i at in omega (arith, ih, less)
few-after p cs i (Some c) at ih =
    let more = more-items c (reply_to p (course p cs i) c) (course p cs i).items in
    let one = drop-at queued_by cs i c at in
    let next : i + 1 ≡ suc i = omega arith in
    let one' = rw next at one in
    omega (arith, ih, more, one')

-- what was accepted and what is still to come are within all that the script has
pub items-few : (p : Profile) (cs : List Command) (i : ℕ) → IsFew p cs i
items-few p cs zero = omega arith
items-few p cs (suc i) = few-after p cs i (slice_get cs i) refl (items-few p cs i)

-- so a command's items are never too many beside those that were accepted before
pub has-room : (p : Profile) (cs : List Command) (i : ℕ) (c : Command) → nat_le (sum_by queued_by cs) 256 ≡ true → slice_get cs i ≡ Some c → length (course p cs i).items + queued_by c ≤ 256
has-room p cs i c few at =
    let within = items-few p cs i in
    let one = drop-at queued_by cs i c at in
    let few' : sum_by queued_by cs ≤ 256 = grind (arith, nat_tests, few) in
    omega (arith, within, one, few')

-- ---- the reply

-- what a legal past has made of the service
abbrev pub course_of : Script → List Entry → Course
course_of script past = record {
  closed = is_closed past;
  configured = is_configured past;
  streams = streams script past;
  requests = request_count past;
  buffers = made_count past;
  items = submitted script past;
}

or-none : (o : Option Reply) → or_else o None ≡ o
or-none (Some r) = refl
or-none None = refl

room-left : (script : Script) (past : List Entry) (items : List Item) → length (submitted script past) + length items ≤ 256 → queue_refusal script past items ≡ None
room-left script past items few =
    let short = filter-short (λ w. not (is_taken past w)) (submitted script past) in
    let less : length (queued script past) + length items ≤ 256 = omega (arith, few, short) in
    let no' : nat_lt 256 (length (queued script past) + length items) ≡ false = grind (arith, nat_tests, less) in
    rw no' refl

without-queue : (o q : Option Reply) → q ≡ None → or_else o q ≡ o
without-queue o q none = rw none (or-none o)

own-is : (script : Script) (past : List Entry) (c : Command) → is_plain c ≡ true → repeating script past ≡ None → length (submitted script past) + queued_by c ≤ 256 → own_refusal script past c ≡ own_refusal_at (course_of script past) c
own-is script past (Once item) plain none few =
    without-queue (items_refusal (length (streams script past)) 0 (item ∷ [])) (queue_refusal script past (item ∷ [])) (room-left script past (item ∷ []) few)
own-is script past (Burst items) plain none few =
    without-queue (list_refusal (length (streams script past)) items) (queue_refusal script past items) (room-left script past items few)
own-is script past (Repeat items) plain none few = absurd (false≢true plain)
own-is script past Stop plain none few = absurd (false≢true plain)
own-is script past (Await k) plain none few = absurd (false≢true plain)
own-is script past Wait plain none few = rw none refl
own-is script past (Configure specs) plain none few = refl
own-is script past Flush plain none few = refl
own-is script past Close plain none few = refl
own-is script past Disconnect plain none few = refl

acceptance-is : (script : Script) (past : List Entry) (c : Command) → is_plain c ≡ true → acceptance script past c ≡ acceptance_at script.profile (course_of script past) c
acceptance-is script past (Repeat items) plain = absurd (false≢true plain)
acceptance-is script past (Configure specs) plain = refl
acceptance-is script past (Once item) plain = refl
acceptance-is script past (Burst items) plain = refl
acceptance-is script past Stop plain = refl
acceptance-is script past Wait plain = refl
acceptance-is script past (Await k) plain = refl
acceptance-is script past Flush plain = refl
acceptance-is script past Close plain = refl
acceptance-is script past Disconnect plain = refl

state-is : (script : Script) (past : List Entry) (c : Command) → has_failed past ≡ false → state_refusal past c ≡ state_refusal_at (course_of script past) c
state-is script past c none = rw none refl

same-reply : (a b x y : Option Reply) (r s : Reply) → a ≡ b → x ≡ y → r ≡ s → reply_with (or_else a x) r ≡ reply_with (or_else b y) s
same-reply a b x y r s p q t = rw (p, q, t) refl

pub reply-is : (script : Script) (past : List Entry) (c : Command) → is_plain c ≡ true → has_failed past ≡ false → repeating script past ≡ None → length (submitted script past) + queued_by c ≤ 256 → reply script past c ≡ reply_to script.profile (course_of script past) c
reply-is script past c plain alive none few =
    same-reply (state_refusal past c) (state_refusal_at (course_of script past) c) (own_refusal script past c) (own_refusal_at (course_of script past) c) (acceptance script past c) (acceptance_at script.profile (course_of script past) c)
    (state-is script past c alive) (own-is script past c plain none few) (acceptance-is script past c plain)

-- ---- each call

same-course : (a b c d : Bool) (s t : List StreamSpec) (r q m k : ℕ) (x y : List WaitingItem) → a ≡ b → c ≡ d → s ≡ t → r ≡ q → m ≡ k → x ≡ y → ◌≡◌ {A = Course} (record { closed = a; configured = c; streams = s; requests = r; buffers = m; items = x }) (record { closed = b; configured = d; streams = t; requests = q; buffers = k; items = y })
same-course a b c d s t r q m k x y e f g h i j = rw (e, f, g, h, i, j) refl

called : (script : Script) (past : List Entry) (i : ℕ) (c : Command) (r : Reply) → slice_get script.commands i ≡ Some c → course_of script (Call i (word_of c) r ∷ past) ≡ answered c r (course_of script past)
called script past i c (Submitted q) at =
    let one = count-one is_submission (Call i (word_of c) (Submitted q)) past refl in
    same-course _ _ _ _ _ _ _ _ _ _ _ _ refl refl refl one refl (rw at refl)
called script past i c (Configured each) at =
    let more = sum_by-cons made_by (Call i (word_of c) (Configured each)) past in
    same-course _ _ _ _ _ _ _ _ _ _ _ _ refl refl (rw at refl) refl more (append-nil (submitted script past))
called script past i c _ at = same-course _ _ _ _ _ _ _ _ _ _ _ _ refl refl refl refl refl (append-nil (submitted script past))

abbrev pub course_at : Script → ℕ → Course
course_at script i = course script.profile script.commands i

step-on : (script : Script) (i : ℕ) (c : Command) → slice_get script.commands i ≡ Some c → answered c (reply_to script.profile (course_at script i) c) (course_at script i) ≡ course_at script (suc i)
step-on script i c at = rw at refl

-- the reply to the next command is the script's, where the course is
reply-by : (script : Script) (past : List Entry) (c : Command) → Orderless script → IsLegal script past → course_of script past ≡ course_at script (call_count past) → slice_get script.commands (call_count past) ≡ Some c → reply script past c ≡ reply_to script.profile (course_at script (call_count past)) c
reply-by script past c ok legal same at =
    let plain = all-at is_plain script.commands (call_count past) c ok.plain at in
    let room = has-room script.profile script.commands (call_count past) c ok.few at in
    let items = ap (λ (t : Course). t.items) same in
    let room' : length (submitted script past) + queued_by c ≤ 256 = rw items room in
    reply-is script past c plain (never-failed script past ok.faults legal) (never-repeats script past ok.plain legal) room'
    ∙ ap (λ (t : Course). reply_to script.profile t c) same

answered-alike : (c : Command) (r q : Reply) (s t : Course) → r ≡ q → s ≡ t → answered c r s ≡ answered c q t
answered-alike c r q s t x y = rw (x, y) refl

pub course-is : (script : Script) (past : List Entry) → Orderless script → IsLegal script past → course_of script past ≡ course_at script (call_count past)
course-is script [] ok legal = refl
course-is script (Call i word r ∷ past) ok legal =
    let ih = course-is script past ok legal.1 in
    by-call (λ e. course_of script (e ∷ past) ≡ course_at script (call_count (e ∷ past))) script past i word r legal.0
    (λ c at.
    let same = reply-by script past c ok legal.1 ih at in
    let one = count-one is_call (Call (call_count past) (word_of c) (reply script past c)) past refl in
    let count : call_count (Call (call_count past) (word_of c) (reply script past c) ∷ past) ≡ suc (call_count past) = omega (arith, one) in
    called script past (call_count past) c (reply script past c) at
    ∙ (answered-alike c _ _ _ _ same ih ∙ (step-on script (call_count past) c at ∙ ap (λ n. course_at script n) (sym count))))
course-is script (e ∷ past) ok legal =
    same-course _ _ _ _ _ _ _ _ _ _ _ _ refl refl refl refl refl (append-nil (submitted script past)) ∙ course-is script past ok legal.1

-- the reply of a legal call is the script's
pub call-reply : (script : Script) (past : List Entry) (c : Command) → Orderless script → IsLegal script past → slice_get script.commands (call_count past) ≡ Some c → reply script past c ≡ reply_to script.profile (course_at script (call_count past)) c
call-reply script past c ok legal at = reply-by script past c ok legal (course-is script past ok legal) at
