-- How many commands, requests and flushes are called, against those of the plan.
use Rattle.std.proofs.Common.{◌≡◌, ℕ, ◌+◌, ◌≤◌, Bool, true, false, ◌&&◌, not, List, [], ◌∷◌, Option, Some, None, inl, inr, refl, sym, arith, length, drop, slice_get, count_by, is_some, if◌then◌else◌, cond}
use Rattle.std.proofs.lemmas.Bool.{and_parts, cases_Bool, not-true, false≢true}
use Rattle.basic_lemmas.proofs.Counts.{count-cons, count-one, count-over, drop-at, place-within}
use Rattle.cam_types.specs.declared.item.Settings.{Settings}
use Rattle.reprocess_model.specs.declared.entry.ReEntry.{ReEntry}
use Rattle.reprocess_model.specs.declared.entry.ReEntry.TheVariants.{Called, BeginFlush, Flushed}
use Rattle.reprocess_model.specs.declared.plan.Plan.{Plan}
use Rattle.reprocess_model.specs.declared.plan.ReCommand.{ReCommand}
use Rattle.reprocess_model.specs.declared.plan.ReCommand.TheVariants.{Request, Flush}
use Rattle.reprocess_model.specs.Due.{line_of_command}
use Rattle.reprocess_model.specs.Lines.{is_call, is_called, is_begin_flush, is_flushed}
use Rattle.reprocess_model.specs.Past.{call_count, request_count, least_queued, is_stopping, all_inputs_home}
use Rattle.reprocess_model.specs.Plan.{is_request, is_flush, requests}
use Rattle.reprocess_model.specs.Run.{IsRun}
use Rattle.reprocess_model.proofs.Facts.{when-some}

pub called-request : (past : List ReEntry) (o : Option ReCommand) (i : ℕ) → line_of_command past o ≡ Some (Called i) → (s : Settings) × (o ≡ Some (Request s)) × (i ≡ call_count past)
called-request past None i h = absurd (cc)
called-request past (Some (Request s)) i h = (s, refl, let same : call_count past ≡ i = cc in sym same)
called-request past (Some Flush) i h =
    elim (cases_Bool (is_stopping past)) [
      | inl on ↦ (let h' = rw on at h in let w = when-some (not (is_some (least_queued past)) && all_inputs_home past) (Flushed (call_count past)) (Called i) h' in absurd (let wrong = w.1 in cc))
      | inr off ↦ (let h' = rw off at h in absurd (cc))
    ]

pub begun-flush : (past : List ReEntry) (o : Option ReCommand) → line_of_command past o ≡ Some BeginFlush → (o ≡ Some Flush) × (is_stopping past ≡ false)
begun-flush past None h = absurd (cc)
begun-flush past (Some (Request s)) h = absurd (cc)
begun-flush past (Some Flush) h =
    elim (cases_Bool (is_stopping past)) [
      | inl on ↦ (let h' = rw on at h in let w = when-some (not (is_some (least_queued past)) && all_inputs_home past) (Flushed (call_count past)) BeginFlush h' in absurd (let wrong = w.1 in cc))
      | inr off ↦ (refl, off)
    ]

pub record IsFlushed (past : List ReEntry) (o : Option ReCommand) (i : ℕ) : Type 0 where
  pub command : o ≡ Some Flush
  pub place : i ≡ call_count past
  pub stopping : is_stopping past ≡ true
  pub queue : is_some (least_queued past) ≡ false
  pub inputs : all_inputs_home past ≡ true

pub flushed-flush : (past : List ReEntry) (o : Option ReCommand) (i : ℕ) → line_of_command past o ≡ Some (Flushed i) → IsFlushed past o i
flushed-flush past None i h = absurd (cc)
flushed-flush past (Some (Request s)) i h = absurd (cc)
flushed-flush past (Some Flush) i h =
    elim (cases_Bool (is_stopping past)) [
      | inl on ↦ (
          let h' = rw on at h in
          let w = when-some (not (is_some (least_queued past)) && all_inputs_home past) (Flushed (call_count past)) (Flushed i) h' in
          let parts = and_parts (not (is_some (least_queued past))) (all_inputs_home past) w.0 in
          let same : call_count past ≡ i = (let at = w.1 in cc) in
          record {
            command = refl;
            place = sym same;
            stopping = on;
            queue = not-true (is_some (least_queued past)) parts.0;
            inputs = parts.1;
          }
          )
      | inr off ↦ (let h' = rw off at h in absurd (cc))
    ]

-- what is left of the commands, of either kind
left-more : (p : ReCommand → Bool) (commands : List ReCommand) (k : ℕ) (x : ReCommand) → slice_get commands k ≡ Some x → count_by p (drop k commands) ≡ (if p x then 1 else 0) + count_by p (drop (k + 1) commands)
left-more p commands k x at = drop-at (λ y. cond (p y) 1 0) commands k x at

call-more : (e : ReEntry) (past : List ReEntry) → is_call e ≡ true → call_count (e ∷ past) ≡ call_count past + 1
call-more e past h = let more = count-one is_call e past h in omega (arith, more)

call-same : (e : ReEntry) (past : List ReEntry) → is_call e ≡ false → call_count (e ∷ past) ≡ call_count past
call-same e past h = count-over is_call e past h

-- one more command is called
call-left : (called : ReEntry → Bool) (kind : ReCommand → Bool) (commands : List ReCommand) (e : ReEntry) (past : List ReEntry) (x : ReCommand) → is_call e ≡ true → called e ≡ kind x → slice_get commands (call_count past) ≡ Some x → count_by called past + count_by kind (drop (call_count past) commands) ≡ count_by kind commands → count_by called (e ∷ past) + count_by kind (drop (call_count (e ∷ past)) commands) ≡ count_by kind commands
call-left called kind commands e past x call same at ih =
    let left = left-more kind commands (call_count past) x at in
    let more = count-cons called e past in
    let both : ◌≡◌ {A = ℕ} (if called e then 1 else 0) (if kind x then 1 else 0) = rw same refl in
    rw (call-more e past call) (omega (arith, ih, left, more, both))

-- the calls of a kind and the commands of it that are left are all
kind-left : (called : ReEntry → Bool) (kind : ReCommand → Bool) → ((i : ℕ) (s : Settings) → called (Called i) ≡ kind (Request s)) → ((i : ℕ) → called (Flushed i) ≡ kind Flush) → ((e : ReEntry) → is_call e ≡ false → called e ≡ false) → (plan : Plan) (past : List ReEntry) → IsRun plan past → count_by called past + count_by kind (drop (call_count past) plan.commands) ≡ count_by kind plan.commands
kind-left called kind requests flushes others plan [] run = omega arith
kind-left called kind requests flushes others plan (Called i ∷ past) run =
    let at = called-request past (slice_get plan.commands (call_count past)) i run.0 in
    call-left called kind plan.commands (Called i) past (Request at.0) refl (requests i at.0) at.1 (kind-left called kind requests flushes others plan past run.1)
kind-left called kind requests flushes others plan (Flushed i ∷ past) run =
    let at = flushed-flush past (slice_get plan.commands (call_count past)) i run.0 in
    call-left called kind plan.commands (Flushed i) past Flush refl (flushes i) at.command (kind-left called kind requests flushes others plan past run.1)
kind-left called kind requests flushes others plan (e ∷ past) run =
    rw (call-same e past refl, count-over called e past (others e refl)) (kind-left called kind requests flushes others plan past run.1)

pub requests-left : (plan : Plan) (past : List ReEntry) → IsRun plan past → request_count past + count_by is_request (drop (call_count past) plan.commands) ≡ count_by is_request plan.commands
requests-left = kind-left is_called is_request (λ i s. refl) (λ i. refl) uncalled
  where
    uncalled : (e : ReEntry) → is_call e ≡ false → is_called e ≡ false
    uncalled (Called i) h = absurd (false≢true (sym h))
    uncalled _ h = refl

pub flushes-left : (plan : Plan) (past : List ReEntry) → IsRun plan past → count_by is_flushed past + count_by is_flush (drop (call_count past) plan.commands) ≡ count_by is_flush plan.commands
flushes-left = kind-left is_flushed is_flush (λ i s. refl) (λ i. refl) unflushed
  where
    unflushed : (e : ReEntry) → is_call e ≡ false → is_flushed e ≡ false
    unflushed (Flushed i) h = absurd (false≢true (sym h))
    unflushed _ h = refl

-- a flush that goes on is the next command
pub stopping-flush : (plan : Plan) (past : List ReEntry) → IsRun plan past → is_stopping past ≡ true → slice_get plan.commands (call_count past) ≡ Some Flush
stopping-flush plan [] run h = absurd (false≢true h)
stopping-flush plan (BeginFlush ∷ past) run h =
    rw (call-same BeginFlush past refl) (begun-flush past (slice_get plan.commands (call_count past)) run.0).0
stopping-flush plan (Flushed i ∷ past) run h = absurd (false≢true h)
stopping-flush plan (Called i ∷ past) run h =
    absurd (
    let at = called-request past (slice_get plan.commands (call_count past)) i run.0 in
    let flush = stopping-flush plan past run.1 h in
    let request = at.1 in
    cc
    )
stopping-flush plan (e ∷ past) run h = rw (call-same e past refl) (stopping-flush plan past run.1 h)

-- no more commands are answered than there are
pub calls-within : (plan : Plan) (past : List ReEntry) → IsRun plan past → call_count past ≤ length plan.commands
calls-within plan [] run = omega arith
calls-within plan (Called i ∷ past) run =
    let at = called-request past (slice_get plan.commands (call_count past)) i run.0 in
    let within = place-within plan.commands (call_count past) (Request at.0) at.1 in
    rw (call-more (Called i) past refl) within
calls-within plan (Flushed i ∷ past) run =
    let at = flushed-flush past (slice_get plan.commands (call_count past)) i run.0 in
    let within = place-within plan.commands (call_count past) Flush at.command in
    rw (call-more (Flushed i) past refl) within
calls-within plan (e ∷ past) run = rw (call-same e past refl) (calls-within plan past run.1)

-- a flush begins once more than it is answered where one goes on
pub begun-count : (plan : Plan) (past : List ReEntry) → IsRun plan past → count_by is_begin_flush past ≡ (if is_stopping past then 1 else 0) + count_by is_flushed past
begun-count plan [] run = refl
begun-count plan (BeginFlush ∷ past) run =
    let ih = begun-count plan past run.1 in
    let off = (begun-flush past (slice_get plan.commands (call_count past)) run.0).1 in
    let ih' = rw off at ih in
    let one = count-one is_begin_flush BeginFlush past refl in
    let none = count-over is_flushed BeginFlush past refl in
    omega (arith, ih', one, none)
begun-count plan (Flushed i ∷ past) run =
    let ih = begun-count plan past run.1 in
    let on = (flushed-flush past (slice_get plan.commands (call_count past)) i run.0).stopping in
    let ih' = rw on at ih in
    let none = count-over is_begin_flush (Flushed i) past refl in
    let one = count-one is_flushed (Flushed i) past refl in
    omega (arith, ih', one, none)
begun-count plan (e ∷ past) run = rw (count-over is_begin_flush e past refl, count-over is_flushed e past refl) (begun-count plan past run.1)

-- the settings of the requests are as many as the requests
pub length-requests : (commands : List ReCommand) → length (requests commands) ≡ count_by is_request commands
length-requests [] = refl
length-requests (Request s ∷ commands) =
    let ih = length-requests commands in
    let one = count-one is_request (Request s) commands refl in
    omega (arith, ih, one)
length-requests (Flush ∷ commands) =
    let ih = length-requests commands in
    let none = count-over is_request Flush commands refl in
    omega (arith, ih, none)

-- a request that is called is one of the plan's
pub requests-within : (plan : Plan) (past : List ReEntry) → IsRun plan past → request_count past ≤ length (requests plan.commands)
requests-within plan past run =
    let left = requests-left plan past run in
    let all = length-requests plan.commands in
    omega (arith, left, all)
