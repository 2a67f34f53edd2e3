-- In a legal run of an orderless script the device doesn't fail and nothing repeats.
use Rattle.std.proofs.Common.{◌≡◌, ℕ, zero, suc, Bool, true, false, ◌&&◌, not, List, [], ◌∷◌, Option, Some, None, refl, sym, slice_get, nat_le, sum_by, if◌then◌else◌}
use Rattle.std.specs.List.{list_all, list_any}
use Rattle.std.proofs.lemmas.Bool.{and_parts, both_ways, false≢true, not-true}
use Rattle.cam_types.specs.Requests.{Repeating}
use Rattle.cam_types.specs.declared.script.Command.{Command}
use Rattle.cam_types.specs.declared.script.Command.TheVariants.{Configure, Once, Burst, Repeat, Stop, Wait, Await, Flush, Close, Disconnect}
use Rattle.cam_types.specs.declared.script.Fault.{Fault}
use Rattle.cam_types.specs.declared.script.Fault.TheVariants.{Request, Result, Buffer, Device}
use Rattle.cam_types.specs.declared.script.Script.{Script}
use Rattle.trace_model.specs.declared.entry.Entry.{Entry}
use Rattle.trace_model.specs.declared.entry.Entry.TheVariants.{Call, ErrorDevice}
use Rattle.trace_model.specs.Calls.{word_of}
use Rattle.trace_model.specs.Entry.{is_refusal}
use Rattle.trace_model.specs.Errors.{may_fail_device, may_fail_device_at}
use Rattle.trace_model.specs.Faults.{device_fault, fails_device}
use Rattle.trace_model.specs.Frames.{frames}
use Rattle.trace_model.specs.Legal.{IsLegal}
use Rattle.trace_model.specs.Numbers.{call_count}
use Rattle.trace_model.specs.Queue.{is_clearing_word, is_repeat_word, repeating, repeating_of, request_in}
use Rattle.trace_model.specs.Reply.{reply}
use Rattle.trace_model.specs.Stopping.{has_failed, is_stopping}
use Rattle.trace_laws.specs.Bounds.{queued_by}
use Rattle.trace_laws.proofs.Calls.{by-call}
use Rattle.basic_lemmas.proofs.Lists.{any-less, any-never, all-at}
use Rattle.basic_lemmas.proofs.Tests.{passed-where}
use Rattle.logical_call.specs.Laws.{FaultsAside}
use Rattle.logical_call.specs.Orderless.{is_device_fault, is_orderless, is_plain, without_faults}

-- ---- the parts of the test

pub record Orderless (script : Script) : Type 0 where
  pub faults : list_any is_device_fault script.faults ≡ false
  pub plain : list_all is_plain script.commands ≡ true
  pub few : nat_le (sum_by queued_by script.commands) 256 ≡ true

pub orderless : (script : Script) → is_orderless script ≡ true → Orderless script
orderless script h =
    let first = and_parts (not (list_any is_device_fault script.faults)) (list_all is_plain script.commands && nat_le (sum_by queued_by script.commands) 256) h in
    let second = and_parts (list_all is_plain script.commands) (nat_le (sum_by queued_by script.commands) 256) first.1 in
    record { faults = not-true (list_any is_device_fault script.faults) first.0; plain = second.0; few = second.1 }

-- ---- the device doesn't fail

is-fault : (n : ℕ) (f : Fault) → fails_device n f ≡ true → is_device_fault f ≡ true
is-fault n (Device m) h = refl
is-fault n (Request m) h = absurd (false≢true h)
is-fault n (Result m) h = absurd (false≢true h)
is-fault n (Buffer m s) h = absurd (false≢true h)

never-due : (script : Script) (past : List Entry) → list_any is_device_fault script.faults ≡ false → list_any (may_fail_device_at script past) (frames past) ≡ false
never-due script past none =
    any-never (may_fail_device_at script past) (frames past)
    (λ n. let no' : device_fault script n ≡ false = any-less is_device_fault (fails_device n) script.faults (is-fault n) none in rw no' refl)

pub never-failed : (script : Script) (past : List Entry) → list_any is_device_fault script.faults ≡ false → IsLegal script past → has_failed past ≡ false
never-failed script [] none legal = refl
never-failed script (ErrorDevice ∷ past) none legal =
    let may = passed-where (may_fail_device script past) ErrorDevice ErrorDevice legal.0 in
    let any = (and_parts (not (is_stopping past)) (list_any (may_fail_device_at script past) (frames past)) may).1 in
    absurd (both_ways (list_any (may_fail_device_at script past) (frames past)) (never-due script past none) any)
never-failed script (e ∷ past) none legal = never-failed script past none legal.1

-- ---- nothing repeats

plain-word : (c : Command) → is_plain c ≡ true → is_repeat_word (word_of c) ≡ false
plain-word (Repeat items) h = absurd (false≢true h)
plain-word (Configure specs) h = refl
plain-word (Once item) h = refl
plain-word (Burst items) h = refl
plain-word Stop h = refl
plain-word Wait h = refl
plain-word (Await k) h = refl
plain-word Flush h = refl
plain-word Close h = refl
plain-word Disconnect h = refl

by-word : (a b c : Bool) (p q : Option Repeating) → b ≡ false → q ≡ None → (if a then q else (if b then p else (if c then None else q))) ≡ None
by-word true b c p q plain none = none
by-word false true c p q plain none = absurd (false≢true (sym plain))
by-word false false true p q plain none = refl
by-word false false false p q plain none = none

pub never-repeats : (script : Script) (past : List Entry) → list_all is_plain script.commands ≡ true → IsLegal script past → repeating script past ≡ None
never-repeats script [] plain legal = refl
never-repeats script (Call i word r ∷ past) plain legal =
    let before = never-repeats script past plain legal.1 in
    by-call (λ e. repeating script (e ∷ past) ≡ None) script past i word r legal.0
    (λ c at.
    by-word (is_refusal (reply script past c)) (is_repeat_word (word_of c)) (is_clearing_word (word_of c)) (repeating_of (slice_get script.commands (call_count past)) (request_in (reply script past c))) (repeating script past)
    (plain-word c (all-at is_plain script.commands (call_count past) c plain at)) before)
never-repeats script (e ∷ past) plain legal = never-repeats script past plain legal.1

-- ---- without its faults

pub faults_aside : (script : Script) → FaultsAside script
faults_aside script = (record { profile = refl; commands = refl }, λ h. still h)
  where
    still : is_orderless script ≡ true → is_orderless (without_faults script) ≡ true
    still h = (and_parts (not (list_any is_device_fault script.faults)) (list_all is_plain script.commands && nat_le (sum_by queued_by script.commands) 256) h).1
