-- The repeating list of a legal past is that of an accepted repeat, whose request keeps its number.
use Rattle.std.proofs.Common.{◌≡◌, ℕ, ◌==◌, ◌<◌, true, false, List, [], ◌∷◌, Option, Some, None, refl, ◌∙◌, arith, if◌then◌else◌}
use Rattle.std.proofs.lemmas.Bool.{false≢true}
use Rattle.std.proofs.lemmas.Bool.Decides.{nat_tests}
use Rattle.cam_types.specs.declared.item.Item.{Item}
use Rattle.cam_types.specs.declared.reply.Reply.{Reply}
use Rattle.cam_types.specs.declared.reply.Reply.TheVariants.{Ok, Submitted, Configured, Refused}
use Rattle.cam_types.specs.declared.script.Command.{Command}
use Rattle.cam_types.specs.declared.script.Command.TheVariants.{Configure, Once, Burst, Repeat, Stop, Wait, Await, Flush, Close, Disconnect}
use Rattle.cam_types.specs.declared.script.Script.{Script}
use Rattle.trace_model.specs.declared.entry.Entry.{Entry}
use Rattle.trace_model.specs.declared.entry.Entry.TheVariants.{Call}
use Rattle.trace_model.specs.Calls.{command_at, command_of, is_submission, request_count, word_of}
use Rattle.trace_model.specs.Legal.{IsLegal}
use Rattle.trace_model.specs.Numbers.{call_count}
use Rattle.trace_model.specs.Queue.{repeating}
use Rattle.cam_types.specs.Requests.{Repeating}
use Rattle.trace_model.specs.Reply.{acceptance, refusal, reply_with}
use Rattle.cam_types.specs.declared.script.Word.{Word}
use Rattle.trace_laws.proofs.Calls.{by-call}
use Rattle.trace_laws.proofs.Refusals.{refuses, refusal-refuses}
use Rattle.basic_lemmas.proofs.Counts.{count-cons}

-- the request is an accepted repeat of these items
abbrev pub Stands : Script → List Entry → Repeating → Type 0
Stands script past q = (command_of script past q.request.0 ≡ Some (Repeat q.items)) × (q.request.0 < request_count past)

at_own : (n : ℕ) (a b : Option Command) → (if n == n then a else b) ≡ a
at_own n a b = let same : (n == n) ≡ true = grind (arith, nat_tests) in rw same refl

at_other : (n m : ℕ) (a b : Option Command) → m < n → (if n == m then a else b) ≡ b
at_other n m a b l = let other : (n == m) ≡ false = grind (arith, nat_tests) in rw other refl

new_stands : (script : Script) (past : List Entry) (i : ℕ) (items : List Item) (q : Repeating) → command_at script i ≡ Some (Repeat items) → record { request = record { 0 = request_count past }; items = items } ≡ q → Stands script (Call i (word_of (Repeat items)) (Submitted (record { 0 = request_count past })) ∷ past) q
new_stands script past i items q at is =
    rw (← is) (
      at_own (request_count past) (command_at script i) (command_of script past (request_count past)) ∙ at,
      omega (arith, count-cons is_submission (Call i (word_of (Repeat items)) (Submitted (record { 0 = request_count past }))) past),
    )

-- an accepted once or burst leaves the repeating list and its request as they are
other_stands : (script : Script) (past : List Entry) (i : ℕ) (w : Word) (q : Repeating) → Stands script past q → Stands script (Call i w (Submitted (record { 0 = request_count past })) ∷ past) q
other_stands script past i w q stands = (
  at_other (request_count past) q.request.0 (command_at script i) (command_of script past q.request.0) stands.1 ∙ stands.0,
  omega (arith, stands.1, count-cons is_submission (Call i w (Submitted (record { 0 = request_count past }))) past),
)

call_stands : (script : Script) (past : List Entry) (i : ℕ) (c : Command) (e : Option Reply) (q : Repeating) → command_at script i ≡ Some c → refuses e ≡ true → (repeating script past ≡ Some q → Stands script past q) → repeating script (Call i (word_of c) (reply_with e (acceptance script past c)) ∷ past) ≡ Some q → Stands script (Call i (word_of c) (reply_with e (acceptance script past c)) ∷ past) q
call_stands script past i c (Some (Refused code first second)) q at no' before h = before h
call_stands script past i c (Some Ok) q at no' before h = absurd (false≢true no')
call_stands script past i c (Some (Submitted r)) q at no' before h = absurd (false≢true no')
call_stands script past i c (Some (Configured made)) q at no' before h = absurd (false≢true no')
call_stands script past i (Configure specs) None q at no' before h = absurd (cc)
call_stands script past i (Once item) None q at no' before h = other_stands script past i (word_of (Once item)) q (before h)
call_stands script past i (Burst items) None q at no' before h = other_stands script past i (word_of (Burst items)) q (before h)
call_stands script past i (Repeat items) None q at no' before h = let h' = rw at at h in new_stands script past i items q at (cc)
call_stands script past i Stop None q at no' before h = absurd (cc)
call_stands script past i Wait None q at no' before h = before h
call_stands script past i (Await k) None q at no' before h = before h
call_stands script past i Flush None q at no' before h = absurd (cc)
call_stands script past i Close None q at no' before h = absurd (cc)
call_stands script past i Disconnect None q at no' before h = absurd (cc)

pub repeating-stands : (script : Script) (past : List Entry) (q : Repeating) → IsLegal script past → repeating script past ≡ Some q → Stands script past q
repeating-stands script [] q legal h = absurd (cc)
repeating-stands script (Call i w r ∷ past) q legal h =
    by-call (λ e. repeating script (e ∷ past) ≡ Some q → Stands script (e ∷ past) q) script past i w r legal.0
    (λ c at. call_stands script past (call_count past) c (refusal script past c) q at (refusal-refuses script past c) (λ k. repeating-stands script past q legal.1 k)) h
repeating-stands script (e ∷ past) q legal h = repeating-stands script past q legal.1 h
