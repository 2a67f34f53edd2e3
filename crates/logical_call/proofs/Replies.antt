-- Each call of a legal run has the script's reply.
use Rattle.std.proofs.Common.{◌≡◌, ℕ, ◌==◌, ◌+◌, Bool, true, false, List, [], ◌∷◌, Option, Some, None, refl, sym, ap, ◌∙◌, arith, inl, inr, nat_lt, slice_get, if◌then◌else◌}
use Rattle.std.proofs.lemmas.Bool.{cases_Bool, eqb-true}
use Rattle.std.proofs.lemmas.Bool.Decides.{nat_tests}
use Rattle.cam_types.specs.declared.reply.Reply.{Reply}
use Rattle.cam_types.specs.declared.script.Command.{Command}
use Rattle.cam_types.specs.declared.script.Script.{Script}
use Rattle.trace_model.specs.declared.entry.Entry.{Entry}
use Rattle.trace_model.specs.declared.entry.Entry.TheVariants.{Call}
use Rattle.trace_model.specs.Calls.{word_of}
use Rattle.trace_model.specs.Entry.{is_call}
use Rattle.trace_model.specs.Legal.{IsLegal}
use Rattle.trace_model.specs.Numbers.{call_count}
use Rattle.trace_model.specs.Reply.{reply}
use Rattle.trace_laws.proofs.Calls.{by-call}
use Rattle.basic_lemmas.proofs.Counts.{count-one}
use Rattle.logical_call.specs.Courses.{reply_of, reply_to}
use Rattle.logical_call.specs.Laws.{RepliesAgree, RepliesAreTheScripts}
use Rattle.logical_call.specs.Orderless.{AreTwins}
use Rattle.logical_call.specs.Taken.{reply_in}
use Rattle.logical_call.proofs.Courses.{call-reply, course_at}
use Rattle.logical_call.proofs.Steady.{Orderless, orderless}

some-reply : (script : Script) (i : ℕ) (c : Command) (r : Reply) → slice_get script.commands i ≡ Some c → r ≡ reply_to script.profile (course_at script i) c → Some r ≡ reply_of script i
some-reply script i c r at same = rw (at, same) refl

-- one number more
pub one-on : {X : Type 0} (m n : ℕ) (o : Option X) → (m == n) ≡ false → (if nat_lt n (1 + m) then o else None) ≡ (if nat_lt n m then o else None)
one-on m n o other = let same : nat_lt n (1 + m) ≡ nat_lt n m = grind (arith, nat_tests, other) in rw same refl

pub at-one : {X : Type 0} (m n : ℕ) (o : Option X) → (m == n) ≡ true → o ≡ (if nat_lt n (1 + m) then o else None)
at-one m n o here = let less : nat_lt n (1 + m) ≡ true = grind (arith, nat_tests, here) in rw less refl

pub none-yet : {X : Type 0} (n : ℕ) (o : Option X) → None ≡ (if nat_lt n 0 then o else None)
none-yet n o = let no' : nat_lt n 0 ≡ false = grind (arith, nat_tests) in rw no' refl

call-read : (script : Script) (past : List Entry) (c : Command) (i : ℕ) → Orderless script → IsLegal script past → slice_get script.commands (call_count past) ≡ Some c → reply_in i past ≡ (if nat_lt i (call_count past) then reply_of script i else None) → reply_in i (Call (call_count past) (word_of c) (reply script past c) ∷ past) ≡ (if nat_lt i (1 + call_count past) then reply_of script i else None)
call-read script past c i ok legal at ih =
    elim (cases_Bool (call_count past == i)) [
      | inl here ↦ (
          let same = eqb-true (call_count past) i here in
          let it = some-reply script (call_count past) c (reply script past c) at (call-reply script past c ok legal at) in
          let it' = rw same at it in
          rw here (it' ∙ at-one (call_count past) i (reply_of script i) here)
          )
      | inr other ↦ rw other (ih ∙ sym (one-on (call_count past) i (reply_of script i) other))
    ]

replies : (script : Script) (past : List Entry) (i : ℕ) → Orderless script → IsLegal script past → reply_in i past ≡ (if nat_lt i (call_count past) then reply_of script i else None)
replies script [] i ok legal = none-yet i (reply_of script i)
replies script (Call j word r ∷ past) i ok legal =
    let ih = replies script past i ok legal.1 in
    by-call (λ e. reply_in i (e ∷ past) ≡ (if nat_lt i (call_count (e ∷ past)) then reply_of script i else None)) script past j word r legal.0
    (λ c at.
    let count = count-one is_call (Call (call_count past) (word_of c) (reply script past c)) past refl in
    call-read script past c i ok legal.1 at ih ∙ ap (λ n. if nat_lt i n then reply_of script i else None) (sym count))
replies script (e ∷ past) i ok legal = replies script past i ok legal.1

pub replies_are : (script : Script) (past : List Entry) → RepliesAreTheScripts script past
replies_are script past ok legal i = replies script past i (orderless script ok) legal

-- ---- of two pasts

pub read-in : {X : Type 0} (b : Bool) (o r : Option X) (x : X) → r ≡ (if b then o else None) → r ≡ Some x → o ≡ Some x
read-in true o r x h k = sym h ∙ k
read-in false o r x h k = absurd (cc)

pub same-some : {X : Type 0} (o p : Option X) (x y : X) → o ≡ p → o ≡ Some x → p ≡ Some y → x ≡ y
same-some o p x y same h k = cc

twin-reply : (one two : Script) → AreTwins one two → (i : ℕ) → reply_of one i ≡ reply_of two i
twin-reply one two twins i = rw (twins.profile, twins.commands) refl

pub replies_agree : (one two : Script) (past other : List Entry) → RepliesAgree one two past other
replies_agree one two past other twins ok ok' legal legal' i p q h k =
    same-some (reply_of one i) (reply_of two i) p q (twin-reply one two twins i)
    (read-in (nat_lt i (call_count past)) (reply_of one i) (reply_in i past) p (replies_are one past ok legal i) h)
    (read-in (nat_lt i (call_count other)) (reply_of two i) (reply_in i other) q (replies_are two other ok' legal' i) k)
