-- The state after an entry is what the entry makes of the state before it.
use Rattle.std.proofs.Common.{◌≡◌, ℕ, ◌+◌, Bool, true, false, ◌&&◌, not, List, ◌∷◌, Option, Some, refl, ap, arith, length}
use Rattle.cam_types.specs.declared.reply.Reply.{Reply}
use Rattle.cam_types.specs.declared.reply.Reply.TheVariants.{Submitted, Configured}
use Rattle.cam_types.specs.declared.script.Script.{Script}
use Rattle.cam_types.specs.declared.script.Word.{Word}
use Rattle.cam_types.specs.declared.stream.StreamSpec.{StreamSpec}
use Rattle.trace_model.specs.declared.entry.Entry.{Entry}
use Rattle.trace_model.specs.declared.entry.Entry.TheVariants.{Begin, Call, Send, Partial, Filled, Failed, ErrorRequest, ErrorResult, Early, Late}
use Rattle.trace_model.specs.Client.{call_due, done_since_begin}
use Rattle.trace_model.specs.Configuration.{streams}
use Rattle.trace_model.specs.Entry.{is_call}
use Rattle.trace_model.specs.Frames.{frames, is_repeating_frame}
use Rattle.trace_model.specs.Legal.{IsLegal}
use Rattle.trace_model.specs.Numbers.{call_count}
use Rattle.trace_model.specs.Open.{is_done}
use Rattle.trace_laws.proofs.Calls.{call-is}
use Rattle.state_facts.specs.Clients.{Clients, clients, finishes, clients_after, repeats, streams_called}
use Rattle.state_facts.proofs.Done.{done-given, done-sent, done-signalled, done-submitted, one-finished}
use Rattle.basic_lemmas.proofs.Counts.{count-one}
use Rattle.basic_lemmas.proofs.Lists.{filter-none}

same-clients : (c d : ℕ) (b : Option Word) (x y z : Bool) (s t : List StreamSpec) (r j k : ℕ) → c ≡ d → s ≡ t → j ≡ k → ◌≡◌ {A = Clients} (record { calls = c; begun = b; configured = x; closed = y; failed = z; streams = s; repeated = r; done = j }) (record { calls = d; begun = b; configured = x; closed = y; failed = z; streams = t; repeated = r; done = k })
same-clients c d b x y z s t r j k h i l = rw (h, i, l) refl

none-begun : (a b : Bool) → (a && (b && not b)) ≡ false
none-begun false b = refl
none-begun true true = refl
none-begun true false = refl

done-begun : (script : Script) (past : List Entry) (word : Word) → done_since_begin script (Begin word ∷ past) ≡ 0
done-begun script past word =
    ap (λ (xs : List ℕ). length xs) (filter-none (λ n. is_repeating_frame script (Begin word ∷ past) n && (is_done n (Begin word ∷ past) && not (is_done n past))) (frames past) (λ n. none-begun (is_repeating_frame script (Begin word ∷ past) n) (is_done n past)))

done-called : (script : Script) (past : List Entry) (i : ℕ) (word : Word) (reply : Reply) → IsLegal script past → call_due script past ≡ Some (Call i word reply) → done_since_begin script (Call i word reply ∷ past) ≡ done_since_begin script past
done-called script past i word (Submitted q) legal may = done-submitted script past i word q legal may
done-called script past i word _ legal may = refl

calls-counted : (script : Script) (past : List Entry) (i : ℕ) (word : Word) (reply : Reply) → call_due script past ≡ Some (Call i word reply) → call_count (Call i word reply ∷ past) ≡ i + 1
calls-counted script past i word reply may =
    let at = (call-is script past i word reply may).2 in
    let one = count-one is_call (Call i word reply) past refl in
    omega (arith, at, one)

streams-called : (script : Script) (past : List Entry) (i : ℕ) (word : Word) (reply : Reply) → streams script (Call i word reply ∷ past) ≡ streams_called script i reply (streams script past)
streams-called script past i word (Configured each) = refl
streams-called script past i word _ = refl

pub noted_is : (script : Script) (past : List Entry) (e : Entry) → IsLegal script (e ∷ past) → clients script (e ∷ past) ≡ clients_after script (repeats script past e) (finishes script past e) e (clients script past)
noted_is script past (Begin word) legal = same-clients _ _ _ _ _ _ _ _ _ _ _ refl refl (done-begun script past word)
noted_is script past (Call i word reply) legal =
    same-clients _ _ _ _ _ _ _ _ _ _ _ (calls-counted script past i word reply legal.0) (streams-called script past i word reply) (done-called script past i word reply legal.1 legal.0)
noted_is script past (Send n r i same targets) legal =
    same-clients _ _ _ _ _ _ _ _ _ _ _ refl refl (done-sent script past n r i same targets legal.1 legal.0)
noted_is script past (Partial n k part) legal =
    same-clients _ _ _ _ _ _ _ _ _ _ _ refl refl (one-finished script past (Partial n k part) n.0 legal refl (λ m other. rw other refl))
noted_is script past (Filled n s b f d) legal =
    same-clients _ _ _ _ _ _ _ _ _ _ _ refl refl (one-finished script past (Filled n s b f d) n.0 legal refl (λ m other. rw other refl))
noted_is script past (Failed n s b f) legal =
    same-clients _ _ _ _ _ _ _ _ _ _ _ refl refl (one-finished script past (Failed n s b f) n.0 legal refl (λ m other. rw other refl))
noted_is script past (ErrorRequest n) legal =
    same-clients _ _ _ _ _ _ _ _ _ _ _ refl refl (one-finished script past (ErrorRequest n) n.0 legal refl (λ m other. rw other refl))
noted_is script past (ErrorResult n) legal =
    same-clients _ _ _ _ _ _ _ _ _ _ _ refl refl (one-finished script past (ErrorResult n) n.0 legal refl (λ m other. rw other refl))
noted_is script past (Early n s b d) legal =
    same-clients _ _ _ _ _ _ _ _ _ _ _ refl refl (done-given script past n s b d legal.1 legal.0)
noted_is script past (Late d x) legal =
    same-clients _ _ _ _ _ _ _ _ _ _ _ refl refl (done-signalled script past d x legal)
noted_is script past _ legal = refl
