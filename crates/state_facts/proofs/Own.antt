-- A buffer that isn't in the pool is one of the configuration's, and a number that no configuration gave is named by nothing.
use Rattle.std.proofs.Common.{◌≡◌, ℕ, ◌==◌, ◌≤◌, Bool, true, false, ◌&&◌, List, [], ◌∷◌, Option, Some, None, refl, sym, ◌∙◌, arith, inl, inr}
use Rattle.std.specs.List.{list_any, list_all}
use Rattle.std.proofs.lemmas.Bool.{and_parts, cases_Bool, eqb-true, false≢true}
use Rattle.std.proofs.lemmas.List.Sums.{sum_by-cons}
use Rattle.cam_types.specs.Four.{four_list}
use Rattle.cam_types.specs.declared.four.Four.{Four}
use Rattle.cam_types.specs.declared.reply.Reply.{Reply}
use Rattle.cam_types.specs.declared.reply.Reply.TheVariants.{Ok, Submitted, Configured, Refused}
use Rattle.cam_types.specs.declared.script.Command.{Command}
use Rattle.cam_types.specs.declared.script.Command.TheVariants.{Configure}
use Rattle.cam_types.specs.declared.script.Script.{Script}
use Rattle.cam_types.specs.declared.stream.StreamSpec.{StreamSpec}
use Rattle.trace_model.specs.declared.entry.Entry.{Entry}
use Rattle.trace_model.specs.declared.entry.Entry.TheVariants.{Call, Send, Filled, Failed, Release, Early}
use Rattle.trace_model.specs.declared.entry.Sent.{Sent}
use Rattle.trace_model.specs.Calls.{word_of}
use Rattle.trace_model.specs.Configuration.{buffers_of, is_buffer, made_by, made_count}
use Rattle.trace_model.specs.Entry.{is_refusal, names}
use Rattle.trace_model.specs.Fence.{fence_of, is_same_fence}
use Rattle.trace_model.specs.Legal.{IsLegal}
use Rattle.trace_model.specs.Numbers.{call_count}
use Rattle.trace_model.specs.Place.{Place, Pool, Device, Client, all_in_pool, is_at, last_naming, place}
use Rattle.trace_model.specs.Reply.{acceptance, refusal, reply_with}
use Rattle.trace_model.specs.Send.{may_send, takes_from_pool}
use Rattle.trace_model.proofs.LawLemmas.{at-device, sends-from-pool}
use Rattle.trace_laws.proofs.Calls.{by-answer}
use Rattle.trace_laws.proofs.Refusals.{refuses, refusal-refuses}
use Rattle.trace_laws.proofs.Shapes.{early-from-device, filled-from-device, release-is}
use Rattle.trace_laws.proofs.Own.{stream-buffer}
use Rattle.trace_laws.proofs.Returns.{failed-back}
use Rattle.state_facts.proofs.Made.{buffer-home, buffer-within, next-buffer}
use Rattle.basic_lemmas.proofs.Lists.{all-where}
use Rattle.trace_laws.proofs.StreamLemmas.{waits-for-pool}

-- ---- sends

-- the targets' buffers are the configuration's
target-own : (past : List Entry) (t : Sent) → takes_from_pool past t ≡ true → is_buffer past t.buffer.0 ≡ true
target-own past t h = stream-buffer past t.stream.0 t.buffer.0 (and_parts (list_any (λ b. b == t.buffer.0) (buffers_of past t.stream.0)) (is_at (place t.buffer.0 past) Pool && is_same_fence t.fence (fence_of t.buffer.0 past)) h).0

pub targets-own : (script : Script) (past : List Entry) (n r i : ℕ) (same : Bool) (targets : Four Sent) → may_send script past n r i same targets ≡ true → list_all (λ t. is_buffer past t.buffer.0) (four_list targets) ≡ true
targets-own script past n r i same targets may = all-where (takes_from_pool past) (λ t. is_buffer past t.buffer.0) (four_list targets) (target-own past) (sends-from-pool script past n r i same targets may)

one-own : (p : ℕ → Bool) (b : ℕ) (targets : List Sent) → list_all (λ t. p t.buffer.0) targets ≡ true → list_any (λ t. t.buffer.0 == b) targets ≡ true → p b ≡ true
one-own p b [] all any = absurd (false≢true any)
one-own p b (t ∷ targets) all any =
    let parts = and_parts (p t.buffer.0) (list_all (λ t. p t.buffer.0) targets) all in
    elim (cases_Bool (t.buffer.0 == b)) [
      | inl here ↦ (let at = eqb-true t.buffer.0 b here in rw at at parts.0)
      | inr no' ↦ (let any' = rw no' at any in one-own p b targets parts.1 any')
    ]

-- ---- what isn't in the pool

abbrev pub IsOut : List Entry → ℕ → Type 0
IsOut past b = is_at (place b past) Pool ≡ false

out-at : (past : List Entry) (c b : ℕ) (p : Place) → is_at p Pool ≡ false → place c past ≡ p → (c == b) ≡ true → IsOut past b
out-at past c b p away at here = let same = eqb-true c b here in rw (← same, at) away

call-own : (script : Script) (past : List Entry) (i b : ℕ) (c : Command) (o : Option Reply) → IsLegal script past → refuses o ≡ true → (is_refusal (reply_with o (acceptance script past c)) ≡ false → (specs : List StreamSpec) → c ≡ Configure specs → all_in_pool past ≡ true) → IsOut past b → is_buffer past b ≡ true → is_buffer (Call i (word_of c) (reply_with o (acceptance script past c)) ∷ past) b ≡ true
call-own script past i b c (Some (Refused code first second)) legal no' home out own = own
call-own script past i b c (Some Ok) legal no' home out own = absurd (false≢true no')
call-own script past i b c (Some (Submitted r)) legal no' home out own = absurd (false≢true no')
call-own script past i b c (Some (Configured each)) legal no' home out own = absurd (false≢true no')
call-own script past i b (Configure specs) None legal no' home out own = absurd (false≢true (sym out ∙ buffer-home script past b legal (home refl specs refl) own))
call-own script past i b c None legal no' home out own = own

pub out-own : (script : Script) (past : List Entry) (b : ℕ) → IsLegal script past → IsOut past b → is_buffer past b ≡ true
out-own script [] b legal out = absurd (false≢true (sym out))
out-own script (Call i word r ∷ past) b legal out =
    let ih = out-own script past b legal.1 out in
    by-answer (λ e. is_buffer (e ∷ past) b ≡ true) script past i word r legal.0
    (λ c at may. call-own script past (call_count past) b c (refusal script past c) legal.1 (refusal-refuses script past c) (λ accepted specs is. waits-for-pool script past specs (rw is at may) (rw is at accepted)) out ih)
out-own script (Send n r i same targets ∷ past) b legal out =
    elim (cases_Bool (names b (Send n r i same targets))) [
      | inl named ↦ one-own (is_buffer past) b (four_list targets) (targets-own script past n.0 r.0 i same targets legal.0) named
      | inr other ↦ (let out' = rw other at out in out-own script past b legal.1 out')
    ]
out-own script (Filled n s c f d ∷ past) b legal out =
    elim (cases_Bool (c.0 == b)) [
      | inl named ↦ out-own script past b legal.1 (out-at past c.0 b Device refl (filled-from-device script past n s c f d legal.0) named)
      | inr other ↦ (let out' = rw other at out in out-own script past b legal.1 out')
    ]
out-own script (Early n s c d ∷ past) b legal out =
    elim (cases_Bool (c.0 == b)) [
      | inl named ↦ out-own script past b legal.1 (out-at past c.0 b Device refl (early-from-device script past n s c d legal.0) named)
      | inr other ↦ (let out' = rw other at out in out-own script past b legal.1 out')
    ]
out-own script (Failed n s c f ∷ past) b legal out =
    elim (cases_Bool (c.0 == b)) [
      | inl named ↦ (let out' = rw named at out in absurd (false≢true (sym out')))
      | inr other ↦ (let out' = rw other at out in out-own script past b legal.1 out')
    ]
out-own script (Release c f ∷ past) b legal out =
    elim (cases_Bool (c.0 == b)) [
      | inl named ↦ (let out' = rw named at out in absurd (false≢true (sym out')))
      | inr other ↦ (let out' = rw other at out in out-own script past b legal.1 out')
    ]
out-own script (e ∷ past) b legal out = out-own script past b legal.1 out

-- ---- numbers that weren't given

home-nowhere : (past : List Entry) (c b : ℕ) (p : Place) → is_at p Pool ≡ false → place c past ≡ p → (c == b) ≡ true → last_naming b past ≡ None → ⊥
home-nowhere past c b p away at here none = let out = out-at past c b p away at here in let out' = rw none at out in false≢true (sym out')

pub at-client : (p : Place) → is_at p Client ≡ true → p ≡ Client
at-client Pool h = absurd (false≢true h)
at-client Device h = absurd (false≢true h)
at-client Client h = refl

pub unnamed : (script : Script) (past : List Entry) (b : ℕ) → IsLegal script past → made_count past ≤ b → last_naming b past ≡ None
unnamed script [] b legal above = refl
unnamed script (Call i word r ∷ past) b legal above =
    let more = sum_by-cons made_by (Call i word r) past in
    unnamed script past b legal.1 (omega (arith, above, more))
unnamed script (Send n r i same targets ∷ past) b legal above =
    let ih = unnamed script past b legal.1 above in
    elim (cases_Bool (names b (Send n r i same targets))) [
      | inl named ↦ (
          let own = one-own (is_buffer past) b (four_list targets) (targets-own script past n.0 r.0 i same targets legal.0) named in
          let place' = buffer-within script past b legal.1 own in
          let next = next-buffer past in
          absurd (omega (arith, place'.1, above, next))
          )
      | inr other ↦ rw other ih
    ]
unnamed script (Filled n s c f d ∷ past) b legal above =
    let ih = unnamed script past b legal.1 above in
    elim (cases_Bool (c.0 == b)) [
      | inl named ↦ absurd (home-nowhere past c.0 b Device refl (filled-from-device script past n s c f d legal.0) named ih)
      | inr other ↦ rw other ih
    ]
unnamed script (Early n s c d ∷ past) b legal above =
    let ih = unnamed script past b legal.1 above in
    elim (cases_Bool (c.0 == b)) [
      | inl named ↦ absurd (home-nowhere past c.0 b Device refl (early-from-device script past n s c d legal.0) named ih)
      | inr other ↦ rw other ih
    ]
unnamed script (Failed n s c f ∷ past) b legal above =
    let ih = unnamed script past b legal.1 above in
    elim (cases_Bool (c.0 == b)) [
      | inl named ↦ absurd (home-nowhere past c.0 b Device refl (at-device n.0 s.0 c.0 past (failed-back past n s c f legal.0).out) named ih)
      | inr other ↦ rw other ih
    ]
unnamed script (Release c f ∷ past) b legal above =
    let ih = unnamed script past b legal.1 above in
    elim (cases_Bool (c.0 == b)) [
      | inl named ↦ absurd (home-nowhere past c.0 b Client refl (at-client (place c.0 past) (release-is past c f legal.0).0) named ih)
      | inr other ↦ rw other ih
    ]
unnamed script (e ∷ past) b legal above = unnamed script past b legal.1 above
