-- Lemmas on the frames that were sent.
use Rattle.std.proofs.Common.{◌≡◌, ℕ, ◌==◌, ◌<◌, Bool, true, false, ◌||◌, not, List, [], ◌∷◌, Option, Some, None, refl, arith, inl, inr, nat_lt}
use Rattle.std.specs.List.{list_all}
use Rattle.std.proofs.lemmas.Bool.{and_parts, cases_Bool, eq-eqb, eqb-true, false≢true, lt-ltb, ne_eqb}
use Rattle.cam_types.specs.declared.four.Four.{Four}
use Rattle.cam_types.specs.declared.script.Script.{Script}
use Rattle.trace_model.specs.declared.entry.Entry.{Entry}
use Rattle.trace_model.specs.declared.entry.Entry.TheVariants.{Send, Dropped}
use Rattle.trace_model.specs.declared.entry.Sent.{Sent}
use Rattle.trace_model.specs.Entry.{is_numbering}
use Rattle.trace_model.specs.Frames.{each_earlier, frames, is_sent}
use Rattle.trace_model.specs.Legal.{IsLegal}
use Rattle.trace_model.specs.Numbers.{next_number}
use Rattle.trace_model.specs.Queue.{next}
use Rattle.trace_model.specs.Send.{may_send}
use Rattle.basic_lemmas.proofs.Counts.{count-cons}
use Rattle.trace_laws.proofs.BufferSends.{send-number}

-- the frames that were sent have numbers below the next
pub sent-below : (script : Script) (past : List Entry) (m : ℕ) → IsLegal script past → is_sent m past ≡ true → m < next_number past
sent-below script [] m legal h = absurd (false≢true h)
sent-below script (Send n r i same targets ∷ past) m legal h =
    let number = send-number script past n.0 r.0 i same targets legal.0 in
    let one = count-cons is_numbering (Send n r i same targets) past in
    elim (cases_Bool (n.0 == m)) [
      | inl here ↦ (let at = eqb-true n.0 m here in omega (arith, number, one, at))
      | inr other ↦ (let h' = rw other at h in let ih = sent-below script past m legal.1 h' in omega (arith, ih, one))
    ]
sent-below script (Dropped n r i ∷ past) m legal h =
    let one = count-cons is_numbering (Dropped n r i) past in
    let ih = sent-below script past m legal.1 h in
    omega (arith, ih, one)
sent-below script (e ∷ past) m legal h = sent-below script past m legal.1 h

-- so a frame below one that was sent before was sent before the next send
pub sent-before : (script : Script) (past : List Entry) (n m j r i : ℕ) (same : Bool) (targets : Four Sent) → IsLegal script past → may_send script past j r i same targets ≡ true → is_sent m past ≡ true → n < m → ((j == n) || is_sent n past) ≡ true → is_sent n past ≡ true
sent-before script past n m j r i same targets legal may sent less h =
    let number = send-number script past j r i same targets may in
    let below = sent-below script past m legal sent in
    let other : (j == n) ≡ false = ne_eqb j n (λ at. absurd (omega (arith, number, below, less, at))) in
    rw other at h

-- what holds of each earlier frame holds of one of them
pub each-at : (n m : ℕ) (p : ℕ → Bool) (past : List Entry) → each_earlier n p past ≡ true → is_sent m past ≡ true → m < n → p m ≡ true
each-at n m p [] each sent less = absurd (false≢true sent)
each-at n m p (Send j r i same targets ∷ past) each sent less =
    let parts = and_parts (not (nat_lt j.0 n) || p j.0) (each_earlier n p past) each in
    elim (cases_Bool (j.0 == m)) [
      | inl here ↦ (
          let at = eqb-true j.0 m here in
          let here' : (not (nat_lt m n) || p m) ≡ true = rw at at parts.0 in
          let less' : nat_lt m n ≡ true = lt-ltb m n less in
          rw less' at here'
          )
      | inr other ↦ (let sent' = rw other at sent in each-at n m p past parts.1 sent' less)
    ]
each-at n m p (e ∷ past) each sent less = each-at n m p past each sent less
