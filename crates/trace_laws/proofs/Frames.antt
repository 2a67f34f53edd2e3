-- The frames that were sent: each once, and the newest first.
use Rattle.std.proofs.Common.{◌≡◌, ℕ, ◌==◌, Bool, true, false, ◌&&◌, List, [], ◌∷◌, refl, arith, inl, inr, nat_lt}
use Rattle.std.specs.List.{list_any, list_all}
use Rattle.std.proofs.lemmas.Bool.{and_from, cases_Bool, lt-ltb, ne_eqb}
use Rattle.cam_types.specs.declared.four.Four.{Four}
use Rattle.cam_types.specs.declared.script.Script.{Script}
use Rattle.trace_model.specs.declared.entry.Entry.{Entry}
use Rattle.trace_model.specs.declared.entry.Entry.TheVariants.{Send}
use Rattle.trace_model.specs.declared.entry.Sent.{Sent}
use Rattle.trace_model.specs.Allowed.{IsAllowed}
use Rattle.trace_model.specs.Entry.{sends}
use Rattle.trace_model.specs.Frames.{frames, is_sent}
use Rattle.trace_model.specs.Legal.{IsLegal}
use Rattle.trace_model.specs.Numbers.{next_number}
use Rattle.trace_model.specs.Send.{may_send}
use Rattle.trace_laws.proofs.Sends.{sent-below}
use Rattle.basic_lemmas.proofs.Lists.{all-where}
use Rattle.trace_laws.proofs.BufferSends.{send-number, frames-sent}

-- each is greater than all behind it
abbrev pub falls : List ℕ → Bool
falls [] = true
falls (x ∷ xs) = list_all (λ m. nat_lt m x) xs && falls xs

pub below-next : (script : Script) (past : List Entry) → IsLegal script past → list_all (λ m. nat_lt m (next_number past)) (frames past) ≡ true
below-next script past legal =
    all-where (λ m. is_sent m past) (λ m. nat_lt m (next_number past)) (frames past) (λ m sent. lt-ltb m (next_number past) (sent-below script past m legal sent)) (frames-sent past)

pub frames-fall : (script : Script) (past : List Entry) → IsLegal script past → falls (frames past) ≡ true
frames-fall script [] legal = refl
frames-fall script (Send n r i same targets ∷ past) legal =
    let number = send-number script past n.0 r.0 i same targets legal.0 in
    let below = below-next script past legal.1 in
    and_from _ _ (rw number below) (frames-fall script past legal.1)
frames-fall script (e ∷ past) legal = frames-fall script past legal.1

pub sent-listed : (past : List Entry) (n : ℕ) → is_sent n past ≡ true → list_any (λ m. m == n) (frames past) ≡ true
sent-listed [] n h = h
sent-listed (Send m r i same targets ∷ past) n h =
    elim (cases_Bool (m.0 == n)) [ inl here ↦ rw here refl | inr other ↦ (let h' = rw other at h in rw other (sent-listed past n h')) ]
sent-listed (e ∷ past) n h = sent-listed past n h

-- a frame that was sent isn't sent again
pub sent-once : (script : Script) (past : List Entry) (e : Entry) (n : ℕ) → IsLegal script past → IsAllowed script past e → is_sent n past ≡ true → sends n e ≡ false
sent-once script past (Send m r i same targets) n legal may sent =
    let number = send-number script past m.0 r.0 i same targets may in
    let below = sent-below script past n legal sent in
    ne_eqb m.0 n (λ at. absurd (omega (arith, number, below, at)))
sent-once script past _ n legal may sent = refl

pub unsent-next : (script : Script) (past : List Entry) (n r i : ℕ) (same : Bool) (targets : Four Sent) → IsLegal script past → may_send script past n r i same targets ≡ true → is_sent n past ≡ false
unsent-next script past n r i same targets legal may = elim (cases_Bool (is_sent n past)) [
  | inl sent ↦ absurd (let number = send-number script past n r i same targets may in let below = sent-below script past n legal sent in omega (arith, number, below))
  | inr no' ↦ no'
]
