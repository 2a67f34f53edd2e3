-- The least open frame, if any frame is open.
use Rattle.std.proofs.Common.{◌≡◌, ◌<◌, ◌⊎◌, ℕ, ◌==◌, Bool, true, false, ◌&&◌, ◌||◌, not, List, [], ◌∷◌, Option, Some, None, refl, sym, ◌∙◌, inl, inr, is_some, nat_lt}
use Rattle.std.specs.List.{list_any, list_all}
use Rattle.std.proofs.lemmas.Bool.{cases_Bool, eq-eqb, false≢true, ltb-true, or_left, or_right}
use Rattle.cam_types.specs.declared.script.Script.{Script}
use Rattle.trace_model.specs.declared.entry.Entry.{Entry}
use Rattle.trace_model.specs.declared.entry.Sent.{Sent}
use Rattle.trace_model.specs.Frames.{each_earlier, frames, has_target, is_sent, target_of, targets_of}
use Rattle.trace_model.specs.Legal.{IsLegal}
use Rattle.trace_model.specs.Open.{all_settled, is_metadata_ended, is_open, is_quiet, is_returned, is_settled}
use Rattle.trace_laws.proofs.Sends.{each-at}
use Rattle.state_facts.proofs.Last.{IsLast, last-is, last-none, last_where}
use Rattle.state_facts.proofs.OpenRows.{IsDone, frame-among}
use Rattle.basic_lemmas.proofs.Lists.{all-where, any-found}
use Rattle.trace_laws.proofs.Frames.{frames-fall}
use Rattle.trace_laws.proofs.BufferSends.{frames-sent}

pub record IsLeast (past : List Entry) (n : ℕ) : Type 0 where
  pub sent : is_sent n past ≡ true
  pub still : is_open n past ≡ true
  pub earlier : (m : ℕ) → is_sent m past ≡ true → m < n → IsDone past m

pub done_by : (a b c : Bool) → a ≡ true → not (a && not (b && c)) ≡ true → (b ≡ true) × (c ≡ true)
done_by true true true h k = (refl, refl)
done_by true true false h k = absurd (false≢true k)
done_by true false c h k = absurd (false≢true k)
done_by false b c h k = absurd (false≢true h)

least_by : (past : List Entry) (n : ℕ) → IsLast (λ m. is_open m past) (frames past) n → IsLeast past n
least_by past n last = record {
  sent = sym (frame-among n past) ∙ last.among;
  still = last.passes;
  earlier = λ m sent less. (
      let closed = each-at n m (λ k. not (is_open k past)) past last.below sent less in
      let parts = done_by (is_sent m past) (is_metadata_ended m past) (all_settled m past) sent closed in
      record { ended = parts.0; back = parts.1 }
      );
}

quiet_or : (script : Script) (past : List Entry) (o : Option ℕ) → IsLegal script past → last_where (λ n. is_open n past) (frames past) ≡ o → (is_quiet past ≡ true) ⊎ ((n : ℕ) × IsLeast past n)
quiet_or script past None legal at = inl (last-none (λ n. is_open n past) (frames past) at)
quiet_or script past (Some n) legal at = inr (n, least_by past n (last-is (λ n. is_open n past) (frames past) n (frames-fall script past legal) at))

-- no frame is open, or one is the least
pub quiet-or-least : (script : Script) (past : List Entry) → IsLegal script past → (is_quiet past ≡ true) ⊎ ((n : ℕ) × IsLeast past n)
quiet-or-least script past legal = quiet_or script past (last_where (λ n. is_open n past) (frames past)) legal refl

-- what holds of all that are done holds of each earlier frame
pub each-done : (past : List Entry) (n : ℕ) (p : ℕ → Bool) → IsLeast past n → ((m : ℕ) → is_sent m past ≡ true → IsDone past m → p m ≡ true) → each_earlier n p past ≡ true
each-done past n p least each = all-where (λ m. is_sent m past) (λ m. not (nat_lt m n) || p m) (frames past) (λ m sent. by m sent) (frames-sent past)
  where
    by : (m : ℕ) → is_sent m past ≡ true → (not (nat_lt m n) || p m) ≡ true
    by m sent =
        elim (cases_Bool (nat_lt m n)) [
          | inl less ↦ or_right (not (nat_lt m n)) (p m) (each m sent (least.earlier m sent (ltb-true m n less)))
          | inr other ↦ rw other refl
        ]

-- a target of the frame that didn't come back
pub record IsOwed (past : List Entry) (n s : ℕ) (t : Sent) : Type 0 where
  pub has : has_target n s past ≡ true
  pub at : target_of n s past ≡ Some t
  pub out : is_returned n s past ≡ false

-- one that came back early, and the device isn't done with it
pub record IsAwaited (past : List Entry) (n s : ℕ) : Type 0 where
  pub has : has_target n s past ≡ true
  pub back : is_returned n s past ≡ true
  pub open' : is_settled n s past ≡ false

abbrev pub Owes : List Entry → ℕ → Type 0
Owes past n = (s : ℕ) × ((t : Sent) × IsOwed past n s t)

abbrev pub Awaits : List Entry → ℕ → Type 0
Awaits past n = (s : ℕ) × IsAwaited past n s

some_owed : (past : List Entry) (n : ℕ) (ts : List Sent) → list_all (λ t. is_settled n t.stream.0 past) ts ≡ false → (s : ℕ) × (list_any (λ t. t.stream.0 == s) ts ≡ true) × (is_settled n s past ≡ false)
some_owed past n [] h = absurd (false≢true (sym h))
some_owed past n (t ∷ ts) h =
    elim (cases_Bool (is_settled n t.stream.0 past)) [
      | inl back ↦ (
          let h' = rw back at h in
          let rest = some_owed past n ts h' in
          (rest.0, or_right (t.stream.0 == rest.0) (list_any (λ u. u.stream.0 == rest.0) ts) rest.1, rest.2)
          )
      | inr out ↦ (t.stream.0, or_left (t.stream.0 == t.stream.0) (list_any (λ u. u.stream.0 == t.stream.0) ts) (eq-eqb t.stream.0 t.stream.0 refl), out)
    ]

owed_at : (past : List Entry) (n s : ℕ) (o : Option Sent) → has_target n s past ≡ true → target_of n s past ≡ o → is_some o ≡ true → is_returned n s past ≡ false → (t : Sent) × IsOwed past n s t
owed_at past n s None has at some out = absurd (false≢true some)
owed_at past n s (Some t) has at some out = (t, record { has = has; at = at; out = out })

not_back : (a b c : Bool) → (a && not (b && c)) ≡ true → b ≡ true → c ≡ false
not_back true true true h k = absurd (false≢true h)
not_back true true false h k = refl
not_back a false c h k = absurd (false≢true k)
not_back false true c h k = absurd (false≢true h)

-- an open frame whose metadata ended has one
pub owed : (past : List Entry) (n : ℕ) → is_open n past ≡ true → is_metadata_ended n past ≡ true → Owes past n ⊎ Awaits past n
owed past n still ended =
    let some = some_owed past n (targets_of n past) (not_back (is_sent n past) (is_metadata_ended n past) (all_settled n past) still ended) in
    by some.0 some.1 some.2
  where
    by : (s : ℕ) → has_target n s past ≡ true → is_settled n s past ≡ false → Owes past n ⊎ Awaits past n
    by s has open' =
        elim (cases_Bool (is_returned n s past)) [
          | inl back ↦ inr (s, record { has = has; back = back; open' = open' })
          | inr out ↦ inl (s, owed_at past n s (target_of n s past) has refl (sym (any-found (λ t. t.stream.0 == s) (targets_of n past)) ∙ has) out)
        ]
