-- The buffers of a configuration have the numbers from its first on, without a gap.
use Rattle.std.proofs.Common.{◌≡◌, ℕ, ◌==◌, ◌+◌, ◌<◌, ◌≤◌, Bool, true, ◌&&◌, List, [], ◌∷◌, Option, Some, None, refl, arith, inl, inr, nat_le, nat_lt, sym, false}
use Rattle.std.specs.List.{list_any, list_all, range_with_len}
use Rattle.std.proofs.lemmas.Bool.{and_parts, cases_Bool, eqb-true, false≢true, leb-true, ltb-true}
use Rattle.std.proofs.lemmas.List.Folds.{list_all-append}
use Rattle.std.proofs.lemmas.List.Sums.{sum_by-cons}
use Rattle.cam_types.specs.Four.{four_list, four_of}
use Rattle.cam_types.specs.declared.reply.Made.{Made}
use Rattle.cam_types.specs.declared.reply.Reply.{Reply}
use Rattle.cam_types.specs.declared.reply.Reply.TheVariants.{Ok, Submitted, Configured, Refused}
use Rattle.cam_types.specs.declared.script.Command.{Command}
use Rattle.cam_types.specs.declared.script.Command.TheVariants.{Configure}
use Rattle.cam_types.specs.declared.profile.Profile.{Profile}
use Rattle.cam_types.specs.declared.script.Script.{Script}
use Rattle.cam_types.specs.declared.stream.StreamSpec.{StreamSpec}
use Rattle.trace_model.specs.declared.entry.Entry.{Entry}
use Rattle.trace_model.specs.declared.entry.Entry.TheVariants.{Call}
use Rattle.trace_model.specs.Calls.{word_of}
use Rattle.trace_model.specs.Configuration.{is_buffer, is_made, made, made_by, made_count, numbers_of, is_configured}
use Rattle.trace_model.specs.Legal.{IsLegal}
use Rattle.trace_model.specs.Numbers.{call_count}
use Rattle.trace_model.specs.Place.{Pool, all_in_pool, is_at, place}
use Rattle.trace_model.specs.Reply.{acceptance, made_for, refusal, reply_with}
use Rattle.trace_laws.proofs.Calls.{by-call}
use Rattle.trace_laws.proofs.Refusals.{refuses, refusal-refuses}
use Rattle.state_facts.specs.Homes.{count_in, first_buffer, numbers}
use Rattle.basic_lemmas.proofs.Ranges.{range-more, range-at}
use Rattle.basic_lemmas.proofs.Tests.{own-number}

-- each of them begins where the one before it ends
abbrev pub are_joined : ℕ → List Made → Bool
are_joined k [] = true
are_joined k (m ∷ ms) = (m.first.0 == k) && are_joined (k + m.count) ms

made-joined : (p : Profile) (k : ℕ) (specs : List StreamSpec) → are_joined k (four_list (four_of (made_for p k specs))) ≡ true
made-joined p k [] = refl
made-joined p k (a ∷ []) = rw (own-number k) refl
made-joined p k (a ∷ b ∷ []) = grind (arith, own-number)
made-joined p k (a ∷ b ∷ c ∷ []) = grind (arith, own-number)
made-joined p k (a ∷ b ∷ c ∷ d ∷ specs) = grind (arith, own-number)

abbrev pub IsJoined : List Entry → Type 0
IsJoined past = are_joined (first_buffer past) (made past) ≡ true

call-joined : (script : Script) (past : List Entry) (i : ℕ) (c : Command) (o : Option Reply) → refuses o ≡ true → IsJoined past → IsJoined (Call i (word_of c) (reply_with o (acceptance script past c)) ∷ past)
call-joined script past i c (Some (Refused code first second)) no' before = before
call-joined script past i c (Some Ok) no' before = absurd (false≢true no')
call-joined script past i c (Some (Submitted r)) no' before = absurd (false≢true no')
call-joined script past i c (Some (Configured each)) no' before = absurd (false≢true no')
call-joined script past i (Configure specs) None no' before = made-joined script.profile (made_count past) specs
call-joined script past i c None no' before = before

pub joined : (script : Script) (past : List Entry) → IsLegal script past → IsJoined past
joined script [] legal = refl
joined script (Call i word reply ∷ past) legal =
    let ih = joined script past legal.1 in
    by-call (λ e. IsJoined (e ∷ past)) script past i word reply legal.0
    (λ c at. call-joined script past (call_count past) c (refusal script past c) (refusal-refuses script past c) ih)
joined script (e ∷ past) legal = joined script past legal.1

-- the next number comes after them
pub next-buffer : (past : List Entry) → made_count past ≡ first_buffer past + count_in (made past)
next-buffer [] = refl
next-buffer (Call i word (Configured each) ∷ past) = let more = sum_by-cons made_by (Call i word (Configured each)) past in omega (arith, more)
next-buffer (e ∷ past) = next-buffer past

within : (k b : ℕ) (ms : List Made) → are_joined k ms ≡ true → list_any (is_made b) ms ≡ true → (k ≤ b) × (b < k + count_in ms)
within k b [] chain any = absurd (false≢true any)
within k b (m ∷ ms) chain any =
    let parts = and_parts (m.first.0 == k) (are_joined (k + m.count) ms) chain in
    let at = eqb-true m.first.0 k parts.0 in
    let count = sum_by-cons (λ (x : Made). x.count) m ms in
    elim (cases_Bool (is_made b m)) [
      | inl here ↦ (
          let both = and_parts (nat_le m.first.0 b) (nat_lt b (m.first.0 + m.count)) here in
          let low = leb-true m.first.0 b both.0 in
          let high = ltb-true b (m.first.0 + m.count) both.1 in
          (omega (arith, low, at), omega (arith, high, at, count))
          )
      | inr no' ↦ (
          let any' = rw no' at any in
          let ih = within (k + m.count) b ms parts.1 any' in
          (omega (arith, ih.0), omega (arith, ih.1, count))
          )
    ]

pub buffer-within : (script : Script) (past : List Entry) (b : ℕ) → IsLegal script past → is_buffer past b ≡ true → (first_buffer past ≤ b) × (b < first_buffer past + count_in (made past))
buffer-within script past b legal own = within (first_buffer past) b (made past) (joined script past legal) own

-- all of all of them is all of the range
all-joined : (p : ℕ → Bool) (k : ℕ) (ms : List Made) → are_joined k ms ≡ true → list_all (λ m. list_all p (numbers_of (Some m))) ms ≡ list_all p (range_with_len k (count_in ms))
all-joined p k [] chain = refl
all-joined p k (m ∷ ms) chain =
    let parts = and_parts (m.first.0 == k) (are_joined (k + m.count) ms) chain in
    let at = eqb-true m.first.0 k parts.0 in
    rw (sum_by-cons (λ (x : Made). x.count) m ms, range-more k m.count (count_in ms), list_all-append p (range_with_len k m.count) (range_with_len (k + m.count) (count_in ms)), at, all-joined p (k + m.count) ms parts.1) refl

pub pool-is : (script : Script) (past : List Entry) → IsLegal script past → all_in_pool past ≡ list_all (λ b. is_at (place b past) Pool) (numbers past)
pool-is script past legal = all-joined (λ b. is_at (place b past) Pool) (first_buffer past) (made past) (joined script past legal)

-- where all are in the pool each of them is
pub buffer-home : (script : Script) (past : List Entry) (b : ℕ) → IsLegal script past → all_in_pool past ≡ true → is_buffer past b ≡ true → is_at (place b past) Pool ≡ true
buffer-home script past b legal home own =
    let home' = rw (pool-is script past legal) at home in
    let place' = buffer-within script past b legal own in
    range-at (λ c. is_at (place c past) Pool) (first_buffer past) (count_in (made past)) b home' place'.0 place'.1

pub no-made : (past : List Entry) → is_configured past ≡ false → made past ≡ []
no-made [] h = refl
no-made (Call i w (Configured each) ∷ past) h = absurd (false≢true (sym h))
no-made (Call i w r ∷ past) h = no-made past h
no-made (e ∷ past) h = no-made past h
