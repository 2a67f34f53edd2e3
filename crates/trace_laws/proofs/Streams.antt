-- A buffer is of one stream.
use Rattle.std.proofs.Common.{◌≡◌, ℕ, zero, suc, ◌==◌, ◌+◌, ◌<◌, ◌≤◌, Bool, true, ◌&&◌, List, [], ◌∷◌, Option, Some, None, refl, ap, arith, slice_get}
use Rattle.std.specs.List.{list_any}
use Rattle.std.proofs.lemmas.Bool.{and_parts, eqb-true, false≢true}
use Rattle.cam_types.specs.Four.{four_list, four_of}
use Rattle.cam_types.specs.declared.reply.Made.{Made}
use Rattle.cam_types.specs.declared.reply.Reply.{Reply}
use Rattle.cam_types.specs.declared.reply.Reply.TheVariants.{Ok, Submitted, Configured, Refused}
use Rattle.cam_types.specs.declared.script.Command.{Command}
use Rattle.cam_types.specs.declared.script.Command.TheVariants.{Configure}
use Rattle.cam_types.specs.declared.profile.Profile.{Profile}
use Rattle.cam_types.specs.declared.script.Script.{Script}
use Rattle.cam_types.specs.declared.stream.StreamSpec.{StreamSpec}
use Rattle.trace_model.specs.declared.entry.Entry.{Entry}
use Rattle.trace_model.specs.declared.entry.Entry.TheVariants.{Call}
use Rattle.trace_model.specs.Calls.{word_of}
use Rattle.trace_model.specs.Configuration.{made, made_count, numbers_of}
use Rattle.trace_model.specs.Legal.{IsLegal}
use Rattle.trace_model.specs.Numbers.{call_count}
use Rattle.trace_model.specs.Reply.{acceptance, made_for, refusal, reply_with}
use Rattle.trace_laws.proofs.Calls.{by-call}
use Rattle.trace_laws.proofs.Refusals.{refuses, refusal-refuses}
use Rattle.trace_laws.proofs.StreamLemmas.{IsOwn}
use Rattle.basic_lemmas.proofs.Ranges.{in-range}

-- each stream's numbers follow those of the stream before
abbrev pub in_row : ℕ → List Made → Bool
in_row k [] = true
in_row k (m ∷ ms) = (m.first.0 == k) && in_row (k + m.count) ms

abbrev pub Has : List Made → ℕ → ℕ → Type 0
Has ms s b = list_any (λ c. c == b) (numbers_of (slice_get ms s)) ≡ true

not_lower : (k : ℕ) (ms : List Made) (s b : ℕ) → in_row k ms ≡ true → Has ms s b → k ≤ b
not_lower k [] s b row h = absurd (false≢true h)
not_lower k (m ∷ ms) zero b row h =
    let first = eqb-true m.first.0 k (and_parts (m.first.0 == k) (in_row (k + m.count) ms) row).0 in
    let within = in-range m.first.0 m.count b h in
    omega (arith, first, within.0)
not_lower k (m ∷ ms) (suc s) b row h =
    let ih = not_lower (k + m.count) ms s b (and_parts (m.first.0 == k) (in_row (k + m.count) ms) row).1 h in
    omega (arith, ih)

below_next : (k : ℕ) (m : Made) (ms : List Made) (b : ℕ) → in_row k (m ∷ ms) ≡ true → Has (m ∷ ms) zero b → b < k + m.count
below_next k m ms b row h =
    let first = eqb-true m.first.0 k (and_parts (m.first.0 == k) (in_row (k + m.count) ms) row).0 in
    let within = in-range m.first.0 m.count b h in
    omega (arith, first, within.1)

one_place : (k : ℕ) (ms : List Made) (s u b : ℕ) → in_row k ms ≡ true → Has ms s b → Has ms u b → s ≡ u
one_place k [] s u b row h h' = absurd (false≢true h)
one_place k (m ∷ ms) zero zero b row h h' = refl
one_place k (m ∷ ms) (suc s) (suc u) b row h h' = ap suc (one_place (k + m.count) ms s u b (and_parts (m.first.0 == k) (in_row (k + m.count) ms) row).1 h h')
one_place k (m ∷ ms) zero (suc u) b row h h' =
    let low = not_lower (k + m.count) ms u b (and_parts (m.first.0 == k) (in_row (k + m.count) ms) row).1 h' in
    let high = below_next k m ms b row h in
    absurd (omega (arith, low, high))
one_place k (m ∷ ms) (suc s) zero b row h h' =
    let low = not_lower (k + m.count) ms s b (and_parts (m.first.0 == k) (in_row (k + m.count) ms) row).1 h in
    let high = below_next k m ms b row h' in
    absurd (omega (arith, low, high))

made_row : (p : Profile) (k : ℕ) (specs : List StreamSpec) → in_row k (four_list (four_of (made_for p k specs))) ≡ true
made_row p k [] = refl
made_row p k (a ∷ []) = grind arith
made_row p k (a ∷ b ∷ []) = grind arith
made_row p k (a ∷ b ∷ c ∷ []) = grind arith
made_row p k (a ∷ b ∷ c ∷ d ∷ specs) = grind arith

abbrev pub MadeInRow : List Entry → Type 0
MadeInRow past = (k : ℕ) × (in_row k (made past) ≡ true)

call_row : (script : Script) (past : List Entry) (i : ℕ) (c : Command) (e : Option Reply) → refuses e ≡ true → MadeInRow past → MadeInRow (Call i (word_of c) (reply_with e (acceptance script past c)) ∷ past)
call_row script past i c (Some (Refused code first second)) h before = before
call_row script past i c (Some Ok) h before = absurd (false≢true h)
call_row script past i c (Some (Submitted r)) h before = absurd (false≢true h)
call_row script past i c (Some (Configured each)) h before = absurd (false≢true h)
call_row script past i (Configure specs) None h before = (made_count past, made_row script.profile (made_count past) specs)
call_row script past i c None h before = before

made-in-row : (script : Script) (past : List Entry) → IsLegal script past → MadeInRow past
made-in-row script [] legal = (0, refl)
made-in-row script (Call i w r ∷ past) legal =
    let ih = made-in-row script past legal.1 in
    by-call (λ e. MadeInRow (e ∷ past)) script past i w r legal.0 (λ c at. call_row script past (call_count past) c (refusal script past c) (refusal-refuses script past c) ih)
made-in-row script (e ∷ past) legal = made-in-row script past legal.1

-- a buffer of two streams is of one
pub one-stream : (script : Script) (past : List Entry) (s u b : ℕ) → IsLegal script past → IsOwn past s b → IsOwn past u b → s ≡ u
one-stream script past s u b legal h h' = let row = made-in-row script past legal in one_place row.0 (made past) s u b row.1 h h'
