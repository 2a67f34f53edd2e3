-- There is room for each fence, device fence, request and buffer of a legal run.
use Rattle.std.proofs.Common.{◌≡◌, ◌<◌, ◌≤◌, ◌+◌, ◌^◌, ℕ, true, List, ◌∷◌, arith, length, refl}
use Rattle.cam_types.specs.Script.{is_valid}
use Rattle.cam_types.specs.declared.number.BufferId.{BufferId}
use Rattle.cam_types.specs.declared.number.DeviceFenceNo.{DeviceFenceNo}
use Rattle.cam_types.specs.declared.number.FenceNo.{FenceNo}
use Rattle.cam_types.specs.declared.number.FrameNo.{FrameNo}
use Rattle.cam_types.specs.declared.number.RequestId.{RequestId}
use Rattle.cam_types.specs.declared.number.StreamIx.{StreamIx}
use Rattle.cam_types.specs.declared.reply.Reply.TheVariants.{Submitted}
use Rattle.cam_types.specs.declared.script.Script.{Script}
use Rattle.cam_types.specs.declared.script.Word.{Word}
use Rattle.trace_model.specs.declared.entry.Entry.{Entry}
use Rattle.trace_model.specs.declared.entry.Entry.TheVariants.{Call, Early, Release}
use Rattle.trace_model.specs.Calls.{is_submission, request_count}
use Rattle.trace_model.specs.Configuration.{made_count}
use Rattle.trace_model.specs.Entry.{is_early, is_release}
use Rattle.trace_model.specs.Legal.{IsLegal}
use Rattle.trace_model.specs.Numbers.{next_early, next_fence}
use Rattle.basic_lemmas.proofs.Counts.{count-cons}
use Rattle.trace_laws.specs.Bounds.{early_bound, fence_bound}
use Rattle.trace_laws.proofs.Calls.{requests_bounded}
use Rattle.trace_laws.proofs.EarlyLemmas.{earlies_bounded}
use Rattle.trace_laws.proofs.FenceLemmas.{fences_bounded}
use Rattle.trace_laws.proofs.StreamLemmas.{few-made}
use Rattle.trace_laws.proofs.ValidLemmas.{valid}
use Rattle.state_facts.specs.Homes.{first_buffer, homes}
use Rattle.state_facts.proofs.BufferReadings.{earlies_are, fences_are, made_is}
use Rattle.state_facts.specs.Turns.{turns}

-- the number that an entry takes is below the bound on the longer past
below : (now kept later bound : ℕ) → now ≡ kept → later ≡ 1 + now → later ≤ bound → kept < bound
below now kept later bound at one most = omega (arith, at, one, most)

pub fences_fit : (script : Script) (past : List Entry) (b : BufferId) (f : FenceNo) → IsLegal script (Release b f ∷ past) → length (homes past).signalled < fence_bound script
fences_fit script past b f legal =
    below (next_fence past) (length (homes past).signalled) (next_fence (Release b f ∷ past)) (fence_bound script) (fences_are past)
    (count-cons is_release (Release b f) past) (fences_bounded script (Release b f ∷ past) legal)

pub earlies_fit : (script : Script) (past : List Entry) (n : FrameNo) (s : StreamIx) (b : BufferId) (d : DeviceFenceNo) → IsLegal script (Early n s b d ∷ past) → length (homes past).late < early_bound script
earlies_fit script past n s b d legal =
    below (next_early past) (length (homes past).late) (next_early (Early n s b d ∷ past)) (early_bound script) (earlies_are past)
    (count-cons is_early (Early n s b d) past) (earlies_bounded script (Early n s b d ∷ past) legal)

pub requests_fit : (script : Script) (past : List Entry) (i : ℕ) (word : Word) (r : RequestId) → IsLegal script (Call i word (Submitted r) ∷ past) → (turns script past).requests < length script.commands
requests_fit script past i word r legal =
    below (request_count past) (request_count past) (request_count (Call i word (Submitted r) ∷ past)) (length script.commands) refl
    (count-cons is_submission (Call i word (Submitted r)) past) (requests_bounded script (Call i word (Submitted r) ∷ past) legal)

pub buffers_fit : (script : Script) (past : List Entry) → is_valid script ≡ true → IsLegal script past → (homes past).first + (length (homes past).places + 72) < 2 ^ 32
buffers_fit script past ok legal = by (made_count past) (first_buffer past) (length (homes past).places) (made_is past) (few-made script past (valid script ok) legal)
  where
    by : (all first more : ℕ) → all ≡ first + more → all ≤ 36864 → first + (more + 72) < 2 ^ 32
    by all first more at few = omega (arith, at, few)
