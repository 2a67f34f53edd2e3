-- While the service is stopping each frame that was sent is stopped.
use Rattle.std.proofs.Common.{◌≡◌, ℕ, Bool, true, false, ◌&&◌, ◌||◌, not, List, [], ◌∷◌, Option, Some, None, refl, inl, inr}
use Rattle.std.proofs.lemmas.Bool.{and_parts, both_ways, cases_Bool, false≢true, not-true, or_right}
use Rattle.cam_types.specs.declared.four.Four.{Four}
use Rattle.cam_types.specs.declared.script.Script.{Script}
use Rattle.trace_model.specs.declared.entry.Entry.{Entry}
use Rattle.trace_model.specs.declared.entry.Entry.TheVariants.{Begin, Call, Send, ErrorDevice}
use Rattle.trace_model.specs.declared.entry.Sent.{Sent}
use Rattle.trace_model.specs.Calls.{begun}
use Rattle.trace_model.specs.Entry.{is_stop_word}
use Rattle.trace_model.specs.Frames.{is_sent}
use Rattle.trace_model.specs.Legal.{IsLegal}
use Rattle.trace_model.specs.Queue.{next}
use Rattle.cam_types.specs.declared.request.Queued.{Queued}
use Rattle.trace_model.specs.Send.{fits_next, has_capacity, may_repeat, targets_in_order}
use Rattle.trace_model.specs.Stopping.{has_failed, is_stopped, is_stopping, stops_by}
use Rattle.trace_model.proofs.LawLemmas.{goes}

goes_on : (script : Script) (past : List Entry) (o : Option Queued) (n r i : ℕ) (same : Bool) (targets : Four Sent) → fits_next script past o n r i same targets ≡ true → is_stopping past ≡ false
goes_on script past None n r i same targets h = absurd (false≢true h)
goes_on script past (Some w) n r i same targets h = not-true (is_stopping past) (and_parts (not (is_stopping past)) (has_capacity script past (targets_in_order w.item) && (not w.repeating || may_repeat script past)) (goes script past w n r i same targets h).now).0

pub stopping-stops : (script : Script) (past : List Entry) (n : ℕ) → IsLegal script past → is_sent n past ≡ true → is_stopping past ≡ true → is_stopped n past ≡ true
stopping-stops script [] n legal sent stopping = absurd (false≢true sent)
stopping-stops script (Begin w ∷ past) n legal sent stopping =
    elim (cases_Bool (is_stop_word w)) [
      | inl here ↦ rw (here, sent) refl
      | inr other ↦ (
          let failed : has_failed past ≡ true = rw other at stopping in
          or_right (is_stop_word w && is_sent n past) (is_stopped n past) (stopping-stops script past n legal.1 sent (or_right (stops_by (begun past)) (has_failed past) failed))
          )
    ]
stopping-stops script (Call i w r ∷ past) n legal sent stopping = stopping-stops script past n legal.1 sent (or_right (stops_by (begun past)) (has_failed past) stopping)
stopping-stops script (Send m r i same targets ∷ past) n legal sent stopping = absurd (both_ways (is_stopping past) (goes_on script past (next script past) m.0 r.0 i same targets legal.0) stopping)
stopping-stops script (ErrorDevice ∷ past) n legal sent stopping = rw sent refl
stopping-stops script (e ∷ past) n legal sent stopping = stopping-stops script past n legal.1 sent stopping
