-- The whole state after an entry is what the entry makes of the state before it.
use Rattle.std.proofs.Common.{◌≡◌, ℕ, Bool, true, false, List, ◌∷◌, Option, Some, None, refl, ap, ◌∙◌}
use Rattle.cam_types.specs.declared.four.Four.{Four}
use Rattle.cam_types.specs.declared.item.Settings.{Settings}
use Rattle.cam_types.specs.declared.number.FrameNo.{FrameNo}
use Rattle.cam_types.specs.declared.number.RequestId.{RequestId}
use Rattle.cam_types.specs.declared.reply.Reply.TheVariants.{Configured}
use Rattle.cam_types.specs.declared.script.Script.{Script}
use Rattle.trace_model.specs.declared.entry.Entry.{Entry}
use Rattle.trace_model.specs.declared.entry.Entry.TheVariants.{Call, Send}
use Rattle.trace_model.specs.declared.entry.Sent.{Sent}
use Rattle.trace_model.specs.Calls.{is_repeating, item_at}
use Rattle.trace_model.specs.Frames.{settings_in}
use Rattle.trace_model.specs.Legal.{IsLegal}
use Rattle.trace_model.specs.Queue.{next}
use Rattle.cam_types.specs.declared.request.Queued.{Queued}
use Rattle.trace_model.specs.Send.{last_settings, may_send}
use Rattle.state_facts.specs.Turns.{Turns, next_of, turns}
use Rattle.state_facts.proofs.Readings.{next_is}
use Rattle.state_facts.proofs.Steps.{noted_is as queue_is}
use Rattle.state_facts.specs.Homes.{Homes}
use Rattle.state_facts.proofs.BufferSteps.{noted_is as buffers_are}
use Rattle.state_facts.specs.Clients.{Clients, clients}
use Rattle.state_facts.specs.Clients as client
use Rattle.state_facts.proofs.ClientSteps.{noted_is as client_is}
use Rattle.state_facts.specs.FrameReadings.{finishes_in}
use Rattle.state_facts.specs.Row.{Row, open_rows, rows_after}
use Rattle.state_facts.proofs.FrameDone.{last_reads}
use Rattle.state_facts.proofs.FrameRows.{rows_follow}
use Rattle.state_facts.proofs.Sensor.{time_reads}
use Rattle.state_facts.specs.Turns.{repeats_next, settings_next}
use Rattle.state_facts.specs.States.{State, last_after, state_after, state}
use Rattle.state_facts.proofs.Items.{IsNext, is-next}

-- ---- what the next item says of a send

next-says : (script : Script) (past : List Entry) (r i : ℕ) (o : Option Queued) → IsNext script past r i o → (settings_in (item_at script past r i) ≡ settings_next o) × (is_repeating script past r ≡ repeats_next o)
next-says script past r i (Some w) h = (ap settings_in h.0, h.1)
next-says script past r i None h = absurd h

send-says : (script : Script) (past : List Entry) (n : FrameNo) (r : RequestId) (i : ℕ) (same : Bool) (targets : Four Sent) → IsLegal script past → may_send script past n.0 r.0 i same targets ≡ true → (settings_in (item_at script past r.0 i) ≡ settings_next (next_of (turns script past))) × (is_repeating script past r.0 ≡ repeats_next (next_of (turns script past)))
send-says script past n r i same targets legal may =
    let says = next-says script past r.0 i (next script past) (is-next script past n.0 r.0 i same targets legal may) in
    (says.0 ∙ ap settings_next (next_is script past), says.1 ∙ ap repeats_next (next_is script past))

-- so what a part of the state makes of an entry is told by the next item
rows-after : (script : Script) (past : List Entry) (e : Entry) → IsLegal script (e ∷ past) → open_rows script (e ∷ past) ≡ rows_after (settings_next (next_of (turns script past))) (repeats_next (next_of (turns script past))) e (open_rows script past)
rows-after script past (Send n r i same targets) legal =
    let says = send-says script past n r i same targets legal.1 legal.0 in
    rows_follow script past (Send n r i same targets) legal ∙ two-args (λ s b. rows_after s b (Send n r i same targets) (open_rows script past)) _ _ _ _ says.0 says.1
  where
    two-args : (f : Settings → Bool → List Row) (s t : Settings) (a b : Bool) → s ≡ t → a ≡ b → f s a ≡ f t b
    two-args f s t a b x y = rw (x, y) refl
rows-after script past e legal = rows_follow script past e legal

client-after : (script : Script) (past : List Entry) (e : Entry) → IsLegal script (e ∷ past) → clients script (e ∷ past) ≡ client.clients_after script (repeats_next (next_of (turns script past))) (finishes_in e (open_rows script past)) e (clients script past)
client-after script past (Send n r i same targets) legal =
    let says = send-says script past n r i same targets legal.1 legal.0 in
    client_is script past (Send n r i same targets) legal ∙ ap (λ b. client.clients_after script b false (Send n r i same targets) (clients script past)) says.1
client-after script past e legal = client_is script past e legal ∙ told script past e (last_reads script past e legal)
  where
    told : (script : Script) (past : List Entry) (e : Entry) → client.finishes script past e ≡ finishes_in e (open_rows script past) → client.clients_after script (client.repeats script past e) (client.finishes script past e) e (clients script past) ≡ client.clients_after script (client.repeats script past e) (finishes_in e (open_rows script past)) e (clients script past)
    told script past e h = ap (λ b. client.clients_after script (client.repeats script past e) b e (clients script past)) h

last-after : (script : Script) (past : List Entry) (e : Entry) → IsLegal script (e ∷ past) → last_settings script (e ∷ past) ≡ last_after (settings_next (next_of (turns script past))) e (last_settings script past)
last-after script past (Send n r i same targets) legal = ap Some (send-says script past n r i same targets legal.1 legal.0).0
last-after script past (Call i word (Configured each)) legal = refl
last-after script past (Call i word _) legal = refl
last-after script past _ legal = refl

-- ---- all of it

same-state : (a b : Turns) (c d : Homes) (x y : Clients) (r s : List Row) (k l : Option Settings) (t u : ℕ) → a ≡ b → c ≡ d → x ≡ y → r ≡ s → k ≡ l → t ≡ u → ◌≡◌ {A = State} (record { queue = a; buffers = c; client = x; rows = r; last = k; clock = t }) (record { queue = b; buffers = d; client = y; rows = s; last = l; clock = u })
same-state a b c d x y r s k l t u e1 e2 e3 e4 e5 e6 = rw (e1, e2, e3, e4, e5, e6) refl

pub noted_is : (script : Script) (past : List Entry) (e : Entry) → IsLegal script (e ∷ past) → state script (e ∷ past) ≡ state_after script e (state script past)
noted_is script past e legal =
    same-state _ _ _ _ _ _ _ _ _ _ _ _ (queue_is script past e legal) (buffers_are script past e legal) (client-after script past e legal) (rows-after script past e legal) (last-after script past e legal) (time_reads script past e legal)
