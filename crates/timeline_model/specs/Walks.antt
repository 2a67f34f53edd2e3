-- What stands after the entries so far, as the code carries it on. No public contract speaks of it.
use Rattle.std.specs.Prelude.{◌≡◌, ℕ, ◌+◌, ◌-◌, List, length}
use Rattle.cam_types.specs.declared.reply.Reply.TheVariants.{Submitted}
use Rattle.cam_types.specs.declared.script.Script.{Script}
use Rattle.trace_model.specs.Calls.{begun, command_at}
use Rattle.trace_model.specs.Queue.{queued, queued_items}
use Rattle.trace_model.specs.Stopping.{has_failed, stops_by}
use Rattle.trace_model.specs.declared.entry.Entry.{Entry}
use Rattle.trace_model.specs.declared.entry.Entry.TheVariants.{Call, Send, Dropped}
use Rattle.timeline_model.specs.Drawings.{begun_at, most_streams, seats}
use Rattle.timeline_model.specs.declared.walk.Walk.{Walk}

-- how many items wait after an entry of a legal trace
abbrev pub queued_by : Script → Entry → ℕ → ℕ
queued_by script (Call i _ (Submitted _)) q = q + length (queued_items (command_at script i))
queued_by script (Send _ _ _ _ _) q = q - 1
queued_by script (Dropped _ _ _) q = q - 1
queued_by script _ q = q

pub record Fits (script : Script) (past : List Entry) (w : Walk) : Type 0 where
  pub rows : w.seats.items ≡ seats past
  pub queue : w.queued ≡ length (queued script past)
  pub begin : w.begun ≡ begun_at past
  pub stop : w.stops ≡ stops_by (begun past)
  pub failure : w.failed ≡ has_failed past
  pub lanes : w.streams ≡ most_streams past
