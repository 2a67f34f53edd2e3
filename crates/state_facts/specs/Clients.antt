use Rattle.std.specs.Prelude.{ℕ, ◌+◌, Bool, true, false, ◌&&◌, ◌||◌, not, List, [], ◌∷◌, Option, Some, None, find, if◌then◌else◌}
use Rattle.cam_types.specs.declared.reply.Reply.{Reply}
use Rattle.cam_types.specs.declared.reply.Reply.TheVariants.{Configured}
use Rattle.cam_types.specs.declared.script.Script.{Script}
use Rattle.cam_types.specs.declared.script.Word.{Word}
use Rattle.cam_types.specs.declared.stream.StreamSpec.{StreamSpec}
use Rattle.trace_model.specs.declared.entry.Entry.{Entry}
use Rattle.trace_model.specs.declared.entry.Entry.TheVariants.{Begin, Call, Send, Partial, Filled, Failed, ErrorRequest, ErrorResult, ErrorDevice, Early, Late}
use Rattle.trace_model.specs.Calls.{accepts, begun, command_at, is_closed, is_closing_word, is_repeating}
use Rattle.trace_model.specs.Client.{done_since_begin}
use Rattle.trace_model.specs.Configuration.{configures, is_configured, streams, streams_of}
use Rattle.trace_model.specs.Entry.{is_early_with}
use Rattle.trace_model.specs.Frames.{is_repeating_frame}
use Rattle.trace_model.specs.Numbers.{call_count}
use Rattle.trace_model.specs.Open.{is_done}
use Rattle.trace_model.specs.Send.{repeated_since_call}
use Rattle.trace_model.specs.Stopping.{has_failed}

-- What the client has called, as a small state.

-- how many commands were called, the word of the one that has begun, whether an accepted configuration, an accepted
-- close and a failure of the device stand, the streams, how many repeating frames were sent since the last call, and
-- with how many the device was done since the last begin
pub record Clients : Type 0 where
  pub calls : ℕ
  pub begun : Option Word
  pub configured : Bool
  pub closed : Bool
  pub failed : Bool
  pub streams : List StreamSpec
  pub repeated : ℕ
  pub done : ℕ

-- before the first command
abbrev pub no_clients : Clients
no_clients =
    record {
      calls = 0;
      begun = None;
      configured = false;
      closed = false;
      failed = false;
      streams = [];
      repeated = 0;
      done = 0;
    }

-- ---- the state that a past leaves

-- what the client has called, as a past leaves it
abbrev pub clients : Script → List Entry → Clients
clients script past = record {
  calls = call_count past;
  begun = begun past;
  configured = is_configured past;
  closed = is_closed past;
  failed = has_failed past;
  streams = streams script past;
  repeated = repeated_since_call script past;
  done = done_since_begin script past;
}

-- ---- what each entry does to the state

-- an accepted configuration has its own streams
abbrev pub streams_called : Script → ℕ → Reply → List StreamSpec → List StreamSpec
streams_called script i (Configured _) old = streams_of (command_at script i)
streams_called script i _ old = old

-- one more where the test passes
abbrev pub one_if : Bool → ℕ
one_if b = if b then 1 else 0

-- the two tests are what the queue and the frames say of the entry: that it sends an item of a repeating list, and that
-- the device is done with a frame of one
abbrev pub clients_after : Script → Bool → Bool → Entry → Clients → Clients
clients_after script repeats finishes (Begin word) t = record t { begun = Some word; done = 0 }
clients_after script repeats finishes (Call i word reply) t = record t {
  calls = i + 1;
  begun = None;
  configured = configures (Call i word reply) || t.configured;
  closed = accepts is_closing_word (Call i word reply) || t.closed;
  streams = streams_called script i reply t.streams;
  repeated = 0;
}
clients_after script repeats finishes (Send _ _ _ _ _) t = record t { repeated = one_if repeats + t.repeated }
clients_after script repeats finishes (Partial _ _ _) t = record t { done = one_if finishes + t.done }
clients_after script repeats finishes (Filled _ _ _ _ _) t = record t { done = one_if finishes + t.done }
clients_after script repeats finishes (Failed _ _ _ _) t = record t { done = one_if finishes + t.done }
clients_after script repeats finishes (ErrorRequest _) t = record t { done = one_if finishes + t.done }
clients_after script repeats finishes (ErrorResult _) t = record t { done = one_if finishes + t.done }
clients_after script repeats finishes (Late _ _) t = record t { done = one_if finishes + t.done }
clients_after script repeats finishes ErrorDevice t = record t { failed = true }
clients_after script repeats finishes _ t = t

-- the entry sends an item of a repeating request
abbrev pub repeats : Script → List Entry → Entry → Bool
repeats script past (Send _ r _ _ _) = is_repeating script past r.0
repeats script past _ = false

-- the entry is the last of frame n, which is of a repeating request
abbrev pub ends_frame : Script → List Entry → ℕ → Entry → Bool
ends_frame script past n e = is_repeating_frame script past n && (is_done n (e ∷ past) && not (is_done n past))

-- the entry, which signals a device fence, is the last of the frame whose early return has it
abbrev pub ends_early : Script → List Entry → Entry → Option Entry → Bool
ends_early script past e (Some (Early n _ _ _)) = ends_frame script past n.0 e
ends_early script past e _ = false

-- the entry is the last of a frame of a repeating request
abbrev pub finishes : Script → List Entry → Entry → Bool
finishes script past (Partial n k part) = ends_frame script past n.0 (Partial n k part)
finishes script past (Filled n s b f d) = ends_frame script past n.0 (Filled n s b f d)
finishes script past (Failed n s b f) = ends_frame script past n.0 (Failed n s b f)
finishes script past (ErrorRequest n) = ends_frame script past n.0 (ErrorRequest n)
finishes script past (ErrorResult n) = ends_frame script past n.0 (ErrorResult n)
finishes script past (Late d x) = ends_early script past (Late d x) (find (is_early_with d.0) past)
finishes script past _ = false
