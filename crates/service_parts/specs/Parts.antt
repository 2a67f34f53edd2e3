use Rattle.std.specs.Prelude.{ℕ, Bool, List, [], Option, None, map}
use Rattle.std.specs.List.{range_with_len}
use Rattle.cam_types.specs.Limits.{first_shutter}
use Rattle.cam_types.specs.declared.item.Settings.{Settings}
use Rattle.cam_types.specs.declared.row.RowView.{RowView}
use Rattle.cam_types.specs.declared.script.Script.{Script}
use Rattle.trace_model.specs.declared.entry.Entry.{Entry}
use Rattle.trace_model.specs.Calls.{is_repeating, request_count}
use Rattle.trace_model.specs.Send.{last_settings}
use Rattle.trace_model.specs.Shutter.{next_time}
use Rattle.run_model.specs.declared.step.Move.{Move}
use Rattle.run_model.specs.History.{trace_of}
use Rattle.run_model.specs.Rows.{rows}
use Rattle.state_facts.specs.Turns.{Turns, no_turns, turns}
use Rattle.state_facts.specs.Homes.{Homes, homes, no_homes}
use Rattle.state_facts.specs.Clients.{Clients, clients, no_clients}
use Rattle.state_facts.specs.States.{State}
use Rattle.service_parts.specs.Pictures.{pictures}

-- What the parts of a service hold after a history: each is what the definitions say of it.

-- what the client has called; what is to be captured next, and of each accepted request whether its items repeat;
-- where the buffers are, and the picture that the client has in each; the device's rows, the oldest frame first; the
-- settings that were sent last, and the time of the next shutter
pub record Parts : Type 0 where
  pub client : Clients
  pub queue : Turns
  pub kinds : List Bool
  pub buffers : Homes
  pub pictures : List (Option (List ℕ))
  pub rows : List RowView
  pub last : Option Settings
  pub clock : ℕ

-- of each accepted request, whether its items repeat
abbrev pub kinds : Script → List Entry → List Bool
kinds script past = map (λ r. is_repeating script past r) (range_with_len 0 (request_count past))

-- the parts that a history leaves
abbrev pub parts : Script → List Move → Parts
parts script h = let past = trace_of h in record {
  client = clients script past;
  queue = turns script past;
  kinds = kinds script past;
  buffers = homes past;
  pictures = pictures script past;
  rows = rows script h;
  last = last_settings script past;
  clock = next_time script past;
}

-- before the first move: the first shutter is at one second
abbrev pub no_parts : Parts
no_parts = record {
  client = no_clients;
  queue = no_turns;
  kinds = [];
  buffers = no_homes;
  pictures = [];
  rows = [];
  last = None;
  clock = first_shutter;
}

-- the state without its frames, which the device's rows tell
abbrev pub base : Parts → State
base p =
    record { queue = p.queue; buffers = p.buffers; client = p.client; rows = []; last = p.last; clock = p.clock }
